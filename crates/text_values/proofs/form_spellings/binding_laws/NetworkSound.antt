-- The network of a method without faults is sound.
use Rattle.std.proofs.Common.{ℕ, zero, suc, ◌≡◌, ◌<◌, ◌+◌, Bool, true, false, cond, List, [], ◌∷◌, ◌++◌, map, length, Option, Some, None, refl, sym, ap, subst, ◌∙◌, arith}
use Rattle.std.specs.Prelude.{flat_map, option_map}
use Rattle.std.specs.List.{filter_map}
use Rattle.std.proofs.lemmas.List.{length-map}
use Rattle.htn_base.specs.Different.{AreDifferent}
use Rattle.htn_base.specs.declared.name.Name.{Name}
use Rattle.gd_reader.specs.Terms.{Names}
use Rattle.gd_reader.specs.declared.term.RawTerm.{RawTerm}
use Rattle.hddl_reader.specs.declared.networks.RawPair.{RawPair}
use Rattle.hddl_reader.specs.declared.networks.RawSub.{RawSub}
use Rattle.plan_model.specs.declared.networks.Child.{Child}
use Rattle.plan_texts.specs.Declared.{named}
use Rattle.plan_texts.specs.Networks.{chain, chain_if}
use Rattle.plan_texts.specs.Printable.{IsPlain}
use Rattle.plan_texts.specs.SoundProblem.{NamesSubtasks}
use Rattle.plan_texts.specs.Types.{EachIs}
use Rattle.htn_base.specs.Lists.{Has}
use Rattle.hddl_reader.specs.names.Words.{IsSecond, term_word}
use Rattle.name_binding.specs.Spots.{spot}
use Rattle.hddl_bind.specs.Callables.{Declared}
use Rattle.hddl_bind.specs.Cycle.{cycle_faults, limit_faults, order_faults}
use Rattle.hddl_bind.specs.Ids.{term_number, term_at, id_at, ids, has_id, second_ids, subtask_of}
use Rattle.hddl_bind.specs.Networks.{id_bound, child_bound, child_faults, constraint_faults}
use Rattle.hddl_bind.specs.Pairs.{if_both, if_pair, first_of, second_of, written, pairs_bound, pair_faults}
use Rattle.text_values.specs.form_spellings.binding_laws.InOrder.{IsPlainName}
use Rattle.text_values.specs.form_spellings.binding_laws.Seconds.{declares_at}
use Rattle.text_values.specs.form_spellings.binding_laws.SoundNetworks.{HasSoundNetwork}
use Rattle.text_values.proofs.form_spellings.binding_laws.NoSeconds.{words_differ, rising_differ, at_of, word_of}
use Rattle.text_values.proofs.form_spellings.binding_laws.Ones.{each_both}
use Rattle.text_values.proofs.form_spellings.binding_laws.SecondWords.{has_seconds}
use Rattle.text_values.proofs.form_spellings.binding_laws.Written.{none_left}

-- the subtask of an id is one of them
subtask_within : (n i : ℕ) (ss : List RawSub) → subtask_of n ss ≡ Some i → i < length ss
subtask_within n i [] e = absurd (cc)
subtask_within n i (s ∷ ss) e = go (has_id n s.id) e (λ j. subtask_within n j ss)
  where
    behind : (o : Option ℕ) → subtask_of n ss ≡ o → option_map suc o ≡ Some i → ((j : ℕ) → subtask_of n ss ≡ Some j → j < length ss) → i < suc (length ss)
    behind None g f more = absurd (cc)
    behind (Some j) g f more = let same : suc j ≡ i = cc in let l = more j g in subst (λ i. i < suc (length ss)) same (omega arith)

    go : (b : Bool) → cond b (Some 0) (option_map suc (subtask_of n ss)) ≡ Some i → ((j : ℕ) → subtask_of n ss ≡ Some j → j < length ss) → i < suc (length ss)
    go true e more = let same : 0 ≡ i = cc in subst (λ i. i < suc (length ss)) same (omega arith)
    go false e more = behind (subtask_of n ss) refl e more

-- each subtask before the next
chain_within : (k n : ℕ) → EachIs (NamesSubtasks (k + n)) (chain k n)
chain_within k zero = tt
chain_within k (suc zero) = tt
chain_within k (suc (suc n)) =
    let moves : suc k + suc n ≡ k + suc (suc n) = omega arith in
    ((omega arith, omega arith), subst (λ m. EachIs (NamesSubtasks m) (chain (suc k) (suc n))) moves (chain_within (suc k) (suc n)))

chain_if_within : (b : Bool) (n : ℕ) → EachIs (NamesSubtasks n) (chain_if b n)
chain_if_within true n = subst (λ m. EachIs (NamesSubtasks m) (chain 0 n)) (let same : 0 + n ≡ n = omega arith in same) (chain_within 0 n)
chain_if_within false n = tt

module _ (subs : List RawSub) where
  one_within : (o p : Option ℕ) → ((i : ℕ) → o ≡ Some i → i < length subs) → ((j : ℕ) → p ≡ Some j → j < length subs) → EachIs (NamesSubtasks (length subs)) (if_pair (λ q. q) (if_both o p))
  one_within None p f g = tt
  one_within (Some i) None f g = tt
  one_within (Some i) (Some j) f g = ((f i refl, g j refl), tt)

  written_within : (xs : List RawPair) → EachIs (NamesSubtasks (length subs)) (flat_map (written subs) xs)
  written_within [] = tt
  written_within (x ∷ xs) =
      each_both (NamesSubtasks (length subs)) (written subs x) (flat_map (written subs) xs)
      (one_within (first_of subs x) (second_of subs x) (λ i. subtask_within x.first.name.number i subs) (λ j. subtask_within x.then.name.number j subs)) (written_within xs)

module _ (names : Names) (known : Declared) (objects scope : List ℕ) where
  ids_written : (ss : List RawSub) → map (named names) (filter_map (λ (c : Child). c.id) (map (child_bound known objects scope) ss)) ≡ map (term_word names) (ids ss)
  ids_written [] = refl
  ids_written (s ∷ ss) = go s.id (ids_written ss)
    where
      rest : List Name
      rest = filter_map (λ (c : Child). c.id) (map (child_bound known objects scope) ss)

      go : (o : Option RawTerm) → map (named names) rest ≡ map (term_word names) (ids ss) → map (named names) (filter_map (λ (c : Child). c.id) (record { id = id_bound o; head = (child_bound known objects scope s).head; args = (child_bound known objects scope s).args } ∷ map (child_bound known objects scope) ss)) ≡ map (term_word names) (id_at o ++ ids ss)
      go None e = e
      go (Some t) e = ap (λ ws. term_word names t ∷ ws) e

  plain_words : (ts : List RawTerm) → EachIs (IsPlainName names) ts → EachIs IsPlain (map (term_word names) ts)
  plain_words [] p = tt
  plain_words (t ∷ ts) p = (p.0, plain_words ts p.1)

  offsets_are : (ts : List RawTerm) → map at_of (map (declares_at term_number term_at names) ts) ≡ map term_at ts
  offsets_are [] = refl
  offsets_are (t ∷ ts) = ap (λ ns. t.at ∷ ns) (offsets_are ts)

  words_are : (ts : List RawTerm) → map word_of (map (declares_at term_number term_at names) ts) ≡ map (term_word names) ts
  words_are [] = refl
  words_are (t ∷ ts) = ap (λ ws. term_word names t ∷ ws) (words_are ts)

pub has_sound_network : HasSoundNetwork
has_sound_network names known objects scope n cycle m is order e same_children same_pairs =
    let seconds = none_left (second_ids n.subs) (flat_map (pair_faults n.subs) n.pairs ++ (cycle_faults cycle ++ limit_faults n.subs)) (none_left (order_faults n cycle) (flat_map (child_faults known objects scope) n.subs ++ flat_map (constraint_faults objects scope) n.constraints) e) in
    let none : (at : ℕ) → IsSecond [] (map (declares_at term_number term_at names) (ids n.subs)) at → ⊥ = λ at s. subst (λ ss. Has ss (spot at 10)) seconds ((has_seconds term_number term_at names [] (ids n.subs) 10 at is.declared).1 (refl, s)) in
    record {
      pairs = subst (λ ps. EachIs (NamesSubtasks (length m.children)) ps) (sym same_pairs) (subst (λ k. EachIs (NamesSubtasks k) (pairs_bound n)) (sym (ap length same_children ∙ length-map n.subs (child_bound known objects scope)))
          (each_both (NamesSubtasks (length n.subs)) (chain_if n.ordered (length n.subs)) (flat_map (written n.subs) n.pairs) (chain_if_within n.ordered (length n.subs)) (written_within n.subs n.pairs)));
      ids_named = subst (EachIs IsPlain) (sym (written_are ∙ ids_written names known objects scope n.subs)) (plain_words names known objects scope (ids n.subs) order.ids_plain);
      ids_differ = subst AreDifferent (sym (written_are ∙ ids_written names known objects scope n.subs)) (subst AreDifferent (words_are names known objects scope (ids n.subs))
          (words_differ [] (map (declares_at term_number term_at names) (ids n.subs)) none (subst AreDifferent (sym (offsets_are names known objects scope (ids n.subs))) (rising_differ (map term_at (ids n.subs)) order.ids_in_order))));
    }
  where
    written_are : map (named names) (filter_map (λ (c : Child). c.id) m.children) ≡ map (named names) (filter_map (λ (c : Child). c.id) (map (child_bound known objects scope) n.subs))
    written_are = ap (λ cs. map (named names) (filter_map (λ (c : Child). c.id) cs)) same_children
