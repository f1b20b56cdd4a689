-- What a network without faults is bound to.
use Rattle.std.proofs.Common.{ℕ, suc, ◌≡◌, ◌<◌, Bool, true, false, cond, List, [], ◌∷◌, ◌++◌, map, length, Option, Some, None, refl, sym, ap, subst, ◌∙◌}
use Rattle.std.specs.Prelude.{flat_map, option_map, unwrap_or, IfSome}
use Rattle.std.specs.Str.{bytes_eq}
use Rattle.std.proofs.lemmas.Bool.{eqb-true}
use Rattle.std.proofs.lemmas.List.{length-map}
use Rattle.htn_base.specs.Different.{AreDifferent}
use Rattle.text_forms.specs.Words.{Word, word_at, first_place, is_name}
use Rattle.gd_reader.specs.Terms.{Names}
use Rattle.gd_reader.specs.declared.term.RawTerm.{RawTerm}
use Rattle.hddl_reader.specs.declared.networks.RawCon.{RawCon}
use Rattle.hddl_reader.specs.declared.networks.RawNet.{RawNet}
use Rattle.hddl_reader.specs.declared.networks.RawPair.{RawPair}
use Rattle.hddl_reader.specs.declared.networks.RawSub.{RawSub}
use Rattle.hddl_reader.specs.declared.sections.RawDomain.{RawDomain}
use Rattle.plan_model.specs.declared.networks.Child.{Child}
use Rattle.plan_model.specs.Pairs.{pair}
use Rattle.plan_texts.specs.Declared as words
use Rattle.plan_texts.specs.Declared.{named}
use Rattle.plan_texts.specs.Networks.{chain_if, id_word, ids_by_place}
use Rattle.plan_texts.specs.Printable.{IsPlain}
use Rattle.plan_texts.specs.Together.{Together}
use Rattle.plan_texts.specs.Types.{EachIs}
use Rattle.text_values.specs.form_spellings.Bound.{IsBoundTerm}
use Rattle.text_values.specs.form_spellings.BoundNetworks.{IsBoundPair, IsBoundConstraint, IsBoundId, IsBoundSubtask}
use Rattle.text_values.specs.form_spellings.EachName.{OfAtom}
use Rattle.text_values.specs.form_spellings.InTable.{IsIn, IsNameIn}
use Rattle.hddl_reader.specs.names.Words.{callables}
use Rattle.name_binding.specs.declared.faults.Spot.{Spot}
use Rattle.name_binding.specs.Terms.{term_faults, terms_bound, terms_faults, unless_found}
use Rattle.hddl_bind.specs.Callables.{Declared, heads}
use Rattle.hddl_bind.specs.Calls.{called, call_faults}
use Rattle.hddl_bind.specs.Cycle.{cycle_faults, limit_faults, order_faults}
use Rattle.hddl_bind.specs.Ids.{ids, id_at, has_id, second_ids, subtask_of}
use Rattle.hddl_bind.specs.Networks.{id_bound, constraint_bound, constraint_faults, child_bound, child_faults}
use Rattle.hddl_bind.specs.Pairs.{if_both, if_pair, first_of, second_of, written, pair_faults}
use Rattle.text_values.specs.form_spellings.binding_laws.Calls.{AreCallablesOf, called_words, OfAllCallables}
use Rattle.text_values.specs.form_spellings.binding_laws.InOrder.{IsPlainName}
use Rattle.text_values.specs.form_spellings.binding_laws.Kinds.{AreTermsIn}
use Rattle.text_values.specs.form_spellings.binding_laws.NetworkValues.{HasObjects, IsNetworkBound}
use Rattle.text_values.specs.form_spellings.binding_laws.Numbers.{words_of}
use Rattle.text_values.specs.form_spellings.binding_laws.Orders.{AreIdsIn}
use Rattle.text_values.specs.form_spellings.binding_laws.Terms.{AreOfTable}
use Rattle.text_values.proofs.form_spellings.binding_laws.CallValues.{is_call_bound}
use Rattle.text_values.proofs.form_spellings.binding_laws.OrderWords.{AreIn}
use Rattle.text_values.proofs.form_spellings.binding_laws.Places.{same_word}
use Rattle.text_values.proofs.form_spellings.binding_laws.Terms.{found_at, is_term_bound}
use Rattle.text_values.proofs.form_spellings.binding_laws.Written.{none_left, none_right}

-- a name is no empty word
no_empty : (w : Word) → is_name w ≡ true → bytes_eq w [] ≡ false
no_empty [] e = absurd (cc)
no_empty (b ∷ w) e = refl

module _ (names : Names) (n : ℕ) where
  behind : {X : Type 0} (o p : Option ℕ) (i : ℕ) → p ≡ o → option_map suc o ≡ Some i → ((j : ℕ) → p ≡ Some j → X) → X
  behind None p i g f more = absurd (cc)
  behind (Some j) p i g f more = more j g

  -- an id that a subtask has is a name, since the subtask's is
  id_plain : (ss : List RawSub) (i : ℕ) → subtask_of n ss ≡ Some i → EachIs (IsPlainName names) (ids ss) → IsPlain (word_at names n)
  id_plain [] i e p = absurd (cc)
  id_plain (s ∷ ss) i e p = go s.id (has_id n s.id) refl e p (id_plain ss)
    where
      go : (o : Option RawTerm) (b : Bool) → has_id n o ≡ b → cond b (Some 0) (option_map suc (subtask_of n ss)) ≡ Some i → EachIs (IsPlainName names) (id_at o ++ ids ss)
          → ((j : ℕ) → subtask_of n ss ≡ Some j → EachIs (IsPlainName names) (ids ss) → IsPlain (word_at names n)) → IsPlain (word_at names n)
      go None true f e p more = absurd (cc)
      go None false f e p more = behind (subtask_of n ss) (subtask_of n ss) i refl e (λ j g. more j g p)
      go (Some t) true f e p more = subst (λ k. IsPlain (word_at names k)) (sym (eqb-true n t.name.number f)) p.0
      go (Some t) false f e p more = behind (subtask_of n ss) (subtask_of n ss) i refl e (λ j g. more j g p.1)

module _ (names : Names) (d : RawDomain) (known : Declared) (objects scope : List ℕ) (differ : AreDifferent names) (v : words.Declared) (has : HasObjects v names objects) where
  abbrev outer : List Word
  outer = words_of names scope

  abbrev child : RawSub → Child
  child s = child_bound known objects scope s

  -- the place of an id among the ids of subtasks
  id_place : (n : ℕ) → n < length names → bytes_eq (word_at names n) [] ≡ false → (o : Option RawTerm) → IfSome o (λ (t : RawTerm). IsIn names t.name) → bytes_eq (word_at names n) (id_word v (id_bound o)) ≡ has_id n o
  id_place n k e None i = e
  id_place n k e (Some t) i = ap (λ ws. bytes_eq (word_at names n) (named ws t.name)) has.table ∙ same_word names n t.name.number differ k i

  ids_place : (n : ℕ) → n < length names → bytes_eq (word_at names n) [] ≡ false → (ss : List RawSub) → AreIn names ss → first_place (word_at names n) (ids_by_place v (map child ss)) ≡ subtask_of n ss
  ids_place n k e [] i = refl
  ids_place n k e (s ∷ ss) i =
      ap (λ b. cond b (Some 0) (option_map suc (first_place (word_at names n) (ids_by_place v (map child ss))))) (id_place n k e s.id i.0)
      ∙ ap (λ o. cond (has_id n s.id) (Some 0) (option_map suc o)) (ids_place n k e ss i.1)

  module _ (n : RawNet) (is : AreIdsIn names n) (plain : EachIs (IsPlainName names) (ids n.subs)) where
    abbrev places : List Word
    places = ids_by_place v (map child n.subs)

    at_place : (t : RawTerm) (i : ℕ) → IsIn names t.name → subtask_of t.name.number n.subs ≡ Some i → first_place (named names t.name) places ≡ Some i
    at_place t i k e = ids_place t.name.number k (no_empty (word_at names t.name.number) (id_plain names t.name.number n.subs i e plain).1) n.subs is.ids ∙ e

    pair_is : (x : RawPair) → IsIn names x.first.name × IsIn names x.then.name → pair_faults n.subs x ≡ [] → (i : ℕ) × (j : ℕ) × (written n.subs x ≡ pair i j ∷ []) × IsBoundPair names places x (pair i j)
    pair_is x k e =
        let f = found_at 19 x.first.at (first_of n.subs x) (none_left (unless_found 19 x.first.at (first_of n.subs x)) (unless_found 19 x.then.at (second_of n.subs x)) e) in
        let g = found_at 19 x.then.at (second_of n.subs x) (none_right (unless_found 19 x.first.at (first_of n.subs x)) (unless_found 19 x.then.at (second_of n.subs x)) e) in
        let i = unwrap_or (first_of n.subs x) 0 in
        let j = unwrap_or (second_of n.subs x) 0 in (
          i,
          j,
          ap (λ o. if_pair (λ p. p) (if_both o (second_of n.subs x))) f ∙ ap (λ o. if_pair (λ p. p) (if_both (Some i) o)) g,
          (at_place x.first i k.0 f, at_place x.then j k.1 g),
        )

    pairs_are : (xs : List RawPair) → EachIs (λ (x : RawPair). IsIn names x.first.name × IsIn names x.then.name) xs → flat_map (pair_faults n.subs) xs ≡ [] → Together (IsBoundPair names places) xs (flat_map (written n.subs) xs)
    pairs_are [] k e = tt
    pairs_are (x ∷ xs) k e =
        let r = pair_is x k.0 (none_left (pair_faults n.subs x) (flat_map (pair_faults n.subs) xs) e) in
        subst (λ ws. Together (IsBoundPair names places) (x ∷ xs) (ws ++ flat_map (written n.subs) xs)) (sym r.2)
        (r.3, pairs_are xs k.1 (none_right (pair_faults n.subs x) (flat_map (pair_faults n.subs) xs) e))

  module _ (table : AreOfTable names objects scope) where
    pub args_are : (ts : List RawTerm) → AreTermsIn names ts → terms_faults objects scope ts ≡ [] → Together (IsBoundTerm v names outer) ts (terms_bound objects scope ts)
    args_are [] k e = tt
    args_are (t ∷ ts) k e = (
      is_term_bound names objects scope v t table k.0 has.objects_are (none_left (term_faults objects scope t) (terms_faults objects scope ts) e),
      args_are ts k.1 (none_right (term_faults objects scope t) (terms_faults objects scope ts) e),
    )

    limits_are : (cs : List RawCon) → EachIs (λ (c : RawCon). IsIn names c.left.name × IsIn names c.right.name) cs → flat_map (constraint_faults objects scope) cs ≡ [] → Together (IsBoundConstraint v names outer) cs (map (constraint_bound objects scope) cs)
    limits_are [] k e = tt
    limits_are (c ∷ cs) k e =
        let f = none_left (constraint_faults objects scope c) (flat_map (constraint_faults objects scope) cs) e in (
          (
            refl,
            is_term_bound names objects scope v c.left table k.0.0 has.objects_are (none_left (term_faults objects scope c.left) (term_faults objects scope c.right) f),
            is_term_bound names objects scope v c.right table k.0.1 has.objects_are (none_right (term_faults objects scope c.left) (term_faults objects scope c.right) f),
          ),
          limits_are cs k.1 (none_right (constraint_faults objects scope c) (flat_map (constraint_faults objects scope) cs) e),
        )

    id_is : (o : Option RawTerm) → IsBoundId v names o (id_bound o)
    id_is None = tt
    id_is (Some t) = ap (λ ws. named ws t.name) has.table

    module _ (of : AreCallablesOf names d known) (apart : AreDifferent (called_words names d known (callables d))) where
      abbrev IsBoundSub : RawSub → Child → Type 0
      IsBoundSub s c = IsBoundSubtask v names (called_words names d known d.tasks) (called_words names d known (heads d.actions)) outer s c

      subtask_is : (s : RawSub) → OfAtom (IsNameIn names) s.atom → child_faults known objects scope s ≡ [] → IsBoundSub s (child s)
      subtask_is s k e = (
        id_is s.id,
        (
          is_call_bound names d known s.atom of k.0 apart (none_left (call_faults (called known s.atom) s.atom) (terms_faults objects scope s.atom.args) e),
          args_are s.atom.args k.1 (none_right (call_faults (called known s.atom) s.atom) (terms_faults objects scope s.atom.args) e),
        ),
      )

      subtasks_are : (ss : List RawSub) → EachIs (λ (s : RawSub). OfAtom (IsNameIn names) s.atom) ss → flat_map (child_faults known objects scope) ss ≡ [] → Together IsBoundSub ss (map child ss)
      subtasks_are [] k e = tt
      subtasks_are (s ∷ ss) k e = (
        subtask_is s k.0 (none_left (child_faults known objects scope s) (flat_map (child_faults known objects scope) ss) e),
        subtasks_are ss k.1 (none_right (child_faults known objects scope s) (flat_map (child_faults known objects scope) ss) e),
      )

pub is_network_bound : OfAllCallables (λ names d known. (objects scope : List ℕ) → IsNetworkBound names d known objects scope)
is_network_bound names d known objects scope v n cycle of table has is apart plain e =
    let orders = none_left (order_faults n cycle) (children ++ limits) e in
    let parts = none_right (order_faults n cycle) (children ++ limits) e in
    let behind_ids = none_right (second_ids n.subs) (unknown ++ (cycle_faults cycle ++ limit_faults n.subs)) orders in
    record {
      subtasks = subtasks_are names d known objects scope of.differ v has table of apart n.subs is.calls (none_left children limits parts);
      written = flat_map (written n.subs) n.pairs;
      pairs_are = ap (λ k. chain_if n.ordered k ++ flat_map (written n.subs) n.pairs) (sym (length-map n.subs (child_bound known objects scope)));
      ordering = pairs_are names d known objects scope of.differ v has n is.ordering plain n.pairs is.ordering.pairs (none_left unknown (cycle_faults cycle ++ limit_faults n.subs) behind_ids);
      limits = limits_are names d known objects scope of.differ v has table n.constraints is.constraints (none_right children limits parts);
    }
  where
    unknown : List Spot
    unknown = flat_map (pair_faults n.subs) n.pairs

    children : List Spot
    children = flat_map (child_faults known objects scope) n.subs

    limits : List Spot
    limits = flat_map (constraint_faults objects scope) n.constraints
