-- The ids, the ordering and the size of a network that is bound to a sound one have no fault.
use Rattle.std.proofs.Common.{ℕ, zero, suc, ◌≡◌, ◌<◌, ◌≤◌, ◌+◌, Bool, true, false, eqb, inl, inr, List, [], ◌∷◌, ◌++◌, map, length, Option, Some, None, refl, sym, ap, subst, ◌∙◌, arith}
use Rattle.std.specs.Prelude.{◌⊎◌, slice_get, Contains, option_map}
use Rattle.std.specs.List.{filter_map, cons_option}
use Rattle.std.proofs.lemmas.Bool.{cond-true, cond-false, eqb-true, eqb-false}
use Rattle.std.proofs.lemmas.Option.{slice_get_past}
use Rattle.std.specs.Str.{bytes_eq}
use Rattle.htn_base.specs.declared.name.Name.{Name}
use Rattle.htn_base.specs.Different.{AreDifferent}
use Rattle.text_forms.specs.Words.{Word, first_place}
use Rattle.plan_model.specs.task_networks.Order.{Precedes, direct, through, IsAcyclic}
use Rattle.gd_reader.specs.Terms.{Names}
use Rattle.gd_reader.specs.declared.term.RawTerm.{RawTerm}
use Rattle.hddl_reader.specs.declared.networks.RawNet.{RawNet}
use Rattle.hddl_reader.specs.declared.networks.RawPair.{RawPair}
use Rattle.hddl_reader.specs.declared.networks.RawSub.{RawSub}
use Rattle.plan_model.specs.declared.networks.Child.{Child}
use Rattle.plan_model.specs.declared.networks.Constraint.{Constraint}
use Rattle.plan_model.specs.declared.networks.Pair.{Pair}
use Rattle.plan_model.specs.Pairs.{pair, Pairs}
use Rattle.plan_texts.specs.Declared.{Declared, named}
use Rattle.plan_texts.specs.Networks.{chain, chain_if, id_word, ids_by_place}
use Rattle.plan_texts.specs.Together.{Together}
use Rattle.plan_texts.specs.Types.{EachIs}
use Rattle.plan_texts.specs.Types as value
use Rattle.plan_texts.proofs.Basics.{bytes_eq-refl, bytes_eq-other}
use Rattle.plan_texts.proofs.Members.{each-has, has-contains}
use Rattle.plan_texts.proofs.Together.{together-map, together-length}
use Rattle.text_values.specs.form_spellings.BoundNetworks.{IsBoundPair, IsBoundId, IsBoundSubtask, IsBoundNetwork}
use Rattle.htn_base.specs.Lists.{One}
use Rattle.hddl_reader.specs.names.Words.{WordAt, term_word, IsSecond}
use Rattle.hddl_reader.specs.names.Networks.{id_at, ids, HasId, UnknownSubtaskId, IsUnknownId, IsSubtask, IsPair, IsChained, IsOrdered, CyclicOrder, TooManySubtasks}
use Rattle.text_values.proofs.form_spellings.faultless.Lists.{one_has, has_one, has_front, has_back, beside, beside_at, first_found}
use Rattle.text_values.proofs.form_spellings.faultless.Seconds.{word, no_second}

-- each subtask comes before the next
chain_has : (k n i : ℕ) → k ≤ i → suc i < k + n → value.Has (chain k n) (pair i (suc i))
chain_has k zero i l m = absurd (omega arith)
chain_has k (suc zero) i l m = absurd (omega arith)
chain_has k (suc (suc n)) i l m = go (eqb k i) refl (λ (q : suc k ≤ i). chain_has (suc k) (suc n) i q (omega arith))
  where
    go : (b : Bool) → eqb k i ≡ b → (suc k ≤ i → value.Has (chain (suc k) (suc n)) (pair i (suc i))) → value.Has (chain k (suc (suc n))) (pair i (suc i))
    go true e more = inl (λ j. pair (eqb-true k i e j) (suc (eqb-true k i e j)))
    go false e more = let ne = eqb-false k i e in inr (more (omega arith))

-- what stands beside an item
partner : {X Y : Type 0} (R : X → Y → Type 0) (xs : List X) (ys : List Y) (x : X) → Together R xs ys → value.Has xs x → (y : Y) × value.Has ys y × R x y
partner R xs ys x t h = let g = beside R (λ z. z ≡ x) xs ys t (has_one (λ z. z ≡ x) xs x h refl) in (g.1, g.3, subst (λ z. R z g.1) g.5 g.4)

-- the words of a pair are not empty
abbrev pub IsPairNamed : Names → RawPair → Type 0
IsPairNamed names x = (term_word names x.first ≡ [] → ⊥) × (term_word names x.then ≡ [] → ⊥)

module _ (names : Names) (v : Declared) where
  abbrev AreIds : List RawSub → List Child → Type 0
  AreIds = Together (λ (s : RawSub) (c : Child). IsBoundId v names s.id c.id)

  -- the id of a subtask is that of its child
  id_given : (o : Option RawTerm) (i : Option Name) (w : Word) → IsBoundId v names o i → One (λ (x : WordAt). x.word ≡ w) (id_at names o) → id_word v i ≡ w
  id_given None i w b o = absurd o
  id_given (Some t) None w b o = absurd b
  id_given (Some t) (Some n) w b (inl e) = b ∙ e
  id_given (Some t) (Some n) w b (inr o) = absurd o

  id_back : (o : Option RawTerm) (i : Option Name) (w : Word) → (w ≡ [] → ⊥) → IsBoundId v names o i → id_word v i ≡ w → One (λ (x : WordAt). x.word ≡ w) (id_at names o)
  id_back None None w some b e = absurd (some (sym e))
  id_back None (Some n) w some b e = absurd b
  id_back (Some t) None w some b e = absurd b
  id_back (Some t) (Some n) w some b e = inl (sym b ∙ e)

  pub same_ids : (ss : List RawSub) (cs : List Child) → AreIds ss cs → map word (ids names ss) ≡ map (named v.names) (filter_map (λ (c : Child). c.id) cs)
  same_ids [] [] t = refl
  same_ids [] (c ∷ cs) t = absurd t
  same_ids (s ∷ ss) [] t = absurd t
  same_ids (s ∷ ss) (c ∷ cs) t = go s.id c.id t.0 (same_ids ss cs t.1)
    where
      go : (o : Option RawTerm) (i : Option Name) → IsBoundId v names o i → map word (ids names ss) ≡ map (named v.names) (filter_map (λ (c : Child). c.id) cs)
          → map word (id_at names o ++ ids names ss) ≡ map (named v.names) (cons_option i (filter_map (λ (c : Child). c.id) cs))
      go None None b e = e
      go None (Some n) b e = absurd b
      go (Some t) None b e = absurd b
      go (Some t) (Some n) b e = λ j. sym b j ∷ e j

  -- an id that is found is that of a subtask
  known_id : (w : Word) (ss : List RawSub) (cs : List Child) (k : ℕ) → (w ≡ [] → ⊥) → AreIds ss cs → first_place w (ids_by_place v cs) ≡ Some k → One (HasId names w) ss
  known_id w ss cs k some t e =
      let f = first_found (λ (c : Child). id_word v c.id) w cs k e in
      let g = beside_at (λ (s : RawSub) (c : Child). IsBoundId v names s.id c.id) ss cs k f.0 t f.1 in
      has_one (HasId names w) ss g.0 g.1 (id_back g.0.id f.0.id w some g.2 f.2)

  -- the first subtask with an id is found
  id_found : (w : Word) (front : List RawSub) (s : RawSub) (rest : List RawSub) (cs : List Child) → (w ≡ [] → ⊥) → AreIds (front ++ s ∷ rest) cs → HasId names w s → (One (HasId names w) front → ⊥)
      → first_place w (ids_by_place v cs) ≡ Some (length front)
  id_found w [] s rest [] some t h none = absurd t
  id_found w (r ∷ front) s rest [] some t h none = absurd t
  id_found w [] s rest (c ∷ cs) some t h none = cond-true _ _ _ (subst (λ u. bytes_eq w u ≡ true) (sym (id_given s.id c.id w t.0 h)) (bytes_eq-refl w))
  id_found w (r ∷ front) s rest (c ∷ cs) some t h none =
      cond-false _ _ _ (bytes_eq-other w (id_word v c.id) (λ e. none (inl (id_back r.id c.id w some t.0 (sym e))))) ∙ ap (option_map suc) (id_found w front s rest cs some t.1 h (λ o. none (inr o)))

  module _ (tasks actions scope : List Word) (n : RawNet) (cs : List Child) (ps : List Pair) (xs : List Constraint) (b : IsBoundNetwork v names tasks actions scope n cs ps xs) where
    are_ids : AreIds n.subs cs
    are_ids = together-map (IsBoundSubtask v names tasks actions scope) (λ (s : RawSub) (c : Child). IsBoundId v names s.id c.id) (λ s c i. i.0) n.subs cs b.subtasks

    pub no_second_id : (at : ℕ) → AreDifferent (map (named v.names) (filter_map (λ (c : Child). c.id) cs)) → IsSecond [] (ids names n.subs) at → ⊥
    no_second_id at d = no_second [] (ids names n.subs) at (subst AreDifferent (sym (same_ids n.subs cs are_ids)) d)

    pub not_too_many : (at : ℕ) → length cs ≤ 4096 → TooManySubtasks n at → ⊥
    not_too_many at l (s, e, f) =
        let same = together-length (IsBoundSubtask v names tasks actions scope) n.subs cs b.subtasks in
        let past : slice_get n.subs 4096 ≡ None = slice_get_past n.subs 4096 (omega arith) in
        cc

    bound_pair : (x : RawPair) → value.Has n.pairs x → (y : Pair) × value.Has b.written y × IsBoundPair names (ids_by_place v cs) x y
    bound_pair x h = partner (IsBoundPair names (ids_by_place v cs)) n.pairs b.written x b.ordering h

    module _ (named_pairs : EachIs (IsPairNamed names) n.pairs) where
      pub no_unknown_id : (at : ℕ) → UnknownSubtaskId names n at → ⊥
      no_unknown_id at o =
          let g = one_has (λ (x : RawPair). IsUnknownId names n at x.first ⊎ IsUnknownId names n at x.then) n.pairs o in
          let y = bound_pair g.0 g.1 in
          let some = each-has (IsPairNamed names) n.pairs g.0 named_pairs g.1 in
          let z = y.0 in
          elim g.2 [
            | inl u ↦ u.1 (known_id (term_word names g.0.first) n.subs cs z.first some.0 are_ids y.2.0)
            | inr u ↦ u.1 (known_id (term_word names g.0.then) n.subs cs z.then some.1 are_ids y.2.1)
          ]

      place : (t : RawTerm) (i : ℕ) → (term_word names t ≡ [] → ⊥) → IsSubtask names n t i → first_place (term_word names t) (ids_by_place v cs) ≡ Some i
      place t i some is = id_found (term_word names t) is.front is.sub is.rest cs some (subst (λ ss. AreIds ss cs) is.parts are_ids) is.has_id is.none_before ∙ ap Some is.number

      -- a written pair is one of the value
      pair_has : (x : RawPair) (i j : ℕ) → value.Has n.pairs x → IsPair names n x i j → Pairs ps i j
      pair_has x i j h is =
          let y = bound_pair x h in
          let some = each-has (IsPairNamed names) n.pairs x named_pairs h in
          let z = y.0 in
          let p = place x.first i some.0 is.0 in
          let q = place x.then j some.1 is.1 in
          let e : z.first ≡ i = let r = y.2.0 in cc in
          let f : z.then ≡ j = let r = y.2.1 in cc in
          subst (λ ps. Contains ps (pair i j)) (sym b.pairs_are) (has-contains (chain_if n.ordered (length cs) ++ b.written) (pair i j) (has_back (chain_if n.ordered (length cs)) b.written (pair i j) (subst (value.Has b.written) (λ k. pair (e k) (f k)) y.1)))

      chained : (i j : ℕ) → IsChained names n i j → Pairs ps i j
      chained i j (o, e, l) =
          let same = together-length (IsBoundSubtask v names tasks actions scope) n.subs cs b.subtasks in
          let c : value.Has (chain 0 (length cs)) (pair i (suc i)) = chain_has 0 (length cs) i (omega arith) (omega arith) in
          let d : value.Has (chain_if n.ordered (length cs)) (pair i j) = subst (λ o. value.Has (chain_if o (length cs)) (pair i j)) (sym o) (subst (λ j. value.Has (chain 0 (length cs)) (pair i j)) (sym e) c) in
          subst (λ ps. Contains ps (pair i j)) (sym b.pairs_are) (has-contains (chain_if n.ordered (length cs) ++ b.written) (pair i j) (has_front (chain_if n.ordered (length cs)) b.written (pair i j) d))

      ordered_is : (earlier : List RawPair) → ((x : RawPair) → value.Has earlier x → value.Has n.pairs x) → (i j : ℕ) → IsOrdered names n earlier i j → Pairs ps i j
      ordered_is earlier within i j (inl c) = chained i j c
      ordered_is earlier within i j (inr o) = let g = one_has (λ x. IsPair names n x i j) earlier o in pair_has g.0 i j (within g.0 g.1) g.2

      precedes_is : (earlier : List RawPair) → ((x : RawPair) → value.Has earlier x → value.Has n.pairs x) → (i j : ℕ) → Precedes (IsOrdered names n earlier) i j → Precedes (Pairs ps) i j
      precedes_is earlier within i j (direct p) = direct (ordered_is earlier within i j p)
      precedes_is earlier within i j (through {j = k} p q) = through (precedes_is earlier within i k p) (ordered_is earlier within k j q)

      pub no_cycle : (at : ℕ) → IsAcyclic (Pairs ps) → CyclicOrder names n at → ⊥
      no_cycle at acyclic (l, (x, e, first)) =
          let here : value.Has n.pairs x = subst (λ xs. value.Has xs x) (sym first.parts) (has_back first.front (x ∷ first.rest) x (inl refl)) in
          let within : (y : RawPair) → value.Has first.front y → value.Has n.pairs y = λ y h. subst (λ xs. value.Has xs y) (sym first.parts) (has_front first.front (x ∷ first.rest) y h) in
          let c = first.is in
          let p = pair_has x c.0 c.1 here c.2 in
          elim c.3 [
            | inl f ↦ acyclic c.1 (direct (subst (λ i. Pairs ps i c.1) f p))
            | inr q ↦ acyclic c.1 (through (precedes_is first.front within c.1 c.0 q) p)
          ]
