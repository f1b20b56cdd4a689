-- The pairs of types and parents of a domain without faults: of types that there are, one for each but object, and without a cycle.
use Rattle.std.proofs.Common.{ℕ, ◌≡◌, ◌<◌, ◌≤◌, inl, inr, List, [], ◌∷◌, ◌++◌, map, length, refl, sym, ap, subst, ◌∙◌, append_assoc, append-nil, arith}
use Rattle.std.specs.Prelude.{◌⊎◌, flat_map, codes}
use Rattle.std.proofs.lemmas.List.Concat.{flat_map-append}
use Rattle.plan_model.specs.task_networks.Order.{Precedes, direct, through, IsAcyclic}
use Rattle.plan_model.proofs.task_networks.Orders.{precedes_then}
use Rattle.text_forms.specs.Words.{Word, word_at}
use Rattle.plan_model.proofs.net_order.Chains.{acyclic_push}
use Rattle.gd_reader.specs.Terms.{Names}
use Rattle.gd_reader.specs.declared.term.RawTerm.{RawTerm}
use Rattle.gd_reader.specs.declared.typed_lists.RawParam.{RawParam}
use Rattle.hddl_reader.specs.declared.sections.RawDomain.{RawDomain}
use Rattle.plan_model.specs.Pairs.{pair, Pairs}
use Rattle.plan_model.specs.Typing as typing
use Rattle.plan_model.specs.declared.networks.Pair.{Pair}
use Rattle.plan_model.specs.declared.types.Parent.{Parent}
use Rattle.plan_texts.specs.Types as plan
use Rattle.plan_texts.specs.Types.{EachIs}
use Rattle.plan_texts.proofs.Members.{contains-has}
use Rattle.htn_base.specs.Lists.{Has}
use Rattle.hddl_reader.specs.names.Types.{IsParent, Leads, TypeCycle}
use Rattle.hddl_reader.specs.names.Types as words
use Rattle.hddl_reader.specs.names.Words.{term_word, param_word}
use Rattle.name_binding.specs.Parents.{parent, place_of, parents_written, pairs_in_order}
use Rattle.text_values.specs.form_spellings.binding_laws.InOrder.{IsTypedName}
use Rattle.text_values.proofs.form_spellings.binding_laws.BoundTypes.{plan_has, has_plan}
use Rattle.text_values.proofs.form_spellings.binding_laws.Lists.{append_there, flat_back}
use Rattle.text_values.proofs.form_spellings.binding_laws.NoTypeCycle.{none_closes}
use Rattle.text_values.proofs.form_spellings.binding_laws.Numbered.{contains_has, has_contains, has_of_map, has_to_map}
use Rattle.text_values.proofs.form_spellings.binding_laws.Ones.{one_has, has_one, each_has}
use Rattle.text_values.proofs.form_spellings.binding_laws.TypePairs.{own_place, IsWritten, IsPair, pair_there, pair_back, written_there, written_back}
use Rattle.text_values.proofs.form_spellings.binding_laws.sound.GoodUnions.{or_first}

-- a longer list of the section says more
fewer_said : (names : Names) (xs ys : List RawParam) (c q : Word) → IsParent names xs c q → IsParent names (xs ++ ys) c q
fewer_said names [] ys c q o = absurd o
fewer_said names (x ∷ xs) ys c q (inl o) = inl o
fewer_said names (x ∷ xs) ys c q (inr o) = inr (fewer_said names xs ys c q o)

module _ (names : Names) (d : RawDomain) (types : List ℕ) (some : 0 < length types) (at_place : List Word)
    (own_at : (x : RawParam) → Has d.types x → word_at at_place (own_place types d.types x) ≡ param_word names x)
    (parent_at : (x : RawParam) (t : RawTerm) → Has d.types x → Has x.ty t → word_at at_place (place_of types t) ≡ term_word names t)
    (named_each : EachIs (IsTypedName names) d.types) (none : (at : ℕ) → TypeCycle names d at → ⊥) where
  abbrev parents : List Parent
  parents = pairs_in_order types d.types

  -- each pair is of types that there are, and object is no child
  within : (x : Parent) → plan.Has parents x → (x.child < length types) × (x.parent < length types) × (0 < x.child)
  within x h = go (pair_there types d.types x (has_plan parents x h))
    where
      go : IsPair types d.types x → (x.child < length types) × (x.parent < length types) × (0 < x.child)
      go (l, m, inl (z, i, e, (t, j, f))) = (l, subst (λ k. k < length types) f (or_first t.name.number types some), m)
      go (l, m, inr (e, nowhere)) = (l, subst (λ k. k < length types) (sym e) some, m)

  each_plan : {X : Type 0} (P : X → Type 0) (xs : List X) → ((x : X) → plan.Has xs x → P x) → EachIs P xs
  each_plan P [] f = tt
  each_plan P (x ∷ xs) f = (f x (inl refl), each_plan P xs (λ y h. f y (inr h)))

  pub parents_within : EachIs (λ (x : Parent). (x.child < length types) × (x.parent < length types) × (0 < x.child)) parents
  parents_within = each_plan (λ (x : Parent). (x.child < length types) × (x.parent < length types) × (0 < x.child)) parents within

  pub has_parent : (k : ℕ) → 0 < k → k < length types → (x : Parent) × plan.Has parents x × (x.child ≡ k)
  has_parent k l m = go (parents_written types d.types k) refl
    where
      go : (ps : List ℕ) → parents_written types d.types k ≡ ps → (x : Parent) × plan.Has parents x × (x.child ≡ k)
      go [] e = (parent k 0, plan_has parents (parent k 0) (pair_back types d.types k 0 m l (inr (refl, λ p w. subst (λ ps. Has ps p) e (written_back types d.types k p w)))), refl)
      go (p ∷ ps) e = (parent k p, plan_has parents (parent k p) (pair_back types d.types k p m l (inl (written_there types d.types k p (subst (λ ps. Has ps p) (sym e) (inl refl))))), refl)

  -- the pairs that are written, by places
  abbrev behind : RawParam → List Pair
  behind x = map (λ t. pair (own_place types d.types x) (place_of types t)) x.ty

  abbrev said : List RawParam → List Pair
  said xs = flat_map behind xs

  said_is : (xs : List RawParam) → ((x : RawParam) → Has xs x → Has d.types x) → (i j : ℕ) → Pairs (said xs) i j → IsParent names xs (word_at at_place i) (word_at at_place j)
  said_is [] all i j h = absurd (let l = h.1 in omega arith)
  said_is (x ∷ xs) all i j h = elim (append_there (behind x) (said xs) (pair i j) (contains_has (said (x ∷ xs)) (pair i j) h)) [
    | inl k ↦ let t = one_has (λ t. pair (own_place types d.types x) (place_of types t) ≡ pair i j) x.ty (has_of_map (λ t. pair (own_place types d.types x) (place_of types t)) x.ty (pair i j) k) in
        inl (
          sym (own_at x (all x (inl refl))) ∙ ap (λ (q : Pair). word_at at_place q.first) t.2,
          has_one (λ t. term_word names t ≡ word_at at_place j) x.ty t.0 t.1 (sym (parent_at x t.0 (all x (inl refl)) t.1) ∙ ap (λ (q : Pair). word_at at_place q.then) t.2),
        )
    | inr k ↦ inr (said_is xs (λ y g. all y (inr g)) i j (has_contains (said xs) (pair i j) k))
  ]

  in_words : (xs : List RawParam) → ((x : RawParam) → Has xs x → Has d.types x) → (i j : ℕ) → Precedes (Pairs (said xs)) i j → Leads (IsParent names xs) (word_at at_place i) (word_at at_place j)
  in_words xs all i j (direct h) = words.direct (said_is xs all i j h)
  in_words xs all i j (through {j = k} c h) = words.through (in_words xs all i k c) (said_is xs all k j h)

  in_front : (front rest : List RawParam) → d.types ≡ front ++ rest → (x : RawParam) → Has front x → Has d.types x
  in_front front rest e x h = subst (λ xs. Has xs x) (sym e) (go front h)
    where
      go : (xs : List RawParam) → Has xs x → Has (xs ++ rest) x
      go [] h = absurd h
      go (y ∷ xs) (inl e) = inl e
      go (y ∷ xs) (inr h) = inr (go xs h)

  here : (front rest : List RawParam) (x : RawParam) → d.types ≡ front ++ x ∷ rest → Has d.types x
  here front rest x e = subst (λ xs. Has xs x) (sym e) (go front)
    where
      go : (xs : List RawParam) → Has (xs ++ x ∷ rest) x
      go [] = inl refl
      go (y ∷ xs) = inr (go xs)

  abbrev own : RawParam → ℕ
  own x = own_place types d.types x

  one_more : (front rest : List RawParam) (x : RawParam) → d.types ≡ front ++ x ∷ rest → IsAcyclic (Pairs (said front)) → IsAcyclic (Pairs (said (front ++ x ∷ [])))
  one_more front rest x e acyclic =
      subst (λ ps. IsAcyclic (Pairs ps)) (sym (flat_map-append behind front (x ∷ []))) (go x.ty (each_has (IsTypedName names) d.types x named_each (here front rest x e)).one_type (λ t h. h))
    where
      closes : (t : RawTerm) → Has x.ty t → (term_word names t ≡ param_word names x) ⊎ Leads (IsParent names front) (term_word names t) (param_word names x) → ⊥
      closes t h c =
          none_closes names d none front rest x e (has_one (λ t. (param_word names x ≡ codes "object") ⊎ ((term_word names t ≡ param_word names x) ⊎ Leads (IsParent names front) (term_word names t) (param_word names x))) x.ty t h (inr c))

      go : (ts : List RawTerm) → length ts ≤ 1 → ((t : RawTerm) → Has ts t → Has x.ty t) → IsAcyclic (Pairs (said front ++ (map (λ t. pair (own x) (place_of types t)) ts ++ [])))
      go [] l all = subst (λ ps. IsAcyclic (Pairs ps)) (sym (append-nil (said front))) acyclic
      go (t ∷ u ∷ ts) l all = absurd (omega arith)
      go (t ∷ []) l all =
          let own_is = own_at x (here front rest x e) in
          let up = parent_at x t (here front rest x e) (all t (inl refl)) in
          acyclic_push (said front) (pair (own x) (place_of types t)) acyclic
          (λ f. closes t (all t (inl refl)) (inl (sym up ∙ ap (word_at at_place) (sym f) ∙ own_is)))
          (λ c. closes t (all t (inl refl)) (inr (subst (λ w. Leads (IsParent names front) w (param_word names x)) up
          (subst (λ w. Leads (IsParent names front) (word_at at_place (place_of types t)) w) own_is (in_words front (in_front front (x ∷ rest) e) (place_of types t) (own x) c)))))

  along : (front rest : List RawParam) → IsAcyclic (Pairs (said front)) → d.types ≡ front ++ rest → IsAcyclic (Pairs (said (front ++ rest)))
  along front [] a e = subst (λ xs. IsAcyclic (Pairs (said xs))) (sym (append-nil front)) a
  along front (x ∷ rest) a e =
      subst (λ xs. IsAcyclic (Pairs (said xs))) (append_assoc front (x ∷ []) rest) (along (front ++ x ∷ []) rest (one_more front rest x e a) (e ∙ sym (append_assoc front (x ∷ []) rest)))

  no_pairs : (i j : ℕ) → Precedes (Pairs []) i j → ⊥
  no_pairs i j (direct h) = let l = h.1 in omega arith
  no_pairs i j (through c h) = let l = h.1 in omega arith

  said_acyclic : IsAcyclic (Pairs (said d.types))
  said_acyclic = along [] d.types (λ i c. no_pairs i i c) refl

  written_said : (i j : ℕ) → IsWritten types d.types i j → Pairs (said d.types) i j
  written_said i j (x, h, e, (t, k, f)) =
      has_contains (said d.types) (pair i j) (flat_back behind d.types (pair i j) (has_one (λ x. Has (behind x) (pair i j)) d.types x h
      (has_to_map (λ t. pair (own_place types d.types x) (place_of types t)) x.ty (pair i j) (has_one (λ t. pair (own_place types d.types x) (place_of types t) ≡ pair i j) x.ty t k (ap (λ m. pair m (place_of types t)) e ∙ ap (pair i) f)))))

  -- from object no chain leads on
  from_object : (i j : ℕ) → i ≡ 0 → typing.Leads parents i j → j ≡ 0
  from_object i j e typing.stay = e
  from_object i j e (typing.climb {parent = q} c more) = let m = (within (record { child = i; parent = q }) (contains-has parents (record { child = i; parent = q }) c)).2 in absurd (omega arith)

  chain_said : (i j : ℕ) → 0 < j → typing.Leads parents i j → (i ≡ j) ⊎ Precedes (Pairs (said d.types)) i j
  chain_said i j l typing.stay = inl refl
  chain_said i j l (typing.climb {parent = q} c more) = go (pair_there types d.types (record { child = i; parent = q }) (contains_has parents (record { child = i; parent = q }) c)) (chain_said q j l more)
    where
      go : IsPair types d.types (record { child = i; parent = q }) → (q ≡ j) ⊎ Precedes (Pairs (said d.types)) q j → (i ≡ j) ⊎ Precedes (Pairs (said d.types)) i j
      go (k, m, inl w) (inl e) = inr (direct (subst (Pairs (said d.types) i) e (written_said i q w)))
      go (k, m, inl w) (inr p) = inr (precedes_then i q j (direct (written_said i q w)) p)
      go (k, m, inr (e, nowhere)) p = let z = from_object q j e more in absurd (omega arith)

  pub no_cycle : (x : Parent) → plan.Has parents x → typing.Leads parents x.parent x.child → ⊥
  no_cycle x h c = go (pair_there types d.types x (has_plan parents x h))
    where
      go : IsPair types d.types x → ⊥
      go (k, m, inl w) = elim (chain_said x.parent x.child m c) [
        | inl e ↦ said_acyclic x.child (direct (subst (Pairs (said d.types) x.child) e (written_said x.child x.parent w)))
        | inr p ↦ said_acyclic x.child (precedes_then x.child x.parent x.child (direct (written_said x.child x.parent w)) p)
      ]
      go (k, m, inr (e, nowhere)) = let z = from_object x.parent x.child e c in omega arith
