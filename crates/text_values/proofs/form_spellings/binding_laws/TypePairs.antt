-- The pairs of types and parents by numbers: which they are.
use Rattle.std.proofs.Common.{ℕ, zero, suc, ◌≡◌, ◌<◌, Bool, true, false, cond, eqb, inl, inr, List, [], ◌∷◌, ◌++◌, map, length, refl, sym, ap, subst, arith}
use Rattle.std.specs.Prelude.{◌⊎◌, flat_map, unwrap_or}
use Rattle.std.proofs.lemmas.Bool.{eqb-true, eqb-false, eq-eqb, ne_eqb, cases_lt, cond-false}
use Rattle.gd_reader.specs.declared.term.RawTerm.{RawTerm}
use Rattle.gd_reader.specs.declared.typed_lists.RawParam.{RawParam}
use Rattle.plan_model.specs.declared.types.Parent.{Parent}
use Rattle.htn_base.specs.Lists.{Has}
use Rattle.name_binding.specs.Places.{first_place}
use Rattle.name_binding.specs.Parents.{parent, pairs_with, pairs_for, place_of, parents_behind, parents_written, pairs_below, pairs_in_order}
use Rattle.text_values.proofs.form_spellings.binding_laws.Lists.{append_there, append_left, append_right, flat_there, flat_back}
use Rattle.text_values.proofs.form_spellings.binding_laws.Mentioned.{seen_there, seen_back}
use Rattle.text_values.proofs.form_spellings.binding_laws.Numbered.{has_of_map, has_to_map}
use Rattle.text_values.proofs.form_spellings.binding_laws.Ones.{one_has, has_one}

module _ (types : List ℕ) (xs : List RawParam) where
  abbrev pub own_place : RawParam → ℕ
  own_place x = unwrap_or (first_place x.name.number types) 0

  -- a word of the section stands for the child, and one behind it for the parent
  abbrev pub IsWritten : ℕ → ℕ → Type 0
  IsWritten child p = (x : RawParam) × Has xs x × (own_place x ≡ child) × ((t : RawTerm) × Has x.ty t × (place_of types t ≡ p))

  behind_there : (child p : ℕ) (x : RawParam) → Has (parents_behind types child x) p → (own_place x ≡ child) × ((t : RawTerm) × Has x.ty t × (place_of types t ≡ p))
  behind_there child p x h = go (eqb child (own_place x)) refl h
    where
      go : (b : Bool) → eqb child (own_place x) ≡ b → Has (cond b (map (place_of types) x.ty) []) p → (own_place x ≡ child) × ((t : RawTerm) × Has x.ty t × (place_of types t ≡ p))
      go true e h = (sym (eqb-true child (own_place x) e), one_has (λ t. place_of types t ≡ p) x.ty (has_of_map (place_of types) x.ty p h))
      go false e h = absurd h

  behind_back : (child p : ℕ) (x : RawParam) → own_place x ≡ child → (t : RawTerm) → Has x.ty t → place_of types t ≡ p → Has (parents_behind types child x) p
  behind_back child p x e t h f = subst (λ b. Has (cond b (map (place_of types) x.ty) []) p) (sym (eq-eqb child (own_place x) (sym e))) (has_to_map (place_of types) x.ty p (has_one (λ t. place_of types t ≡ p) x.ty t h f))

  pub written_there : (child p : ℕ) → Has (parents_written types xs child) p → IsWritten child p
  written_there child p h =
      let o = flat_there (parents_behind types child) xs p (seen_there [] (flat_map (parents_behind types child) xs) p h) in
      let x = one_has (λ x. Has (parents_behind types child x) p) xs o in
      let r = behind_there child p x.0 x.2 in
      (x.0, x.1, r.0, r.1)

  pub written_back : (child p : ℕ) → IsWritten child p → Has (parents_written types xs child) p
  written_back child p (x, h, e, (t, i, f)) =
      elim (seen_back [] (flat_map (parents_behind types child) xs) p (flat_back (parents_behind types child) xs p (has_one (λ x. Has (parents_behind types child x) p) xs x h (behind_back child p x e t i f)))) [
        | inl none ↦ absurd none
        | inr s ↦ s
      ]

  -- a pair that is written, or that with object of a type without a written parent
  abbrev pub IsPair : Parent → Type 0
  IsPair q = (q.child < length types) × (0 < q.child) × (IsWritten q.child q.parent ⊎ ((q.parent ≡ 0) × ((p : ℕ) → IsWritten q.child p → ⊥)))

  with_there : (child : ℕ) (ps : List ℕ) (q : Parent) → Has (pairs_with child ps) q → (q.child ≡ child) × (Has ps q.parent ⊎ ((q.parent ≡ 0) × (ps ≡ [])))
  with_there child [] q (inl e) = (sym (ap (λ (z : Parent). z.child) e), inr (sym (ap (λ (z : Parent). z.parent) e), refl))
  with_there child [] q (inr none) = absurd none
  with_there child (p ∷ ps) q h =
      let o = one_has (λ p. parent child p ≡ q) (p ∷ ps) (has_of_map (parent child) (p ∷ ps) q h) in
      (sym (ap (λ (z : Parent). z.child) o.2), inl (subst (Has (p ∷ ps)) (ap (λ (z : Parent). z.parent) o.2) o.1))

  with_back : (child : ℕ) (ps : List ℕ) (p : ℕ) → Has ps p ⊎ ((p ≡ 0) × (ps ≡ [])) → Has (pairs_with child ps) (parent child p)
  with_back child [] p (inl h) = absurd h
  with_back child [] p (inr (e, f)) = inl (ap (parent child) (sym e))
  with_back child (r ∷ ps) p (inl h) = has_to_map (parent child) (r ∷ ps) (parent child p) (has_one (λ s. parent child s ≡ parent child p) (r ∷ ps) p h refl)
  with_back child (r ∷ ps) p (inr (e, f)) = absurd (cc)

  pub for_one : (c : ℕ) (ps : List ℕ) → pairs_for (suc c) ps ≡ pairs_with (suc c) ps
  for_one c ps = cond-false _ _ _ (ne_eqb (suc c) 0 (λ e. omega arith))

  for_there : (child : ℕ) (q : Parent) → Has (pairs_for child (parents_written types xs child)) q → (q.child ≡ child) × (0 < child) × (IsWritten child q.parent ⊎ ((q.parent ≡ 0) × ((p : ℕ) → IsWritten child p → ⊥)))
  for_there zero q h = absurd h
  for_there (suc c) q h =
      let r = with_there (suc c) (parents_written types xs (suc c)) q (subst (λ ps. Has ps q) (for_one c (parents_written types xs (suc c))) h) in (
        r.0,
        omega arith,
        elim r.1 [
          | inl w ↦ inl (written_there (suc c) q.parent w)
          | inr (e, f) ↦ inr (e, λ p w. subst (λ ps. Has ps p) f (written_back (suc c) p w))
        ],
      )

  nothing : (ps : List ℕ) → ((p : ℕ) → Has ps p → ⊥) → ps ≡ []
  nothing [] f = refl
  nothing (p ∷ ps) f = absurd (f p (inl refl))

  for_back : (child p : ℕ) → 0 < child → IsWritten child p ⊎ ((p ≡ 0) × ((p : ℕ) → IsWritten child p → ⊥)) → Has (pairs_for child (parents_written types xs child)) (parent child p)
  for_back zero p l w = absurd (omega arith)
  for_back (suc c) p l (inl w) = subst (λ ps. Has ps (parent (suc c) p)) (sym (for_one c (parents_written types xs (suc c)))) (with_back (suc c) (parents_written types xs (suc c)) p (inl (written_back (suc c) p w)))
  for_back (suc c) p l (inr (e, f)) = subst (λ ps. Has ps (parent (suc c) p)) (sym (for_one c (parents_written types xs (suc c)))) (with_back (suc c) (parents_written types xs (suc c)) p (inr (e, nothing (parents_written types xs (suc c)) (λ p h. f p (written_there (suc c) p h)))))

  below_there : (n : ℕ) (q : Parent) → Has (pairs_below types xs n) q → (k : ℕ) × (k < n) × Has (pairs_for k (parents_written types xs k)) q
  below_there zero q h = absurd h
  below_there (suc n) q h = elim (append_there (pairs_below types xs n) (pairs_for n (parents_written types xs n)) q h) [
    | inl i ↦ let r = below_there n q i in let l = r.1 in (r.0, omega arith, r.2)
    | inr i ↦ (n, omega arith, i)
  ]

  nearer : (k n : ℕ) → k < suc n → (k ≡ n → ⊥) → k < n
  nearer k n l x = elim (cases_lt k n) [ inl m ↦ m | inr m ↦ absurd (x (omega arith)) ]

  below_back : (n k : ℕ) (q : Parent) → k < n → Has (pairs_for k (parents_written types xs k)) q → Has (pairs_below types xs n) q
  below_back zero k q l h = absurd (omega arith)
  below_back (suc n) k q l h = go (eqb k n) refl (λ m. below_back n k q m h)
    where
      go : (b : Bool) → eqb k n ≡ b → (k < n → Has (pairs_below types xs n) q) → Has (pairs_below types xs n ++ pairs_for n (parents_written types xs n)) q
      go true e more = append_right (pairs_below types xs n) (pairs_for n (parents_written types xs n)) q (subst (λ k. Has (pairs_for k (parents_written types xs k)) q) (eqb-true k n e) h)
      go false e more = append_left (pairs_below types xs n) (pairs_for n (parents_written types xs n)) q (more (nearer k n l (eqb-false k n e)))

  pub pair_there : (q : Parent) → Has (pairs_in_order types xs) q → IsPair q
  pair_there q h =
      let r = below_there (length types) q h in
      let s = for_there r.0 q r.2 in
      let l = r.1 in
      let e = s.0 in
      (subst (λ k. k < length types) (sym e) l, subst (λ k. 0 < k) (sym e) s.1, subst (λ k. IsWritten k q.parent ⊎ ((q.parent ≡ 0) × ((p : ℕ) → IsWritten k p → ⊥))) (sym e) s.2)

  pub pair_back : (child p : ℕ) → child < length types → 0 < child → IsWritten child p ⊎ ((p ≡ 0) × ((p : ℕ) → IsWritten child p → ⊥)) → Has (pairs_in_order types xs) (parent child p)
  pair_back child p l m w = below_back (length types) child (parent child p) l (for_back child p m w)
