-- What a list of those that are as asked has, and the place of a number.
use Rattle.std.proofs.Common.{ℕ, suc, ◌≡◌, ◌+◌, ◌==◌, ◌⊎◌, inl, inr, Bool, not, cond, List, [], ◌∷◌, length, slice_get, Some, None, position, ap, sym, subst, ◌∙◌, Contains, arith}
use Rattle.std.specs.List.{position_or_len}
use Rattle.std.proofs.lemmas.Bool.Decides.{eqb_tells}
use Rattle.plan_model.proofs.task_networks.Lists.{not-in_empty, head_or_tail, Contains-here, Contains-later}
use Rattle.plan_model.specs.plan_meaning.Compilation.{Keeps}
use Rattle.plan_model.proofs.plan_meaning.examples.Unequal.{to_lt}
use Rattle.slot_encoding.proofs.places.ListPlaces.{get_within}

module _ {A : Type 0} (P : A → Type 0) where
  -- what is kept is as asked
  pub keeps_to : (xs kept : List A) → Keeps P xs kept → (x : A) → Contains kept x → Contains xs x × P x
  keeps_to [] kept k x c = absurd (not-in_empty x (subst (λ z. Contains z x) k c))
  keeps_to (y ∷ xs) kept (inl (h, rest, e, k)) x c = elim (head_or_tail y rest x (subst (λ z. Contains z x) e c)) [
    | inl f ↦ (subst (Contains (y ∷ xs)) f (Contains-here y xs), subst P f h)
    | inr d ↦ (let r = keeps_to xs rest k x d in (Contains-later y xs x r.0, r.1))
  ]
  keeps_to (y ∷ xs) kept (inr (h, k)) x c = let r = keeps_to xs kept k x c in (Contains-later y xs x r.0, r.1)

  -- each item is kept, or isn't as asked
  pub kept_cases : (xs kept : List A) → Keeps P xs kept → (x : A) → Contains xs x → Contains kept x ⊎ (P x → ⊥)
  kept_cases [] kept k x c = absurd (not-in_empty x c)
  kept_cases (y ∷ xs) kept (inl (h, rest, e, k)) x c = elim (head_or_tail y xs x c) [
    | inl f ↦ inl (subst (λ z. Contains z x) (sym e) (subst (Contains (y ∷ rest)) f (Contains-here y rest)))
    | inr d ↦ elim (kept_cases xs rest k x d) [ inl m ↦ inl (subst (λ z. Contains z x) (sym e) (Contains-later y rest x m)) | inr n ↦ inr n ]
  ]
  kept_cases (y ∷ xs) kept (inr (h, k)) x c = elim (head_or_tail y xs x c) [ inl f ↦ inr (λ q. h (subst P (sym f) q)) | inr d ↦ kept_cases xs kept k x d ]

  pub to_keeps : (xs kept : List A) → Keeps P xs kept → (x : A) → Contains xs x → P x → Contains kept x
  to_keeps xs kept k x c q = elim (kept_cases xs kept k x c) [ inl m ↦ m | inr n ↦ absurd (n q) ]

-- the place of a number that the list has
module _ (t : ℕ) where
  abbrev is_it : ℕ → Bool
  is_it u = u == t

  at_place : (xs : List ℕ) → Contains xs t → slice_get xs (position_or_len is_it xs) ≡ Some t
  at_place [] c = absurd (not-in_empty t c)
  at_place (x ∷ xs) c = elim (eqb_tells x t) [
    | inl h ↦ ap (λ z. slice_get (x ∷ xs) (cond (not z) (1 + position_or_len is_it xs) 0)) h.0 ∙ ap Some h.1
    | inr h ↦ ap (λ z. slice_get (x ∷ xs) (cond (not z) (1 + position_or_len is_it xs) 0)) h.0 ∙ ap (slice_get (x ∷ xs)) one_more ∙ at_place xs (elim (head_or_tail x xs t c) [ inl f ↦ absurd (h.1 f) | inr d ↦ d ])
  ]
    where
      one_more : 1 + position_or_len is_it xs ≡ suc (position_or_len is_it xs)
      one_more = omega arith

  pub position_at : (xs : List ℕ) → Contains xs t → (k : ℕ) × (position (λ u. u == t) xs ≡ Some k) × (slice_get xs k ≡ Some t)
  position_at xs c =
      let k = position_or_len is_it xs in
      let e = at_place xs c in
      (k, ap (λ z. cond z (Some k) None) (to_lt k (length xs) (get_within xs k t e)), e)
