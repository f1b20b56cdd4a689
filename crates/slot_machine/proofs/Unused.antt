-- Slots that aren't used, and places in a list of slots.
use Rattle.std.proofs.Common.{ℕ, zero, suc, ◌≡◌, ◌+◌, ◌<◌, ◌≤◌, inl, inr, List, [], ◌∷◌, length, slice_index, refl, ap, sym, subst, Contains, arith}
use Rattle.htn_base.specs.Different.{AreDifferent}
use Rattle.plan_model.proofs.task_networks.Unused.{one_unused}
use Rattle.plan_model.proofs.task_networks.Lists.{not-in_empty, Contains-later, head_or_tail, Contains-here}

pub unused : (k b : ℕ) (xs : List ℕ) → k + length xs ≤ b → (hs : List ℕ) × (length hs ≡ k) × AreDifferent hs × ((x : ℕ) → Contains hs x → (1 ≤ x) × (x ≤ b) × (Contains xs x → ⊥))
unused zero b xs h = ([], refl, tt, λ x c. absurd (not-in_empty x c))
unused (suc k) b xs h =
    let (x, p, q, n) = one_unused b xs (omega arith) in
    let (hs, l, d, f) = unused k b (x ∷ xs) (omega arith) in (
      x ∷ hs,
      ap suc l,
      (λ c. (f x c).2 (Contains-here x xs), d),
      λ y c. elim (head_or_tail x hs y c) [ inl e ↦ subst (λ z. (1 ≤ z) × (z ≤ b) × (Contains xs z → ⊥)) e (p, q, n) | inr e ↦ ((f y e).0, (f y e).1, λ z. (f y e).2 (Contains-later x xs y z)) ],
    )

pub at_place : (xs : List ℕ) (j : ℕ) → j < length xs → Contains xs (slice_index xs j)
at_place [] j h = absurd (omega arith)
at_place (y ∷ ys) zero h = Contains-here y ys
at_place (y ∷ ys) (suc j) h = Contains-later y ys (slice_index ys j) (at_place ys j (omega arith))

-- different elements stand at different places
pub different_places : (xs : List ℕ) (i j : ℕ) → AreDifferent xs → i < length xs → j < length xs → slice_index xs i ≡ slice_index xs j → i ≡ j
different_places [] i j d p q e = absurd (omega arith)
different_places (x ∷ xs) zero zero d p q e = refl
different_places (x ∷ xs) zero (suc j) d p q e = absurd (d.0 (subst (Contains xs) (sym e) (at_place xs j (omega arith))))
different_places (x ∷ xs) (suc i) zero d p q e = absurd (d.0 (subst (Contains xs) e (at_place xs i (omega arith))))
different_places (x ∷ xs) (suc i) (suc j) d p q e = ap suc (different_places xs i j d.1 (omega arith) (omega arith) e)
