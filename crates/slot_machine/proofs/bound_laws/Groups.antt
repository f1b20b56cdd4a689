-- The least number for which something holds.
use Rattle.std.proofs.Common.{ℕ, zero, suc, ◌<◌, ◌≤◌, ◌⊎◌, inl, inr, subst, arith}
use Rattle.plan_model.proofs.task_networks.BoundLaws.{by_size}

-- of numbers up to n, the least for which it holds
module _ (P : ℕ → Type 0) (or_not : (i : ℕ) → P i ⊎ (P i → ⊥)) where
  abbrev pub IsLeast : ℕ → Type 0
  IsLeast i = P i × ((j : ℕ) → P j → i ≤ j)

  least_below : (n : ℕ) → ((i : ℕ) × IsLeast i) ⊎ ((j : ℕ) → j < n → P j → ⊥)
  least_below zero = inr (λ j l p. omega arith)
  least_below (suc n) = go (least_below n) (or_not n)
    where
      go : ((i : ℕ) × IsLeast i) ⊎ ((j : ℕ) → j < n → P j → ⊥) → P n ⊎ (P n → ⊥) → ((i : ℕ) × IsLeast i) ⊎ ((j : ℕ) → j < suc n → P j → ⊥)
      go (inl h) d = inl h
      go (inr f) (inl p) = inl (n, (p, λ j q. elim (by_size j n) [ inl l ↦ absurd (f j l q) | inr r ↦ elim r [ inl e ↦ omega arith | inr l ↦ omega arith ] ]))
      go (inr f) (inr d) = inr (λ j l q. elim (by_size j n) [ inl k ↦ f j k q | inr r ↦ elim r [ inl e ↦ d (subst P e q) | inr k ↦ absurd (omega arith) ] ])

  pub least : (n : ℕ) → P n → (i : ℕ) × IsLeast i
  least n p = elim (least_below (suc n)) [ inl h ↦ h | inr f ↦ absurd (f n (omega arith) p) ]
