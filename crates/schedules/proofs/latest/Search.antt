-- Searches of lists, and sums over them.
use Rattle.std.proofs.Common.{ℕ, zero, suc, ◌≡◌, ◌+◌, ◌<◌, ◌≤◌, ◌⊎◌, inl, inr, List, [], ◌∷◌, ◌++◌, length, refl, ap, subst, Contains, arith}
use Rattle.plan_model.proofs.task_networks.Lists.{Contains-here, Contains-later, not-in_empty, head_or_tail}

pub less_or : (a b : ℕ) → (a < b) ⊎ (b ≤ a)
less_or zero zero = inr (omega arith)
less_or zero (suc b) = inl (omega arith)
less_or (suc a) zero = inr (omega arith)
less_or (suc a) (suc b) = elim (less_or a b) [ inl l ↦ inl (omega arith) | inr l ↦ inr (omega arith) ]

module _ {A : Type 0} where
  -- each element is fine, or R
  pub each_or : (xs : List A) (P : A → Type 0) (R : Type 0) → ((x : A) → Contains xs x → P x ⊎ R) → ((x : A) → Contains xs x → P x) ⊎ R
  each_or [] P R f = inl (λ x c. absurd (not-in_empty x c))
  each_or (y ∷ xs) P R f = go (f y (Contains-here y xs)) (each_or xs P R (λ x c. f x (Contains-later y xs x c)))
    where
      go : P y ⊎ R → ((x : A) → Contains xs x → P x) ⊎ R → ((x : A) → Contains (y ∷ xs) x → P x) ⊎ R
      go (inr r) o = inr r
      go (inl p) (inr r) = inr r
      go (inl p) (inl h) = inl (λ x c. elim (head_or_tail y xs x c) [ inl e ↦ subst P e p | inr d ↦ h x d ])

  -- the first element that passes, or none does
  pub first_or : (xs : List A) (P : A → Type 0) → ((x : A) → Dec (P x))
      → ((x : A) × (before : List A) × (after : List A) × (xs ≡ before ++ x ∷ after) × P x × ((y : A) → Contains before y → P y → ⊥))
      ⊎ ((x : A) → Contains xs x → P x → ⊥)
  first_or [] P d = inr (λ x c. absurd (not-in_empty x c))
  first_or (y ∷ xs) P d = go (d y) (first_or xs P d)
    where
      go : Dec (P y) → ((x : A) × (before : List A) × (after : List A) × (xs ≡ before ++ x ∷ after) × P x × ((y : A) → Contains before y → P y → ⊥)) ⊎ ((x : A) → Contains xs x → P x → ⊥)
          → ((x : A) × (before : List A) × (after : List A) × (y ∷ xs ≡ before ++ x ∷ after) × P x × ((y : A) → Contains before y → P y → ⊥)) ⊎ ((x : A) → Contains (y ∷ xs) x → P x → ⊥)
      go (yes p) o = inl (y, [], xs, refl, p, λ z c. absurd (not-in_empty z c))
      go (no n) (inl (x, before, after, e, p, h)) = inl (x, y ∷ before, after, ap (λ z. y ∷ z) e, p, λ z c q. elim (head_or_tail y before z c) [ inl f ↦ n (subst P (let g : z ≡ y = cc in g) q) | inr k ↦ h z k q ])
      go (no n) (inr h) = inr (λ x c q. elim (head_or_tail y xs x c) [ inl f ↦ n (subst P (let g : x ≡ y = cc in g) q) | inr k ↦ h x k q ])

  pub total : (A → ℕ) → List A → ℕ
  total h [] = 0
  total h (x ∷ xs) = h x + total h xs

  pub total_less : (g h : A → ℕ) (xs : List A) → ((x : A) → g x ≤ h x) → total g xs ≤ total h xs
  unfolding total
  total_less g h [] f = omega arith
  total_less g h (x ∷ xs) f = let a = f x in let b = total_less g h xs f in omega arith

  pub total_smaller : (g h : A → ℕ) (xs : List A) (u : A) → ((x : A) → g x ≤ h x) → Contains xs u → g u < h u → total g xs < total h xs
  unfolding total
  total_smaller g h [] u f c l = absurd (not-in_empty u c)
  total_smaller g h (x ∷ xs) u f c l = elim (head_or_tail x xs u c) [
    | inl e ↦ (let a : g x < h x = subst (λ z. g z < h z) (let k : u ≡ x = cc in k) l in let b = total_less g h xs f in omega arith)
    | inr d ↦ (let a = f x in let b = total_smaller g h xs u f d l in omega arith)
  ]

  pub at_most_total : (h : A → ℕ) (xs : List A) (u : A) → Contains xs u → h u ≤ total h xs
  unfolding total
  at_most_total h [] u c = absurd (not-in_empty u c)
  at_most_total h (x ∷ xs) u c = elim (head_or_tail x xs u c) [
    | inl e ↦ (let a = ap h e in omega arith)
    | inr d ↦ (let b = at_most_total h xs u d in omega arith)
  ]

  pub total_ones : (h : A → ℕ) (xs : List A) → ((x : A) → h x ≤ 1) → total h xs ≤ length xs
  unfolding total
  total_ones h [] f = omega arith
  total_ones h (x ∷ xs) f = let a = f x in let b = total_ones h xs f in omega arith
