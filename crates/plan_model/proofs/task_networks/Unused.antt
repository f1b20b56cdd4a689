-- A number that isn't used.
use Rattle.std.proofs.Common.{ℕ, zero, suc, ◌≡◌, ◌<◌, ◌≤◌, inl, inr, List, [], ◌∷◌, ◌++◌, length, ap, subst, Contains, arith}
use Rattle.std.proofs.Math.Decide.{ℕ_discrete}
use Rattle.plan_model.proofs.task_networks.Different.{length_whole, without_cases}
use Rattle.plan_model.proofs.task_networks.Lists.{not-in_empty, Contains-later, head_or_tail, cut_at}

pub is_in : (xs : List ℕ) (x : ℕ) → Dec (Contains xs x)
is_in [] x = no (not-in_empty x)
is_in (y ∷ xs) x = go (ℕ_discrete y x) (is_in xs x)
  where
    go : Dec (y ≡ x) → Dec (Contains xs x) → Dec (Contains (y ∷ xs) x)
    go (yes e) d = yes (0, omega arith, e)
    go (no n) (yes c) = yes (Contains-later y xs x c)
    go (no n) (no m) = no (λ c. elim (head_or_tail y xs x c) [ inl e ↦ n e | inr e ↦ m e ])

-- fewer than b are used, so one isn't
pub one_unused : (b : ℕ) (xs : List ℕ) → length xs < b → (x : ℕ) × (1 ≤ x) × (x ≤ b) × (Contains xs x → ⊥)
one_unused zero xs h = absurd (omega arith)
one_unused (suc b) xs h = go (is_in xs (suc b)) (λ ys. one_unused b ys)
  where
    go : Dec (Contains xs (suc b)) → ((ys : List ℕ) → length ys < b → (x : ℕ) × (1 ≤ x) × (x ≤ b) × (Contains ys x → ⊥)) → (x : ℕ) × (1 ≤ x) × (x ≤ suc b) × (Contains xs x → ⊥)
    go (no n) ih = (suc b, omega arith, omega arith, n)
    go (yes c) ih =
        let (ls, bs, e) = cut_at xs (suc b) c in
        let k = length_whole ls (suc b) bs in
        let f = ap length e in
        let (x, p, q, n) = ih (ls ++ bs) (omega arith) in
        (x, p, omega arith, λ d. elim (without_cases ls (suc b) bs x (subst (λ z. Contains z x) e d)) [ inl y ↦ omega arith | inr y ↦ n y ])
