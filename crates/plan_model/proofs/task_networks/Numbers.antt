-- The numbers from one on.
use Rattle.std.proofs.Common.{ℕ, zero, suc, ◌≡◌, ◌+◌, ◌<◌, ◌≤◌, inl, inr, length, refl, ap, Contains, arith}
use Rattle.std.proofs.Math.Decide.{ℕ_discrete}
use Rattle.htn_base.specs.Different.{AreDifferent}
use Rattle.plan_model.specs.task_networks.Spelling.{numbers}
use Rattle.plan_model.proofs.task_networks.Lists.{not-in_empty, head_or_tail, Contains-later}

pub length-numbers : (i n : ℕ) → length (numbers i n) ≡ n
length-numbers i zero = refl
length-numbers i (suc n) = ap suc (length-numbers (suc i) n)

pub numbers_to : (i n x : ℕ) → Contains (numbers i n) x → (i ≤ x) × (x < i + n)
numbers_to i zero x c = absurd (not-in_empty x c)
numbers_to i (suc n) x c = elim (head_or_tail i (numbers (suc i) n) x c) [ inl e ↦ (omega arith, omega arith) | inr d ↦ (let h = numbers_to (suc i) n x d in let a = h.0 in let b = h.1 in (omega arith, omega arith)) ]

pub to_numbers : (i n x : ℕ) → i ≤ x → x < i + n → Contains (numbers i n) x
to_numbers i zero x a b = absurd (omega arith)
to_numbers i (suc n) x a b = elim (ℕ_discrete i x) [ yes e ↦ (0, omega arith, e) | no d ↦ Contains-later i (numbers (suc i) n) x (to_numbers (suc i) n x (omega arith) (omega arith)) ]

pub different-numbers : (i n : ℕ) → AreDifferent (numbers i n)
different-numbers i zero = tt
different-numbers i (suc n) = (λ c. (let h = (numbers_to (suc i) n i c).0 in omega arith), different-numbers (suc i) n)
