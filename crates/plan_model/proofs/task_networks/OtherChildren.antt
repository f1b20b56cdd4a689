-- The children other than the heir.
use Rattle.std.proofs.Common.{ℕ, ◌≡◌, ◌≢◌, ◌<◌, ◌↔◌, List, filter, Option, Some, None, true, false, not, ◌==◌, refl, ap, subst, Contains, arith, eq-eqb}
use Rattle.htn_base.specs.Different.{AreDifferent}
use Rattle.plan_model.specs.task_networks.Spelling.{numbers, is_heir}
use Rattle.plan_model.proofs.task_networks.Filters.{filter_to, to_filter, different-filter}
use Rattle.plan_model.proofs.task_networks.Numbers.{numbers_to, to_numbers, different-numbers}

-- the numbers other than the heir
abbrev pub rest_of : Option ℕ → ℕ → List ℕ
rest_of o n = filter (λ i. not (is_heir o i)) (numbers 0 n)

pub rest_cases : (o : Option ℕ) (n i : ℕ) → Contains (rest_of o n) i ↔ ((i < n) × (o ≡ Some i → ⊥))
rest_cases o n i = (
  λ c. (let h = filter_to (λ j. not (is_heir o j)) (numbers 0 n) i c in let l = (numbers_to 0 n i h.0).1 in (omega arith, other o h.1)),
  λ h. (let l = h.0 in to_filter (λ j. not (is_heir o j)) (numbers 0 n) i (to_numbers 0 n i (omega arith) (omega arith)) (is_other o h.1)),
)
  where
    other : (o : Option ℕ) → not (is_heir o i) ≡ true → o ≡ Some i → ⊥
    other None e f = cc
    other (Some k) e f = let g : k ≡ i = cc in let t : (k == i) ≡ true = eq-eqb k i g in let u : not true ≡ true = subst (λ b. not b ≡ true) t e in cc

    is_other : (o : Option ℕ) → (o ≡ Some i → ⊥) → not (is_heir o i) ≡ true
    is_other None f = refl
    is_other (Some k) f = let t : (k == i) ≡ false = (let n : k ≢ i = (λ e. f (ap Some e)) in grind arith) in ap not t

pub different_rest : (o : Option ℕ) (n : ℕ) → AreDifferent (rest_of o n)
different_rest o n = different-filter (λ i. not (is_heir o i)) (numbers 0 n) (different-numbers 0 n)
