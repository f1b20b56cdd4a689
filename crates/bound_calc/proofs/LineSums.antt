-- A sum over the children of a method is the same along its line.
use Rattle.std.proofs.Common.{ℕ, suc, ◌≡◌, ◌+◌, ◌≤◌, inl, inr, List, [], ◌∷◌, ◌++◌, length, slice_get, Some, refl, ap, sym, subst, Contains, arith}
use Rattle.std.specs.List.{sum_by}
use Rattle.std.proofs.lemmas.List.Sums.{sum_by-cons, sum_by-append}
use Rattle.plan_model.specs.task_networks.Net.{Net}
use Rattle.plan_model.specs.task_networks.Order.{IsLine}
use Rattle.htn_base.specs.Different.{AreDifferent}
use Rattle.plan_model.specs.task_networks.Spelling.{numbers}
use Rattle.plan_model.specs.task_networks.Bound.{weight, weights}
use Rattle.plan_model.proofs.task_networks.Lists.{Contains-here, Contains-later, cut_at}
use Rattle.plan_model.proofs.task_networks.Different.{without_cases}
use Rattle.plan_model.proofs.task_networks.Numbers.{numbers_to, to_numbers, different-numbers}
use Rattle.plan_model.proofs.net_order.Whole.{child_of, different}

pub sum_pointwise : (f g : ℕ → ℕ) (xs : List ℕ) → ((x : ℕ) → Contains xs x → f x ≤ g x) → sum_by f xs ≤ sum_by g xs
sum_pointwise f g [] h = omega arith
sum_pointwise f g (x ∷ xs) h =
    let a = h x (Contains-here x xs) in
    let b = sum_pointwise f g xs (λ y c. h y (Contains-later x xs y c)) in
    omega (arith, sum_by-cons f x xs, sum_by-cons g x xs)

-- different elements of a list sum up to no more than it does
sum_no_more : (f : ℕ → ℕ) (xs ys : List ℕ) → AreDifferent xs → ((x : ℕ) → Contains xs x → Contains ys x) → sum_by f xs ≤ sum_by f ys
sum_no_more f [] ys d h = omega arith
sum_no_more f (x ∷ xs) ys d h =
    let (ls, rs, e) = cut_at ys x (h x (Contains-here x xs)) in
    let a : sum_by f xs ≤ sum_by f (ls ++ rs) = sum_no_more f xs (ls ++ rs) d.1 (λ y c. elim (without_cases ls x rs y (subst (λ z. Contains z y) e (h y (Contains-later x xs y c)))) [ inl k ↦ absurd (d.0 (subst (Contains xs) (sym k) c)) | inr k ↦ k ]) in
    let b = ap (sum_by f) e in
    omega (arith, sum_by-cons f x xs, sum_by-append f ls rs, sum_by-append f ls (x ∷ rs), sum_by-cons f x rs)

pub sum-line : (Pair : ℕ → ℕ → Type 0) (n : ℕ) (line : List ℕ) → IsLine Pair n line → (f : ℕ → ℕ) → sum_by f (numbers 0 n) ≡ sum_by f line
sum-line Pair n line is f =
    let a = sum_no_more f (numbers 0 n) line (different-numbers 0 n) (λ x c. is.whole x (let l = (numbers_to 0 n x c).1 in omega arith)) in
    let b = sum_no_more f line (numbers 0 n) (different Pair n line is.each) (λ x c. to_numbers 0 n x (omega arith) (let l = child_of Pair n line is.each x c in omega arith)) in
    omega arith

pub weights-numbers : (N : Net) (block : N.Method → ℕ → ℕ) (number : N.Work → ℕ) (m : N.Method) (k : ℕ) (f : ℕ → ℕ) (i : ℕ) (ws : List N.Work)
    → ((j : ℕ) (u : N.Work) → slice_get ws j ≡ Some u → f (i + j) ≡ weight k (block m (i + j)) (number u)) → weights N block number m k i ws ≡ sum_by f (numbers i (length ws))
weights-numbers N block number m k f i [] h = refl
weights-numbers N block number m k f i (w ∷ ws) h =
    let z : i + 0 ≡ i = omega arith in
    let a : f i ≡ weight k (block m i) (number w) = subst (λ n. f n ≡ weight k (block m n) (number w)) z (h 0 w refl) in
    let b = weights-numbers N block number m k f (suc i) ws (λ j u e. (let y : i + suc j ≡ suc i + j = omega arith in subst (λ n. f n ≡ weight k (block m n) (number u)) y (h (suc j) u e))) in
    omega (arith, sum_by-cons f i (numbers (suc i) (length ws)))
