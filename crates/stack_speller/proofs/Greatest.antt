-- The greatest of a list.
use Rattle.std.proofs.Common.{ℕ, ◌≡◌, ◌≤◌, ◌⊎◌, inl, inr, List, [], ◌∷◌, ◌++◌, max, refl, sym, subst, ◌∙◌, Contains, arith}
use Rattle.std.proofs.lemmas.Bool.{cases_lt}
use Rattle.std.proofs.lemmas.List.Recursion.{max_push}
use Rattle.plan_model.proofs.task_networks.Lists.{Contains-here, Contains-later, head_or_tail, not-in_empty}
use Rattle.stack_speller.specs.Tips.{greatest}

pub greatest-push : (xs : List ℕ) (y : ℕ) → greatest (xs ++ y ∷ []) ≡ max (greatest xs) y
greatest-push xs y = max_push greatest (λ x. x) refl (λ x xs. refl) xs y

pub below_greatest : (xs : List ℕ) (x : ℕ) → Contains xs x → x ≤ greatest xs
below_greatest [] x c = absurd (not-in_empty x c)
below_greatest (y ∷ xs) x c = elim (head_or_tail y xs x c) [
  | inl e ↦ grind arith
  | inr d ↦ (let l = below_greatest xs x d in grind arith)
]

-- it is one of them, where it is not 0
pub greatest_reached : (xs : List ℕ) → (greatest xs ≡ 0) ⊎ Contains xs (greatest xs)
greatest_reached [] = inl refl
greatest_reached (x ∷ xs) = elim (cases_lt (greatest xs) x) [
  | inl l ↦ (let e : x ≡ max x (greatest xs) = grind arith in inr (subst (Contains (x ∷ xs)) e (Contains-here x xs)))
  | inr l ↦ (let e : greatest xs ≡ max x (greatest xs) = grind arith in elim (greatest_reached xs) [
    | inl z ↦ inl (sym e ∙ z)
    | inr c ↦ inr (Contains-later x xs (max x (greatest xs)) (subst (Contains xs) e c))
  ])
]
