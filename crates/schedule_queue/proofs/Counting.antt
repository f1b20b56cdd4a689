-- Counts: the same where the same is counted, and one less without one.
use Rattle.std.proofs.Common.{ℕ, ◌≡◌, ◌≢◌, ◌<◌, ◌-◌, ◌↔◌, inl, inr, List, [], ◌∷◌, ◌++◌, length, refl, ap, sym, subst, Contains, arith}
use Rattle.std.proofs.Math.Decide.{ℕ_discrete}
use Rattle.htn_base.specs.Different.{AreDifferent}
use Rattle.plan_model.specs.task_networks.Spelling.{numbers}
use Rattle.plan_model.proofs.task_networks.Lists.{Contains-here, Contains-later, not-in_empty, cut_at, head_or_tail}
use Rattle.plan_model.proofs.task_networks.Different.{different_without, length_whole, within_whole, without_cases}
use Rattle.plan_model.proofs.task_networks.Numbers.{length-numbers, numbers_to, to_numbers, different-numbers}
use Rattle.schedules.specs.latest.Queue.{HasCount}

pub counted_same : (P Q : ℕ → Type 0) (n : ℕ) → ((k : ℕ) → P k ↔ Q k) → HasCount P n → HasCount Q n
counted_same P Q n same (numbers, d, is, e) = (numbers, d, (λ k. ((λ c. (same k).0 ((is k).0 c)), (λ q. (is k).1 ((same k).1 q)))), e)

pub counted_none : (P : ℕ → Type 0) → HasCount P 0 → (k : ℕ) → P k → ⊥
counted_none P (numbers, d, is, e) k p = go numbers e ((is k).1 p)
  where
    go : (xs : List ℕ) → length xs ≡ 0 → Contains xs k → ⊥
    go [] f c = not-in_empty k c
    go (x ∷ xs) f c = omega arith

pub none_counted : (P : ℕ → Type 0) (n : ℕ) → HasCount P n → ((k : ℕ) → P k → ⊥) → n ≡ 0
none_counted P n (numbers, d, is, e) none = go numbers e (λ k c. none k ((is k).0 c))
  where
    go : (xs : List ℕ) → length xs ≡ n → ((k : ℕ) → Contains xs k → ⊥) → n ≡ 0
    go [] f h = sym f
    go (x ∷ xs) f h = absurd (h x (Contains-here x xs))

pub counts_none : (P : ℕ → Type 0) → ((k : ℕ) → P k → ⊥) → HasCount P 0
counts_none P none = ([], tt, (λ k. ((λ c. absurd (not-in_empty k c)), (λ p. absurd (none k p)))), refl)

-- all but one of what was counted
pub counted_less : (P Q : ℕ → Type 0) (n j : ℕ) → P j → ((k : ℕ) → Q k ↔ (P k × (k ≢ j))) → HasCount P n → HasCount Q (n - 1)
counted_less P Q n j p same (numbers, d, is, e) =
    let (before, after, f) = cut_at numbers j ((is j).1 p) in
    let r = different_without before j after (subst AreDifferent f d) in (
      before ++ after,
      r.0,
      (λ k. (
        λ c. (same k).1 (
          (is k).0 (subst (λ z. Contains z k) (sym f) (within_whole before j after k c)),
          λ g. r.1
              (subst (Contains (before ++ after)) g c),
        ),
        λ q. (let x = (same k).0 q in elim (without_cases before j after k (subst (λ z. Contains z k) f ((is k).1 x.0))) [
          | inl g
              ↦ absurd (x.1 (sym g))
          | inr c ↦ c
        ]),
      )),
      (let g = ap length f in let h = length_whole before j after in omega arith),
    )

-- the numbers below n
pub counts_below : (P : ℕ → Type 0) (n : ℕ) → ((k : ℕ) → P k ↔ (k < n)) → HasCount P n
counts_below P n same = (
  numbers 0 n,
  different-numbers 0 n,
  (λ k. (
    (λ c. (let h = (numbers_to 0 n k c).1 in (same k).1 (omega arith))),
    (λ p. (let l = (same k).0 p in to_numbers 0 n k (omega arith) (omega arith))),
  )),
  length-numbers 0 n,
)

-- whether a number is in a list
pub is_one : (xs : List ℕ) (k : ℕ) → Dec (Contains xs k)
is_one [] k = no (not-in_empty k)
is_one (x ∷ xs) k = elim (ℕ_discrete x k) [
  | yes e ↦ yes (subst (Contains (x ∷ xs)) e (Contains-here x xs))
  | no d ↦ elim (is_one xs k) [
    | yes c ↦ yes (Contains-later x xs k c)
    | no n ↦ no (λ c. elim (head_or_tail x xs k c) [ inl e ↦ d e | inr h ↦ n h ])
  ]
]
