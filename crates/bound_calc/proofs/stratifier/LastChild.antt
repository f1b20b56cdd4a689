-- Where pairs have no cycle, the last child is the only one with which no pair begins.
use Rattle.std.proofs.Common.{ℕ, ◌≡◌, ◌≢◌, ◌+◌, ◌<◌, inl, inr, List, length, Bool, Option, Some, None, MatchOption, Contains, refl, subst, arith}
use Rattle.std.proofs.lemmas.Bool.{cases_eq, cases_lt}
use Rattle.plan_model.specs.declared.networks.Pair.{Pair}
use Rattle.plan_model.specs.declared.schemas.MethodPlan.{MethodPlan}
use Rattle.plan_model.specs.Pairs.{pair, Pairs}
use Rattle.plan_model.specs.Parts.{IsMarked}
use Rattle.plan_model.specs.task_networks.Order.{Precedes, direct, through, IsAcyclic, IsLast}
use Rattle.plan_model.proofs.task_networks.Orders.{maximal_above, next_among, precedes_then}
use Rattle.plan_model.specs.net_order.Closure.{AreFirsts}
use Rattle.plan_model.specs.net_order.Meaning.{AreBelow}
use Rattle.plan_model.proofs.net_order.Chains.{pairs_of}
use Rattle.bound_calc.specs.stratifier.Conditions.{IsOrdered}
use Rattle.bound_calc.specs.stratifier.Bad.{IsLastOf, IsOnlyUnmarked, IsOnlyUnmarkedOrNone}

first_pair : {P : ℕ → ℕ → Type 0} (i j : ℕ) → Precedes P i j → (k : ℕ) × P i k
first_pair i j (direct h) = (j, h)
first_pair i j (through {j = k} c h) = first_pair i k c

module _ (count : ℕ) (pairs : List Pair) (below : AreBelow count pairs) (acyclic : IsAcyclic (Pairs pairs)) (marks : List Bool) (room : length marks ≡ count) (firsts : AreFirsts pairs marks) where
  pair_from : (i : ℕ) → IsMarked marks i → (j : ℕ) × Pairs pairs i j
  pair_from i t = let (p, k, e) = (firsts i).0 t in (p.then, subst (λ z. Contains pairs (pair z p.then)) e k)

  last_of_only : (i : ℕ) → IsOnlyUnmarked marks i → IsLast (Pairs pairs) count i
  last_of_only i (l, free, others) = (omega (arith, room), before)
    where
      before : (j : ℕ) → j < count → j ≢ i → Precedes (Pairs pairs) j i
      before j k d = elim (maximal_above count (Pairs pairs) (pairs_of count pairs below) (next_among pair (λ p. p.first) (λ p. p.then) (λ p. refl) (λ a b. refl) pairs) acyclic j k) [
        | inl m ↦ (let (b, h) = pair_from j (others j (omega (arith, room)) d) in absurd (m.1 b (direct h)))
        | inr (c, g, m) ↦ elim (cases_eq c i) [
          | inl e ↦ subst (Precedes (Pairs pairs) j) e g
          | inr n ↦ (let (b, h) = pair_from c (others c (let a = m.0 in omega (arith, room)) n) in absurd (m.1 b (direct h)))
        ]
      ]

  only_of_last : (i : ℕ) → IsLast (Pairs pairs) count i → IsOnlyUnmarked marks i
  only_of_last i (l, before) = (omega (arith, room), free, λ j k d. (let (b, h) = first_pair j i (before j (omega (arith, room)) d) in (firsts j).1 (pair j b, h, refl)))
    where
      free : IsMarked marks i → ⊥
      free t =
          let (j, h) = pair_from i t in
          elim (cases_eq j i) [
            | inl e ↦ acyclic i (direct (subst (Pairs pairs i) e h))
            | inr d ↦ acyclic i (precedes_then i j i (direct h) (before j (pairs_of count pairs below i j h).1 d))
          ]

  last_or_none : (only : Option ℕ) → IsOnlyUnmarkedOrNone marks only → MatchOption only ((i : ℕ) → IsLast (Pairs pairs) count i → ⊥) (IsLast (Pairs pairs) count)
  last_or_none None none = λ i l. none i (only_of_last i l)
  last_or_none (Some i) is = last_of_only i is

pub last_found : (plan : MethodPlan) (pairs : List Pair) (marks slice : List Bool) (only : Option ℕ) → IsOrdered plan → pairs ≡ plan.schema.pairs → length marks ≡ length plan.schema.children → AreFirsts pairs marks → slice ≡ marks
    → IsOnlyUnmarkedOrNone slice only → IsLastOf plan only
last_found plan pairs marks slice only ordered same room firsts e is =
    last_or_none (length plan.schema.children) plan.schema.pairs ordered.pairs ordered.acyclic marks room (subst (λ ps. AreFirsts ps marks) same firsts) only (subst (λ s. IsOnlyUnmarkedOrNone s only) e is)

-- what is known of the first k marks
abbrev pub IsOnlyBelow : List Bool → ℕ → Option ℕ → Type 0
IsOnlyBelow marks k None = (j : ℕ) → j < k → IsMarked marks j
IsOnlyBelow marks k (Some i) = (i < k) × (IsMarked marks i → ⊥) × ((j : ℕ) → j < k → j ≢ i → IsMarked marks j)

pub marked_below : (marks : List Bool) (k : ℕ) (only : Option ℕ) → IsMarked marks k → IsOnlyBelow marks k only → IsOnlyBelow marks (k + 1) only
marked_below marks k None m h = λ j a. elim (cases_lt j k) [ inl l ↦ h j l | inr g ↦ subst (IsMarked marks) (omega arith) m ]
marked_below marks k (Some i) m (a, free, h) = (omega arith, free, λ j b d. elim (cases_lt j k) [ inl l ↦ h j l d | inr g ↦ subst (IsMarked marks) (omega arith) m ])

pub two_unmarked : (marks : List Bool) (k i : ℕ) → k < length marks → (IsMarked marks k → ⊥) → IsOnlyBelow marks k (Some i) → (n : ℕ) → IsOnlyUnmarked marks n → ⊥
two_unmarked marks k i l free (a, other, h) n (b, c, others) = elim (cases_eq k n) [
  | inl e ↦ other (others i (omega arith) (λ f. absurd (omega arith)))
  | inr d ↦ free (others k l d)
]

pub only_below_all : (marks : List Bool) (k : ℕ) (only : Option ℕ) → length marks ≡ k → IsOnlyBelow marks k only → IsOnlyUnmarkedOrNone marks only
only_below_all marks k None e h = λ i is. is.1 (h i (let a = is.0 in omega arith))
only_below_all marks k (Some i) e (a, free, h) = (omega arith, free, λ j b d. h j (omega arith) d)
