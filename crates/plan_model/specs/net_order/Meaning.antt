-- What an order means, by the definitions of orders of children.
-- Source: Höller et al., "HDDL", AAAI 2020, ordering constraints of a task network: the written pairs generate the order.
use Rattle.std.specs.Prelude.{ℕ, ◌≡◌, ◌<◌, ◌≤◌, ◌↔◌, IsTrue, List, MatchOption, All}
use Rattle.plan_model.specs.declared.networks.Pair.{Pair}
use Rattle.plan_model.specs.Pairs.{pair, Pairs}
use Rattle.plan_model.specs.task_networks.Order.{Precedes, IsAcyclic, IsLine, IsHeir, IsLast, IsMaximal, IsCut, IsFirstClosing}
use Rattle.plan_model.specs.declared.net_order.order.OrderError.{OrderError}
use Rattle.plan_model.specs.declared.net_order.order.OrderError.TheVariants.{Cycle, Memory}
use Rattle.plan_model.specs.net_order.Answers.{Answers, precedes, heir, maximal, cut}

-- the answers are those of the order that the pairs generate on so many children
pub record IsOrderOf (count : ℕ) (pairs : List Pair) (order : Answers) : Type 0 where
  pub children : order.count ≡ count
  pub acyclic : IsAcyclic (Pairs pairs)
  pub precedes : (i j : ℕ) → i < count → j < count → IsTrue (precedes order i j) ↔ Precedes (Pairs pairs) i j
  pub line : IsLine (Pairs pairs) count order.line
  -- the heir is missing exactly where there are no children
  pub heir : MatchOption (heir order) (count ≡ 0) (IsHeir (Pairs pairs) count)
  pub last : MatchOption order.last ((i : ℕ) → IsLast (Pairs pairs) count i → ⊥) (IsLast (Pairs pairs) count)
  pub maximal : (i : ℕ) → i < count → IsTrue (maximal order i) ↔ IsMaximal (Pairs pairs) count i
  pub cut : (k : ℕ) → 1 ≤ k → k < count → IsTrue (cut order k) ↔ IsCut (Pairs pairs) order.line k

-- the named pair is the first that closes a cycle with those before it; so the pairs have a cycle
abbrev pub IsRefusedBy : List Pair → OrderError → Type 0
IsRefusedBy pairs (Cycle k) = IsFirstClosing pair pairs k × (IsAcyclic (Pairs pairs) → ⊥)
IsRefusedBy pairs Memory = Unit {0}

-- all pairs are of so many children
abbrev pub AreBelow : ℕ → List Pair → Type 0
AreBelow count pairs = All (λ p. (p.first < count) × (p.then < count)) pairs
