-- Sets of predecessors that are closed under the pairs.
use Rattle.std.specs.Prelude.{ℕ, ◌≡◌, ◌<◌, ◌↔◌, IsTrue, Bool, List, Contains}
use Rattle.plan_model.specs.declared.networks.Pair.{Pair}
use Rattle.plan_model.specs.task_networks.Order.{Precedes, IsAcyclic}
use Rattle.plan_model.specs.net_order.Marks.{has, Marked, IsSquare}
use Rattle.plan_model.specs.Pairs.{Pairs}

-- the marked ones of each child are those that precede it, and no child precedes itself
pub record IsClosure (count : ℕ) (pairs : List Pair) (before : List (List Bool)) : Type 0 where
  pub square : IsSquare count before
  pub precedes : (i j : ℕ) → i < count → j < count → Marked before i j ↔ Precedes (Pairs pairs) i j
  pub acyclic : IsAcyclic (Pairs pairs)

-- the children with which a pair begins
abbrev pub AreFirsts : List Pair → List Bool → Type 0
AreFirsts pairs set = (i : ℕ) → IsTrue (has set i) ↔ ((p : Pair) × Contains pairs p × (p.first ≡ i))

-- the set of each child has those from which a pair leads to it
pub record IsDirect (count : ℕ) (pairs : List Pair) (before : List (List Bool)) : Type 0 where
  pub square : IsSquare count before
  pub marks : (i j : ℕ) → Marked before i j ↔ Pairs pairs i j
