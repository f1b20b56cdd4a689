-- The last children of methods, and marks of bad edges.
-- Source: this project's, after the tail-recursive problems of Alford et al., "Bound to Plan", ICAPS 2016.
use Rattle.std.specs.Prelude.{ℕ, ◌≡◌, ◌≢◌, ◌<◌, ◌↔◌, Bool, IsTrue, List, length, slice_get, Option, Some, MatchOption}
use Rattle.plan_model.specs.declared.networks.Pair.{Pair}
use Rattle.plan_model.specs.declared.schemas.MethodPlan.{MethodPlan}
use Rattle.plan_model.specs.declared.values.Compiled.{Compiled}
use Rattle.plan_model.specs.Pairs.{Pairs}
use Rattle.plan_model.specs.Parts.{IsMarked}
use Rattle.plan_model.specs.task_networks.Order.{IsLast}
use Rattle.plan_model.specs.plan_meaning.Strata.{IsBad}
use Rattle.bound_calc.specs.declared.stratifier.edge.Edge as Declared
use Rattle.bound_calc.specs.stratifier.Listed.{edge_of}

-- the last of so many children; none exactly where no child is last
abbrev pub IsLastChild : ℕ → List Pair → Option ℕ → Type 0
IsLastChild count pairs last = MatchOption last ((i : ℕ) → IsLast (Pairs pairs) count i → ⊥) (IsLast (Pairs pairs) count)

-- the only item without a mark
abbrev pub IsOnlyUnmarked : List Bool → ℕ → Type 0
IsOnlyUnmarked marks i = (i < length marks) × (IsMarked marks i → ⊥) × ((j : ℕ) → j < length marks → j ≢ i → IsMarked marks j)

abbrev pub IsOnlyUnmarkedOrNone : List Bool → Option ℕ → Type 0
IsOnlyUnmarkedOrNone marks only = MatchOption only ((i : ℕ) → IsOnlyUnmarked marks i → ⊥) (IsOnlyUnmarked marks)

abbrev pub IsLastOf : MethodPlan → Option ℕ → Type 0
IsLastOf plan = IsLastChild (length plan.schema.children) plan.schema.pairs

-- a mark for each edge, which says whether it is bad
pub record AreBadMarks (c : Compiled) (edges : List Declared.Edge) (marks : List Bool) : Type 0 where
  pub room : length marks ≡ length edges
  pub each : (k : ℕ) (e : Declared.Edge) (mark : Bool) → slice_get edges k ≡ Some e → slice_get marks k ≡ Some mark → IsTrue mark ↔ IsBad c (edge_of e)
