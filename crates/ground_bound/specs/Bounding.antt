-- What is reached as a problem without parameters, with its ground methods; its bound, or why it has none.
-- Source: this project's.
use Rattle.std.specs.Prelude.{ℕ, ◌≡◌, ◌≤◌, ◌^◌, List, [], map, slice_get, Some}
use Rattle.htn_base.specs.Packed.{Row, row_of}
use Rattle.plan_model.specs.declared.values.Compiled.{Compiled}
use Rattle.plan_model.specs.plan_meaning.Network.{top_task}
use Rattle.plan_model.specs.plan_meaning.Strata.{IsTailRecursive}
use Rattle.plan_model.specs.plan_meaning.Bound.{IsBound}
use Rattle.bound_calc.specs.declared.stratifier.edge.Edge as Declared
use Rattle.bound_calc.specs.stratifier.Listed as Listed
use Rattle.bound_calc.specs.stratifier.NamedCycle.{IsNamed}
use Rattle.reached_parts.specs.HowMany.{most_reached, IsAtMost}
use Rattle.ground_bound.specs.NoGroundBound.{edge_of}
use Rattle.reached_parts.specs.Search.{AreTheReached}
use Rattle.ground_bound.specs.Grounded.{AreInOrder, ground_edge, IsGrounded}
use Rattle.ground_bound.specs.MethodRows.{row}
use Rattle.ground_bound.specs.declared.in_order.MethodRow.{MethodRow}
use Rattle.ground_bound.specs.declared.ground_error.GroundEdge.{GroundEdge}
use Rattle.ground_bound.specs.declared.ground_error.GroundError.{GroundError}
use Rattle.ground_bound.specs.declared.ground_error.GroundError.TheVariants.{TooMany, Cycle, Past128, Memory}

-- the same edges with ground methods
abbrev pub AreNamed : List MethodRow → List Declared.Edge → List GroundEdge → Type 0
AreNamed methods edges named = map edge_of named ≡ map (ground_edge (map row methods)) (map Listed.edge_of edges)

-- p is what is reached, with these ground methods
pub record IsProblemOf (c p : Compiled) (methods : List MethodRow) : Type 0 where
  pub tasks : List Row
  pub actions : List Row
  pub rows : List Row
  pub the : AreTheReached c tasks actions rows
  pub most : IsAtMost c most_reached
  pub first : slice_get tasks 0 ≡ Some (row_of (top_task c) [])
  pub order : AreInOrder rows (map row methods)
  pub grounded : IsGrounded c tasks (map row methods) p

module _ (p : Compiled) where
  abbrev pub HasBound : ℕ → Type 0
  HasBound n = IsTailRecursive p × IsBound p n

  -- why there is none to tell: the named cycle by its ground methods, or a bound past 128 bits
  abbrev pub HasNone : List MethodRow → GroundError → Type 0
  HasNone methods TooMany = ⊥
  HasNone methods (Cycle named) = (edges : List Declared.Edge) × IsNamed p (map Listed.edge_of edges) × AreNamed methods edges named
  HasNone methods Past128 = (n : ℕ) × HasBound n × (2 ^ 128 ≤ n)
  HasNone methods Memory = Unit {0}
