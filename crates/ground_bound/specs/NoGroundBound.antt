-- Why a compiled problem has no ground bound that is told.
-- Source: this project's.
use Rattle.std.specs.Prelude.{ℕ, ◌≤◌, ◌^◌, List, [], ◌∷◌, map}
use Rattle.plan_model.specs.declared.values.Compiled.{Compiled}
use Rattle.plan_model.specs.plan_meaning.Network.{GroundMethod}
use Rattle.slot_machine.specs.bound_laws.NetworkEdges.{Edge}
use Rattle.reached_parts.specs.declared.reach_error.ReachError.{ReachError}
use Rattle.reached_parts.specs.declared.reach_error.ReachError.TheVariants as search
use Rattle.reached_parts.specs.HowMany.{most_reached, IsAtMost, IsMoreThan}
use Rattle.ground_bound.specs.GroundBound.{IsGroundBound, IsGroundCycle}
use Rattle.ground_bound.specs.declared.ground_error.GroundEdge.{GroundEdge}
use Rattle.ground_bound.specs.declared.ground_error.GroundError.{GroundError}
use Rattle.ground_bound.specs.declared.ground_error.GroundError.TheVariants.{TooMany, Cycle, Past128, Memory}

-- the ground method, and the number of the child
abbrev pub edge_of : GroundEdge → Edge GroundMethod
edge_of e = record { method = record { number = e.method; values = e.args }; child = e.child }

module _ (c : Compiled) where
  -- the bad cycle that is named: the bad edge first, and then the walk back
  abbrev pub IsTheCycle : List GroundEdge → Type 0
  IsTheCycle [] = ⊥
  IsTheCycle (e ∷ walk) = IsGroundCycle c (edge_of e) (map edge_of walk)

  -- the cause of a refusal
  abbrev pub HasNoGroundBound : GroundError → Type 0
  HasNoGroundBound TooMany = IsMoreThan c most_reached
  HasNoGroundBound (Cycle edges) = IsAtMost c most_reached × IsTheCycle edges
  HasNoGroundBound Past128 = IsAtMost c most_reached × (n : ℕ) × IsGroundBound c n × (2 ^ 128 ≤ n)
  HasNoGroundBound Memory = Unit {0}

-- a search that is given up is refused for the same cause
abbrev pub of_search : ReachError → GroundError
of_search search.TooMany = TooMany
of_search search.Memory = Memory
