-- The atoms that an effect adds, and those that it deletes, as they are gathered in the last gap.
-- Source: this project's; an effect as in Truth.
use Rattle.std.specs.Prelude.{ℕ, Bool, true, false, List}
use Rattle.plan_model.specs.declared.terms.Param.{Param}
use Rattle.plan_model.specs.declared.terms.GroundAtom.{GroundAtom}
use Rattle.plan_model.specs.declared.effects.Effect.{Effect}
use Rattle.problem_index.specs.declared.world.World.{World}
use Rattle.ground_state.specs.Clauses.{IsInType}
use Rattle.ground_state.specs.Search.{Gathers, Touches, OneTouches, TouchesWithin}
use Rattle.state_history.specs.declared.flips.Flips.{Flips}
use Rattle.state_history.specs.declared.gather.Touched.{Touched}
use Rattle.state_history.specs.Flips.{states}

-- those that are added, or those that are deleted
abbrev pub side : Bool → Touched → List GroundAtom
side true touched = touched.adds
side false touched = touched.deletes

-- what is added and deleted, with these objects in force, stands behind the old lists
module _ (world : World) (flips : Flips) (values : List ℕ) (old new : Touched) where
  -- by an effect
  abbrev pub Gets : Effect → Type 0
  Gets e = (adds : Bool) → Gathers (Touches (IsInType world) (states flips flips.last) adds e values) (side adds old) (side adds new)

  -- by effects
  abbrev pub GetsEach : List Effect → Type 0
  GetsEach es = (adds : Bool) → Gathers (OneTouches (IsInType world) (states flips flips.last) adds es values) (side adds old) (side adds new)

  -- by an effect with more variables
  abbrev pub GetsWithin : List Param → Effect → Type 0
  GetsWithin ps e = (adds : Bool) → Gathers (TouchesWithin (IsInType world) (states flips flips.last) adds ps e values) (side adds old) (side adds new)
