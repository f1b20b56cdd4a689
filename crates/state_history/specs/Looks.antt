-- What a look answers, in each of the gaps in which all that was looked at is the same.
-- Source: this project's; truth as in plan_meaning.
use Rattle.std.specs.Prelude.{ℕ, ◌↔◌, Bool, IsTrue, List}
use Rattle.plan_model.specs.declared.terms.Param.{Param}
use Rattle.plan_model.specs.declared.formulas.Formula.{Formula}
use Rattle.plan_model.specs.plan_meaning.Truth.{IsTrueIn}
use Rattle.problem_index.specs.declared.world.World.{World}
use Rattle.ground_state.specs.Clauses.{IsInType}
use Rattle.ground_state.specs.Search.{IsAmongParts, IsFound}
use Rattle.state_history.specs.declared.flips.Flips.{Flips}
use Rattle.state_history.specs.declared.desk.Desk.{Desk}
use Rattle.state_history.specs.Flips.{IsSoIn}

-- the flips that are looked at, with these objects in force, in the gap
module _ (world : World) (flips : Flips) (values : List ℕ) (gap : ℕ) where
  -- whether the formula is true
  abbrev pub IsTruth : Formula → Desk → Bool → Type 0
  IsTruth f desk truth = IsSoIn flips desk.since gap (λ S. IsTrue truth ↔ IsTrueIn (IsInType world) S f values)

  -- one of the formulas is as wanted, or each is not
  abbrev pub IsAmong : Bool → List Formula → Desk → Bool → Type 0
  IsAmong wanted fs desk found = IsSoIn flips desk.since gap (λ S. IsAmongParts (IsInType world) S wanted found fs values)

  -- for some objects of the types the formula is as wanted, or for each it is not
  abbrev pub Finds : Bool → List Param → Formula → Desk → Bool → Type 0
  Finds wanted ps f desk found = IsSoIn flips desk.since gap (λ S. IsFound (IsInType world) S wanted found ps f values)
