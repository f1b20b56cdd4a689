-- A plan that is placed, as a table with an order, and why one is not.
-- Source: this project's.
use Rattle.std.specs.Prelude.{List}
use Rattle.plan_model.specs.declared.values.Compiled.{Compiled}
use Rattle.plan_model.specs.task_networks.Tree.{Tree, Address}
use Rattle.plan_model.specs.plan_meaning.Network.{network}
use Rattle.hplan_text.specs.declared.values.HPlan.{HPlan}
use Rattle.tree_core.specs.declared.growth.Scheduled.{Scheduled}
use Rattle.tree_core.specs.Runs.{StandsFor}
use Rattle.placements.specs.Matching.{IsUnmatched}
use Rattle.placements.specs.Placement.{IsPlaced, IsNotExecutable, MissesGoal, HasNoPlace}
use Rattle.plan_placer.specs.declared.place_error.PlaceError.{PlaceError}
use Rattle.plan_placer.specs.declared.place_error.PlaceError.TheVariants.{NoMatch, NotExecutable, GoalFalse, NoPlacement, Memory}

module _ (c : Compiled) (plan : HPlan) where
  -- the run stands for the tree and the order of the placed plan
  abbrev pub IsPlacedRun : Scheduled → Type 0
  IsPlacedRun run = (tree : Tree (network c)) × (order : List Address) × IsPlaced c plan tree order × StandsFor c run tree order

  abbrev pub RefusesPlace : PlaceError → Type 0
  RefusesPlace (NoMatch id) = IsUnmatched c plan id
  RefusesPlace (NotExecutable id) = IsNotExecutable c plan id
  RefusesPlace GoalFalse = MissesGoal c plan
  RefusesPlace NoPlacement = HasNoPlace c plan
  RefusesPlace Memory = Unit {0}
