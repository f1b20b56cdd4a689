-- What is proved of plans that are placed, and of those that are not.
-- Source: this project's.
use Rattle.std.specs.Prelude.{ℕ, ◌⊎◌, List, Option}
use Rattle.plan_model.specs.declared.options.Checks.{Checks}
use Rattle.plan_model.specs.declared.values.Hddl.{Hddl}
use Rattle.plan_model.specs.declared.values.Compiled.{Compiled}
use Rattle.plan_model.specs.task_networks.Tree.{Tree, Address}
use Rattle.plan_model.specs.plan_meaning.Network.{network}
use Rattle.plan_model.specs.plan_meaning.Solution.{IsSolution}
use Rattle.hplan_text.specs.declared.values.HPlan.{HPlan}
use Rattle.hplan_text.specs.Printable.{IsSoundHPlan}
use Rattle.plan_encoder.specs.Calls.{ShowsUnderSomeIds}
use Rattle.plan_encoder.specs.Laws.{IsOf, SomeSolutionShows}
use Rattle.placements.specs.Matching.{IsUnmatched}
use Rattle.placements.specs.Placement.{IsPlaced, IsNotExecutable, MissesGoal, HasNoPlace}

module _ (c : Compiled) where
  -- a solution that shows the plan
  abbrev pub PlacedAreSolutions : Type 0
  PlacedAreSolutions = (h : Hddl) (mode : Checks) → IsOf h mode c → (plan : HPlan) (tree : Tree (network c)) (order : List Address)
      → IsPlaced c plan tree order → IsSolution c tree order × ShowsUnderSomeIds c plan tree order

  -- a sentence that says why the plan is not placed
  abbrev pub IsRefused : HPlan → Type 0
  IsRefused plan = ((id : Option ℕ) × IsUnmatched c plan id) ⊎ ((id : ℕ) × IsNotExecutable c plan id) ⊎ MissesGoal c plan ⊎ HasNoPlace c plan

  abbrev pub RefusedAreShownByNone : Type 0
  RefusedAreShownByNone = (h : Hddl) (mode : Checks) → IsOf h mode c → (plan : HPlan) → IsSoundHPlan plan
      → IsRefused plan → SomeSolutionShows c plan → ⊥
