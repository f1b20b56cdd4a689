-- What a list of steps is decoded to: the solution that it spells, or the step at which it fails.
-- Source: this project's, after the translation of Alford et al., "Bound to Plan", ICAPS 2016.
use Rattle.std.specs.Prelude.{ℕ, ◌≡◌, List, map}
use Rattle.plan_model.specs.declared.steps.GroundAction.{GroundAction}
use Rattle.plan_model.specs.declared.values.Compiled.{Compiled}
use Rattle.plan_model.specs.task_networks.Tree.{Tree, Address}
use Rattle.plan_model.specs.plan_meaning.Network.{network}
use Rattle.plan_model.specs.plan_meaning.Solution.{IsSolution}
use Rattle.plan_model.specs.plan_meaning.SpelledPlan.{IsSpelling}
use Rattle.tree_core.specs.Runs.{StandsFor}
use Rattle.decoding.specs.PrintedSteps.{FailsAt}
use Rattle.tree_decoder.specs.declared.decoded.Decoded.{Decoded}
use Rattle.tree_decoder.specs.declared.decoded.DecodeError.{DecodeError}
use Rattle.tree_decoder.specs.declared.decoded.DecodeError.TheVariants.{NotAPlan, Memory}

module _ (c : Compiled) (b : ℕ) (steps : List GroundAction) where
  -- the steps spell, with b slots, this tree's schedule, which is a solution, and these are its slots
  pub record IsDecoded (decoded : Decoded) : Type 0 where
    pub tree : Tree (network c)
    pub order : List Address
    pub slot : Address → ℕ
    pub spelled : IsSpelling c b steps tree order slot
    pub solution : IsSolution c tree order
    pub stands : StandsFor c decoded.run tree order
    pub slots_are : decoded.slots ≡ map slot order

  -- the steps spell no solution: they fail at this step for this first cause; or memory ran out
  abbrev pub IsRefused : DecodeError → Type 0
  IsRefused (NotAPlan step why) = FailsAt c b steps step why
  IsRefused Memory = Unit {0}
