-- Lists of ground actions that spell a front with the lowest free slots.
-- Source: this project's.
use Rattle.std.specs.Prelude.{ℕ, List}
use Rattle.plan_model.specs.declared.options.Slots.{Slots}
use Rattle.plan_model.specs.declared.options.Slots.TheVariants.{Any, First}
use Rattle.plan_model.specs.declared.steps.GroundAction.{GroundAction}
use Rattle.plan_model.specs.declared.values.Compiled.{Compiled}
use Rattle.plan_model.specs.task_networks.Tree.{Tree, Address}
use Rattle.plan_model.specs.plan_meaning.Network.{network}
use Rattle.plan_model.specs.plan_meaning.SpelledPlan.{IsSpelling}
use Rattle.schedules.specs.ruled.LowestSlots.{AreLowest}
use Rattle.plan_proof.specs.Headline.{SpellingForm}

-- the list spells the front, with b slots of which each node has the lowest that is free when it comes
pub record IsLowestSpelling (c : Compiled) (b : ℕ) (steps : List GroundAction) (tree : Tree (network c)) (order : List Address) (slot : Address → ℕ) : Type 0 where
  pub spelling : IsSpelling c b steps tree order slot
  pub lowest : AreLowest (network c) tree slot order

-- by which free slots a method takes
abbrev pub SpellingBy : Slots → SpellingForm
SpellingBy Any = IsSpelling
SpellingBy First = IsLowestSpelling
