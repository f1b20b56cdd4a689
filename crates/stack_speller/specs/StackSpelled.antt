-- What is said of a run's width and of its steps, as a stack.
-- Source: this project's.
use Rattle.std.specs.Prelude.{ℕ, ◌≤◌, List}
use Rattle.plan_model.specs.declared.steps.GroundAction.{GroundAction}
use Rattle.plan_model.specs.declared.values.Compiled.{Compiled}
use Rattle.plan_model.specs.task_networks.Tree.{Tree, Address}
use Rattle.plan_model.specs.task_networks.Pending.{IsWidth}
use Rattle.plan_model.specs.plan_meaning.Network.{network}
use Rattle.tree_core.specs.declared.growth.Scheduled.{Scheduled}
use Rattle.slot_speller.specs.Spelled.{IsFinishedRun}
use Rattle.stack_encoding.specs.StackSpelling.{IsStackSpelling}
use Rattle.stack_speller.specs.Tips.{cells_from, greatest}
use Rattle.stack_speller.specs.StackSteps.{steps_from}

module _ (c : Compiled) where
  module _ (run : Scheduled) where
    -- the greatest cell of a node that is taken
    abbrev pub width_of : ℕ
    width_of = greatest (cells_from c run.tree 1 run.order)

    -- the steps of the nodes, in their order
    abbrev pub steps_of : List GroundAction
    steps_of = steps_from c run.tree 1 run.order

  -- the steps spell the tree in this order with as many cells as it is wide, and these are within so many
  pub record IsSpelledBy (cells width : ℕ) (steps : List GroundAction) (tree : Tree (network c)) (order : List Address) : Type 0 where
    pub width_is : IsWidth (network c) width tree order
    pub within : width ≤ cells
    pub cell : Address → ℕ
    pub spelling : IsStackSpelling c width steps tree order cell

  -- they spell each finished tree for which the run stands
  abbrev pub IsSpelled : Scheduled → (cells width : ℕ) → List GroundAction → Type 0
  IsSpelled run cells width steps = (tree : Tree (network c)) (order : List Address) → IsFinishedRun c run tree order
      → IsSpelledBy cells width steps tree order
