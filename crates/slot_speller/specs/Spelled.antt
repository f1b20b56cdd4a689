-- What is said of a run's width and of its steps.
-- Source: this project's.
use Rattle.std.specs.Prelude.{ℕ, ◌≡◌, ◌<◌, ◌≤◌, List, map}
use Rattle.plan_model.specs.declared.steps.GroundAction.{GroundAction}
use Rattle.plan_model.specs.declared.values.Compiled.{Compiled}
use Rattle.plan_model.specs.task_networks.Tree.{Tree, Address}
use Rattle.plan_model.specs.task_networks.Front.{IsFinished}
use Rattle.plan_model.specs.task_networks.Pending.{IsWidth}
use Rattle.plan_model.specs.task_networks.Spelling.{Act}
use Rattle.plan_model.specs.plan_meaning.Network.{network}
use Rattle.plan_model.specs.plan_meaning.Solution.{top_work}
use Rattle.plan_model.specs.plan_meaning.SpelledPlan.{step_of}
use Rattle.schedules.specs.ruled.FirstFreeLaws.{SpellsLowest}
use Rattle.tree_core.specs.declared.growth.Scheduled.{Scheduled}
use Rattle.tree_core.specs.Runs.{StandsFor}
use Rattle.slot_speller.specs.declared.spell_error.SpellError.{SpellError}
use Rattle.slot_speller.specs.declared.spell_error.SpellError.TheVariants.{NeedsBound, Memory}
use Rattle.slot_speller.specs.declared.spelling.Spelling.{Spelling}
use Rattle.slot_speller.specs.Steps.{step_at}

-- the width of a spelled run is the greatest of its slots
abbrev pub width_of : Spelling → ℕ
width_of s = s.slots.free.greatest

-- its steps are those of its nodes, in their order
abbrev pub steps_of : Compiled → Scheduled → Spelling → List GroundAction
steps_of c run s = map (step_at c run.tree s.slots.by_node.items) run.order

module _ (c : Compiled) where
  -- the run stands for this finished tree and this order of its nodes
  pub record IsFinishedRun (run : Scheduled) (tree : Tree (network c)) (order : List Address) : Type 0 where
    pub stands : StandsFor c run tree order
    pub finished : IsFinished (network c) (top_work c) tree order

  -- the steps spell the tree in this order with the lowest of so many slots, and the width is within them
  pub record IsSpelledBy (slots width : ℕ) (steps : List GroundAction) (tree : Tree (network c)) (order : List Address) : Type 0 where
    pub width_is : IsWidth (network c) width tree order
    pub within : width ≤ slots
    pub acts : List (Act (network c))
    pub slot : Address → ℕ
    pub lowest : SpellsLowest (network c) slots (top_work c) acts tree order slot
    pub steps_are : steps ≡ map (step_of c) acts

  module _ (run : Scheduled) where
    -- the width of each finished tree that the run stands for
    abbrev pub IsWidthOf : ℕ → Type 0
    IsWidthOf w = (tree : Tree (network c)) (order : List Address) → IsFinishedRun run tree order → IsWidth (network c) w tree order

    -- the steps spell each of them, and this is its width
    abbrev pub IsSpelled : (slots width : ℕ) → List GroundAction → Type 0
    IsSpelled slots width steps = (tree : Tree (network c)) (order : List Address) → IsFinishedRun run tree order
        → IsSpelledBy slots width steps tree order

    -- the width is greater than the number of slots; or there was no memory
    abbrev pub IsRefused : ℕ → SpellError → Type 0
    IsRefused slots (NeedsBound needed) = IsWidthOf needed × (slots < needed)
    IsRefused slots Memory = Unit {0}
