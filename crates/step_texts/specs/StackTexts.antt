-- What a hierarchical plan comes to as a stack, as a text; the problem's methods are totally ordered.
-- Source: this project's.
use Rattle.std.specs.Prelude.{ℕ, ◌≡◌, ◌≤◌, ◌<◌, List, length, Option, Some, None}
use Rattle.htn_base.specs.Limits.{most_slots}
use Rattle.text_forms.specs.sheets.Sheets.{capped}
use Rattle.plan_model.specs.declared.steps.GroundAction.{GroundAction}
use Rattle.plan_model.specs.declared.values.Compiled.{Compiled}
use Rattle.plan_model.specs.task_networks.Tree.{Tree, Address}
use Rattle.plan_model.specs.task_networks.Pending.{IsWidth}
use Rattle.plan_model.specs.plan_meaning.Network.{network}
use Rattle.hplan_text.specs.declared.values.HPlan.{HPlan}
use Rattle.tree_core.specs.declared.growth.Scheduled.{Scheduled}
use Rattle.placements.specs.Matching.{IsUnmatched}
use Rattle.placements.specs.Placement.{IsPlaced, IsNotExecutable, MissesGoal, HasNoPlace}
use Rattle.slot_speller.specs.Spelled.{IsWidthOf}
use Rattle.stack_encoding.specs.StackSpelling.{IsStackSpelling}
use Rattle.stack_speller.specs.StackSpelled as spelled
use Rattle.step_texts.specs.declared.text.StepText.{StepText}
use Rattle.step_texts.specs.declared.text.StepText.TheVariants.{Whole, TooLong, NoMatch, NotExecutable, GoalFalse, NoPlacement}
use Rattle.step_texts.specs.declared.text.StepText.TheVariants.{NeedsBound, TooWide}
use Rattle.step_texts.specs.StepTexts.{steps_text, slots_for, slots_tried, HasWidth, IsTextOfSteps}

module _ (c : Compiled) (plan : HPlan) where
  -- the steps spell the latest schedule as a stack of so many cells, and this is its width
  pub record IsStackSpelled (cells width : ℕ) (steps : List GroundAction) : Type 0 where
    pub tree : Tree (network c)
    pub order : List Address
    pub placed : IsPlaced c plan tree order
    pub width_is : IsWidth (network c) width tree order
    pub within : width ≤ cells
    pub few : cells ≤ most_slots
    pub cell : Address → ℕ
    pub spelling : IsStackSpelling c cells steps tree order cell

  module _ (given : Option ℕ) where
    -- the text of the spelled steps, with the given number of cells, or else as many as the width
    abbrev pub IsStackTextOf : List ℕ → Type 0
    IsStackTextOf text = (width : ℕ) × (steps : List GroundAction) × IsStackSpelled (slots_for given width) width steps × (text ≡ steps_text width steps)

    -- it, if it is at most so long; its length; or the first sentence that says why there is none: these are the sentences of slots
    abbrev pub IsStackText : ℕ → StepText → Type 0
    IsStackText most (Whole text) = IsStackTextOf text × (length text ≤ most)
    IsStackText most (TooLong n) = (text : List ℕ) × IsStackTextOf text × (n ≡ capped (length text)) × (most < n)
    IsStackText most (NoMatch id) = IsUnmatched c plan id
    IsStackText most (NotExecutable id) = IsNotExecutable c plan id
    IsStackText most GoalFalse = MissesGoal c plan
    IsStackText most NoPlacement = HasNoPlace c plan
    IsStackText most (NeedsBound width) = HasWidth c plan width × ((n : ℕ) × (given ≡ Some n) × (n < width))
    IsStackText most (TooWide width) = HasWidth c plan width × (given ≡ None) × (most_slots < width)

-- of each finished tree and order for which the run stands
module _ (c : Compiled) (run : Scheduled) (given : Option ℕ) where
  abbrev pub IsStackSpelledText : ℕ → StepText → Type 0
  IsStackSpelledText most text = (width : ℕ) × (steps : List GroundAction) × spelled.IsSpelled c run (slots_tried given) width steps
      × IsTextOfSteps width steps most text

  abbrev pub IsStackRunText : ℕ → StepText → Type 0
  IsStackRunText most (Whole text) = IsStackSpelledText most (Whole text)
  IsStackRunText most (TooLong n) = IsStackSpelledText most (TooLong n)
  IsStackRunText most (NeedsBound width) = IsWidthOf c run width × ((n : ℕ) × (given ≡ Some n) × (n < width))
  IsStackRunText most (TooWide width) = IsWidthOf c run width × (given ≡ None) × (most_slots < width)
  IsStackRunText most _ = ⊥
