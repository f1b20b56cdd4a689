-- What a hierarchical plan comes to, as a text.
-- Source: this project's, after the translation of Alford et al., "Bound to Plan", ICAPS 2016.
use Rattle.std.specs.Prelude.{ℕ, ◌≡◌, ◌≤◌, ◌<◌, List, ◌++◌, codes, decimal, map, length, Option, Some, None}
use Rattle.std.specs.Option.{unwrap_or}
use Rattle.htn_base.specs.Limits.{most_slots}
use Rattle.text_forms.specs.sheets.Sheets.{capped}
use Rattle.plan_model.specs.declared.steps.GroundAction.{GroundAction}
use Rattle.plan_model.specs.declared.values.Compiled.{Compiled}
use Rattle.plan_model.specs.task_networks.Tree.{Tree, Address}
use Rattle.plan_model.specs.task_networks.Pending.{IsWidth}
use Rattle.plan_model.specs.task_networks.Spelling.{Act}
use Rattle.plan_model.specs.plan_meaning.Network.{network}
use Rattle.plan_model.specs.plan_meaning.Solution.{top_work}
use Rattle.plan_model.specs.plan_meaning.SpelledPlan.{step_of}
use Rattle.plan_texts.specs.PlanText.{plan_text}
use Rattle.hplan_text.specs.declared.values.HPlan.{HPlan}
use Rattle.schedules.specs.ruled.FirstFreeLaws.{SpellsLowest}
use Rattle.tree_core.specs.declared.growth.Scheduled.{Scheduled}
use Rattle.slot_speller.specs.Spelled as spelled
use Rattle.placements.specs.Matching.{IsUnmatched}
use Rattle.placements.specs.Placement.{IsPlaced, IsNotExecutable, MissesGoal, HasNoPlace}
use Rattle.step_texts.specs.declared.count.StepCount.{StepCount}
use Rattle.step_texts.specs.declared.count.StepCount.TheVariants as count
use Rattle.step_texts.specs.declared.text.StepText.{StepText}
use Rattle.step_texts.specs.declared.text.StepText.TheVariants.{Whole, TooLong, NoMatch, NotExecutable, GoalFalse, NoPlacement}
use Rattle.step_texts.specs.declared.text.StepText.TheVariants.{NeedsBound, TooWide}

-- the width in a comment, and then the steps
abbrev pub width_line : ℕ → List ℕ
width_line width = codes "; slots " ++ decimal width ++ codes "\n"

abbrev pub steps_text : ℕ → List GroundAction → List ℕ
steps_text width steps = width_line width ++ plan_text steps

-- the given number of slots, or else the width
abbrev pub slots_for : Option ℕ → ℕ → ℕ
slots_for (Some n) width = n
slots_for None width = width

module _ (c : Compiled) (plan : HPlan) where
  -- the width of the plan's latest schedule
  pub record HasWidth (width : ℕ) : Type 0 where
    pub tree : Tree (network c)
    pub order : List Address
    pub placed : IsPlaced c plan tree order
    pub width_is : IsWidth (network c) width tree order

  -- the steps spell the latest schedule with the lowest of so many slots, and this is its width
  pub record IsSpelled (slots width : ℕ) (steps : List GroundAction) : Type 0 where
    pub tree : Tree (network c)
    pub order : List Address
    pub placed : IsPlaced c plan tree order
    pub width_is : IsWidth (network c) width tree order
    pub within : width ≤ slots
    pub few : slots ≤ most_slots
    pub acts : List (Act (network c))
    pub slot : Address → ℕ
    pub lowest : SpellsLowest (network c) slots (top_work c) acts tree order slot
    pub steps_are : steps ≡ map (step_of c) acts

  module _ (given : Option ℕ) where
    -- the text of the spelled steps
    abbrev pub IsTextOf : List ℕ → Type 0
    IsTextOf text = (width : ℕ) × (steps : List GroundAction) × IsSpelled (slots_for given width) width steps × (text ≡ steps_text width steps)

    -- it, if it is at most so long; its length; or the first sentence that says why there is none
    abbrev pub IsStepText : ℕ → StepText → Type 0
    IsStepText most (Whole text) = IsTextOf text × (length text ≤ most)
    IsStepText most (TooLong n) = (text : List ℕ) × IsTextOf text × (n ≡ capped (length text)) × (most < n)
    IsStepText most (NoMatch id) = IsUnmatched c plan id
    IsStepText most (NotExecutable id) = IsNotExecutable c plan id
    IsStepText most GoalFalse = MissesGoal c plan
    IsStepText most NoPlacement = HasNoPlace c plan
    IsStepText most (NeedsBound width) = HasWidth width × ((n : ℕ) × (given ≡ Some n) × (n < width))
    IsStepText most (TooWide width) = HasWidth width × (given ≡ None) × (most_slots < width)

  -- the width of the latest schedule and how many steps spell it with as many slots; or the first sentence that says why none do
  abbrev pub IsStepCount : StepCount → Type 0
  IsStepCount (count.Counted width steps) = (list : List GroundAction) × IsSpelled width width list × (steps ≡ length list)
  IsStepCount (count.NoMatch id) = IsUnmatched c plan id
  IsStepCount (count.NotExecutable id) = IsNotExecutable c plan id
  IsStepCount count.GoalFalse = MissesGoal c plan
  IsStepCount count.NoPlacement = HasNoPlace c plan
  IsStepCount (count.TooWide width) = HasWidth width × (most_slots < width)

-- the text of spelled steps, if it is at most so long, or its length
abbrev pub IsTextOfSteps : ℕ → List GroundAction → ℕ → StepText → Type 0
IsTextOfSteps width steps most (Whole text) = (text ≡ steps_text width steps) × (length text ≤ most)
IsTextOfSteps width steps most (TooLong n) = (n ≡ capped (length (steps_text width steps))) × (most < n)
IsTextOfSteps width steps most _ = ⊥

-- the given number of slots, or else the most that are printed
abbrev pub slots_tried : Option ℕ → ℕ
slots_tried given = unwrap_or given most_slots

-- of each finished tree and order for which the run stands
module _ (c : Compiled) (run : Scheduled) where
  module _ (given : Option ℕ) where
    abbrev pub IsSpelledText : ℕ → StepText → Type 0
    IsSpelledText most text = (width : ℕ) × (steps : List GroundAction) × spelled.IsSpelled c run (slots_tried given) width steps
        × IsTextOfSteps width steps most text

    abbrev pub IsRunText : ℕ → StepText → Type 0
    IsRunText most (Whole text) = IsSpelledText most (Whole text)
    IsRunText most (TooLong n) = IsSpelledText most (TooLong n)
    IsRunText most (NeedsBound width) = spelled.IsWidthOf c run width × ((n : ℕ) × (given ≡ Some n) × (n < width))
    IsRunText most (TooWide width) = spelled.IsWidthOf c run width × (given ≡ None) × (most_slots < width)
    IsRunText most _ = ⊥

  abbrev pub IsRunCount : StepCount → Type 0
  IsRunCount (count.Counted width steps) = (list : List GroundAction) × spelled.IsSpelled c run most_slots width list
      × (steps ≡ length list)
  IsRunCount (count.TooWide width) = spelled.IsWidthOf c run width × (most_slots < width)
  IsRunCount _ = ⊥
