-- What a hierarchical plan comes to, by the form of the problem that is printed: with slots, or as a stack.
-- Source: this project's.
use Rattle.std.specs.Prelude.{ℕ, ◌≡◌, ◌≤◌, ◌<◌, List, Option, Some, None, length}
use Rattle.htn_base.specs.Limits.{most_slots}
use Rattle.text_forms.specs.sheets.Sheets.{capped}
use Rattle.plan_model.specs.declared.steps.GroundAction.{GroundAction}
use Rattle.plan_model.specs.declared.values.Compiled.{Compiled}
use Rattle.hplan_text.specs.declared.values.HPlan.{HPlan}
use Rattle.placements.specs.Matching.{IsUnmatched}
use Rattle.placements.specs.Placement.{IsNotExecutable, MissesGoal, HasNoPlace}
use Rattle.step_texts.specs.declared.text.StepText.{StepText}
use Rattle.step_texts.specs.declared.text.StepText.TheVariants.{Whole, TooLong, NoMatch, NotExecutable, GoalFalse, NoPlacement}
use Rattle.step_texts.specs.declared.text.StepText.TheVariants.{NeedsBound, TooWide}
use Rattle.step_texts.specs.StepTexts.{HasWidth, IsSpelled, slots_for, steps_text}
use Rattle.step_texts.specs.StackTexts.{IsStackSpelled}
use Rattle.command_words.specs.declared.form.PrintedForm.{PrintedForm}
use Rattle.command_words.specs.declared.form.PrintedForm.TheVariants.{Slots, Stack}

-- the steps spell the latest schedule of the plan, with the lowest of so many slots or as a stack of so many cells, and this is its width
abbrev pub IsSpelledAs : PrintedForm → Compiled → HPlan → (slots width : ℕ) → List GroundAction → Type 0
IsSpelledAs Slots c plan slots width steps = IsSpelled c plan slots width steps
IsSpelledAs Stack c plan slots width steps = IsStackSpelled c plan slots width steps

module _ (form : PrintedForm) (c : Compiled) (plan : HPlan) (given : Option ℕ) where
  -- the text of the spelled steps, with the given number of slots or cells, or else as many as the width
  abbrev pub IsTextAs : List ℕ → Type 0
  IsTextAs text = (width : ℕ) × (steps : List GroundAction) × IsSpelledAs form c plan (slots_for given width) width steps × (text ≡ steps_text width steps)

  -- it, if it is at most so long; its length; or the first sentence that says why there is none, which is the same in each form
  abbrev pub IsStepTextAs : ℕ → StepText → Type 0
  IsStepTextAs most (Whole text) = IsTextAs text × (length text ≤ most)
  IsStepTextAs most (TooLong n) = (text : List ℕ) × IsTextAs text × (n ≡ capped (length text)) × (most < n)
  IsStepTextAs most (NoMatch id) = IsUnmatched c plan id
  IsStepTextAs most (NotExecutable id) = IsNotExecutable c plan id
  IsStepTextAs most GoalFalse = MissesGoal c plan
  IsStepTextAs most NoPlacement = HasNoPlace c plan
  IsStepTextAs most (NeedsBound width) = HasWidth c plan width × ((n : ℕ) × (given ≡ Some n) × (n < width))
  IsStepTextAs most (TooWide width) = HasWidth c plan width × (given ≡ None) × (most_slots < width)
