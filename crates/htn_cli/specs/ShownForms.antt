-- What a list of steps shows, or where it fails, by the form of the problem that was printed: with slots, or as a stack.
-- Source: this project's.
use Rattle.std.specs.Prelude.{ℕ, ◌≡◌, ◌≤◌, ◌<◌, List, length}
use Rattle.text_forms.specs.sheets.Sheets.{capped}
use Rattle.plan_model.specs.declared.steps.GroundAction.{GroundAction}
use Rattle.plan_model.specs.declared.values.Compiled.{Compiled}
use Rattle.decoding.specs.declared.causes.Why.{Why}
use Rattle.decoding.specs.PrintedSteps as slots
use Rattle.hplan_text.specs.declared.values.HPlan.{HPlan}
use Rattle.hplan_text.specs.HPlanText.{hplan_text}
use Rattle.hplan_text.specs.ShownSolutions.{SpellShown}
use Rattle.stack_decoding.specs.StackShown.{StackShown}
use Rattle.stack_decoding.specs.StackSteps as stacks
use Rattle.tree_texts.specs.declared.text.TreeText.{TreeText}
use Rattle.tree_texts.specs.declared.text.TreeText.TheVariants.{Whole, TooLong, Fails}
use Rattle.command_words.specs.declared.form.PrintedForm.{PrintedForm}
use Rattle.command_words.specs.declared.form.PrintedForm.TheVariants.{Slots, Stack}

-- the steps spell a solution with so many slots or cells, which shows the plan
abbrev pub SpellShownAs : PrintedForm → Compiled → ℕ → List GroundAction → HPlan → Type 0
SpellShownAs Slots c b steps shown = SpellShown c b steps shown
SpellShownAs Stack c b steps shown = StackShown c b steps shown

-- they spell none: the step that fails, and its first cause
abbrev pub FailsAs : PrintedForm → Compiled → ℕ → List GroundAction → ℕ → Why → Type 0
FailsAs Slots c b steps step why = slots.FailsAt c b steps step why
FailsAs Stack c b steps step why = stacks.FailsAt c b steps step why

module _ (form : PrintedForm) (c : Compiled) (b : ℕ) (steps : List GroundAction) where
  -- the plan that they show has this text
  abbrev pub HaveTextAs : List ℕ → Type 0
  HaveTextAs text = (shown : HPlan) × SpellShownAs form c b steps shown × (text ≡ hplan_text shown)

  -- it, if it is at most so long; its length; or the step at which they fail, and its first cause
  abbrev pub IsTreeTextAs : ℕ → TreeText → Type 0
  IsTreeTextAs most (Whole text) = HaveTextAs text × (length text ≤ most)
  IsTreeTextAs most (TooLong n) = (text : List ℕ) × HaveTextAs text × (n ≡ capped (length text)) × (most < n)
  IsTreeTextAs most (Fails step why) = FailsAs form c b steps step why
