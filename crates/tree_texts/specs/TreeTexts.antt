-- What the steps of a plan come to, as a text.
-- Source: this project's; the text in the format of plans of the hierarchical track of the International Planning Competition 2020 (Behnke,
-- Höller and Bercher).
use Rattle.std.specs.Prelude.{ℕ, ◌≡◌, ◌≤◌, ◌<◌, List, length}
use Rattle.text_forms.specs.sheets.Sheets.{capped}
use Rattle.plan_model.specs.declared.steps.GroundAction.{GroundAction}
use Rattle.plan_model.specs.declared.values.Compiled.{Compiled}
use Rattle.decoding.specs.PrintedSteps.{FailsAt}
use Rattle.stack_decoding.specs.StackSteps as stacks
use Rattle.stack_decoding.specs.StackShown.{HaveStackText}
use Rattle.tree_core.specs.declared.growth.Scheduled.{Scheduled}
use Rattle.text_forms.specs.declared.sheets.sheet.Ended.{Ended}
use Rattle.plan_text.specs.Printing.{IsPutWithin}
use Rattle.hplan_text.specs.ShownLaws.{IsShown}
use Rattle.hplan_text.specs.declared.values.HPlan.{HPlan}
use Rattle.hplan_text.specs.HPlanText.{hplan_text}
use Rattle.hplan_text.specs.ShownSolutions.{HaveText}
use Rattle.tree_texts.specs.declared.text.TreeText.{TreeText}
use Rattle.tree_texts.specs.declared.text.TreeText.TheVariants.{Whole, TooLong, Fails}

module _ (c : Compiled) (b : ℕ) (steps : List GroundAction) where
  -- the text, if it is at most so long; its length; or the step at which the steps fail, and its first cause
  abbrev pub IsTreeText : ℕ → TreeText → Type 0
  IsTreeText most (Whole text) = HaveText c b steps text × (length text ≤ most)
  IsTreeText most (TooLong n) = (text : List ℕ) × HaveText c b steps text × (n ≡ capped (length text)) × (most < n)
  IsTreeText most (Fails step why) = FailsAt c b steps step why

  -- the same of the steps of a stack with so many cells
  abbrev pub IsStackText : ℕ → TreeText → Type 0
  IsStackText most (Whole text) = HaveStackText c b steps text × (length text ≤ most)
  IsStackText most (TooLong n) = (text : List ℕ) × HaveStackText c b steps text × (n ≡ capped (length text)) × (most < n)
  IsStackText most (Fails step why) = stacks.FailsAt c b steps step why

-- of the plan that a run shows
abbrev pub IsTextOf : Compiled → Scheduled → ℕ → TreeText → Type 0
IsTextOf c run most (Whole text) = (shown : HPlan) × IsShown c run shown × (text ≡ hplan_text shown) × (length text ≤ most)
IsTextOf c run most (TooLong n) = (shown : HPlan) × IsShown c run shown × (n ≡ capped (length (hplan_text shown))) × (most < n)
IsTextOf c run most (Fails step why) = ⊥

-- the whole text of a plan, or its length, which is more than the limit
abbrev pub IsPrinted : HPlan → ℕ → List ℕ → Ended → Type 0
IsPrinted shown = IsPutWithin (hplan_text shown)
