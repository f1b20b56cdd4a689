-- How one step of an encoding is refused, and what it gives.
use Rattle.std.specs.Prelude.{ℕ, ◌≡◌, ◌<◌, ◌≤◌, ◌⊎◌, List, Option, None, length}
use Rattle.htn_base.specs.Limits.{longest_output, most_lines, most_slots}
use Rattle.text_forms.specs.Faults.{fault}
use Rattle.text_forms.specs.sheets.Sheets.{capped}
use Rattle.plan_model.specs.declared.values.Compiled.{Compiled}
use Rattle.hplan_text.specs.declared.values.HPlan.{HPlan}
use Rattle.hplan_text.specs.HPlanFaults.{IsLeastFault}
use Rattle.hplan_text.specs.Reading.{IsHPlanRead}
use Rattle.step_texts.specs.StepTexts.{HasWidth}
use Rattle.command_words.specs.declared.form.PrintedForm.{PrintedForm}
use Rattle.command_words.specs.Names.{Word}
use Rattle.htn_cli.specs.Encoding.{IsFound, count_of}
use Rattle.htn_cli.specs.PrintedForms.{IsOrderedFor}
use Rattle.htn_cli.specs.SpelledForms.{IsTextAs}
use Rattle.htn_cli.specs.Stops.{StopsFault, StopsOrder}
use Rattle.htn_cli.specs.declared.refusal.Failure.TheVariants as failure
use Rattle.htn_cli.specs.declared.refusal.Limit.TheVariants as limit
use Rattle.htn_cli.specs.declared.refusal.Refusal.{Refusal}
use Rattle.htn_cli.specs.declared.refusal.Refusal.TheVariants as refused

-- the third text has this fault as a hierarchical plan
abbrev pub IsFaultOfHPlan : (hplan : List ℕ) → (file code at : ℕ) → Type 0
IsFaultOfHPlan hplan file code at = (file ≡ 2) × IsLeastFault hplan (fault code at)

-- a plan with too many lines
abbrev pub StopsLines : HPlan → Refusal → Type 0
StopsLines plan (refused.Limit (limit.Lines n)) = (n ≡ count_of plan) × (most_lines < n)
StopsLines plan _ = ⊥

-- in a form, with the number of slots that is given, if one is
module _ (form : PrintedForm) (compiled : Compiled) (given : Option ℕ) where
  -- a plan without steps, or whose text is too long; or memory ran out
  abbrev pub StopsPlacing : HPlan → Refusal → Type 0
  StopsPlacing plan (refused.Finding f) = IsFound compiled plan given f
  StopsPlacing plan (refused.Limit (limit.Slots n)) = (given ≡ None) × HasWidth compiled plan n × (most_slots < n)
  StopsPlacing plan (refused.Limit (limit.Output n)) =
      (text : List ℕ) × IsTextAs form compiled plan given text × (n ≡ capped (length text)) × (longest_output < n)
  StopsPlacing plan (refused.Failure failure.Memory) = Unit {0}
  StopsPlacing plan _ = ⊥

  -- the text of its steps
  pub record AreStepsFor (plan : HPlan) (text : List ℕ) : Type 0 where
    pub few : count_of plan ≤ most_lines
    pub ordered : IsOrderedFor form compiled
    pub text_is : IsTextAs form compiled plan given text
    pub fits : length text ≤ longest_output

  -- a plan without this text
  abbrev pub StopsSteps : HPlan → Refusal → Type 0
  StopsSteps plan refusal =
      StopsLines plan refusal
      ⊎ ((count_of plan ≤ most_lines) × (StopsOrder form compiled refusal ⊎ (IsOrderedFor form compiled × StopsPlacing plan refusal)))

  -- and that of the plan of a text
  abbrev pub AreToldFor : (hplan text : List ℕ) → Type 0
  AreToldFor hplan text = (plan : HPlan) × IsHPlanRead hplan plan × AreStepsFor plan text

  -- a text without it, where files have these names, and this is the third
  abbrev pub StopsEncoding : List Word → (hplan : List ℕ) → Refusal → Type 0
  StopsEncoding names hplan refusal =
      StopsFault names (IsFaultOfHPlan hplan) refusal ⊎ ((plan : HPlan) × IsHPlanRead hplan plan × StopsSteps plan refusal)
