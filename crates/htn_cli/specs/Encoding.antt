-- An encoding, from the texts of a domain, of a problem and of a hierarchical plan: when it is refused, and what it gives.
-- Source: this project's, after the translation of Alford et al., "Bound to Plan", ICAPS 2016.
use Rattle.std.specs.Prelude.{ℕ, ◌≡◌, ◌+◌, ◌<◌, ◌≤◌, ◌⊎◌, List, Option, Some, None, length, option_map}
use Rattle.htn_base.specs.Limits.{most_lines, most_slots, longest_output}
use Rattle.text_forms.specs.sheets.Sheets.{capped}
use Rattle.plan_model.specs.declared.values.Compiled.{Compiled}
use Rattle.hplan_text.specs.declared.values.HPlan.{HPlan}
use Rattle.hplan_text.specs.Reading.{IsHPlanRead}
use Rattle.placements.specs.Matching.{IsUnmatched}
use Rattle.placements.specs.Placement.{IsNotExecutable, MissesGoal, HasNoPlace}
use Rattle.step_texts.specs.StepTexts.{HasWidth}
use Rattle.command_words.specs.declared.form.PrintedForm.TheVariants.{Stack}
use Rattle.command_words.specs.Words.{EncodeRequest, number_of}
use Rattle.htn_cli.specs.Answer.{Output, told_alone}
use Rattle.htn_cli.specs.PrintedForms.{IsOrderedFor, NamesUnordered}
use Rattle.htn_cli.specs.Problem.{SpellProblem}
use Rattle.htn_cli.specs.SpelledForms.{IsTextAs}
use Rattle.htn_cli.specs.declared.refusal.Finding.{Finding}
use Rattle.htn_cli.specs.declared.refusal.Finding.TheVariants as finding
use Rattle.htn_cli.specs.declared.refusal.Limit.TheVariants as limit
use Rattle.htn_cli.specs.declared.refusal.Refusal.{Refusal}
use Rattle.htn_cli.specs.declared.refusal.Refusal.TheVariants as refused

-- the lines of a plan that have an id
abbrev pub count_of : HPlan → ℕ
count_of plan = length plan.primitives + length plan.nodes

-- The sentence of a finding, for a plan of a problem, with the number of slots that is given, if one is.
module _ (compiled : Compiled) (plan : HPlan) (given : Option ℕ) where
  abbrev pub IsFound : Finding → Type 0
  IsFound (finding.NoMatch id) = IsUnmatched compiled plan id
  IsFound (finding.NotExecutable id) = IsNotExecutable compiled plan id
  IsFound finding.GoalFalse = MissesGoal compiled plan
  IsFound finding.NoPlacement = HasNoPlace compiled plan
  IsFound (finding.NeedsBound width) = HasWidth compiled plan width × ((n : ℕ) × (given ≡ Some n) × (n < width))
  IsFound _ = ⊥

-- the number of slots that is given, if one is
abbrev pub slots_of : EncodeRequest → Option ℕ
slots_of request = option_map number_of request.numeral

module _ (request : EncodeRequest) (domain problem hplan : List ℕ) where
  -- the texts have no fault, and spell a problem and a hierarchical plan
  pub record SpellHPlan (compiled : Compiled) (plan : HPlan) : Type 0 where
    pub problem_is : SpellProblem domain problem request.checks compiled
    pub read : IsHPlanRead hplan plan

  -- whose lines are not too many
  pub record SpellFewLines (compiled : Compiled) (plan : HPlan) : Type 0 where
    pub spelled : SpellHPlan compiled plan
    pub few : count_of plan ≤ most_lines

  -- of a problem that is printed in the form of the request
  pub record SpellFormLines (compiled : Compiled) (plan : HPlan) : Type 0 where
    pub spelled : SpellFewLines compiled plan
    pub ordered : IsOrderedFor request.form compiled

  -- a problem that is not: the first method that is not totally ordered
  abbrev pub FindsUnordered : Finding → Type 0
  FindsUnordered (finding.NotTotallyOrdered word) = (request.form ≡ Stack)
      × ((compiled : Compiled) × (plan : HPlan) × SpellFewLines compiled plan × NamesUnordered compiled word)
  FindsUnordered _ = ⊥

  -- the refusals of texts without a fault
  abbrev pub RefusesEncode : Refusal → Type 0
  RefusesEncode (refused.Limit (limit.Lines n)) =
      (compiled : Compiled) × (plan : HPlan) × SpellHPlan compiled plan × (n ≡ count_of plan) × (most_lines < n)
  RefusesEncode (refused.Finding f) = FindsUnordered f
      ⊎ ((compiled : Compiled) × (plan : HPlan) × SpellFormLines compiled plan × IsFound compiled plan (slots_of request) f)
  RefusesEncode (refused.Limit (limit.Slots n)) = (request.numeral ≡ None)
      × ((compiled : Compiled) × (plan : HPlan) × SpellFormLines compiled plan × HasWidth compiled plan n × (most_slots < n))
  RefusesEncode (refused.Limit (limit.Output n)) =
      (compiled : Compiled) × (plan : HPlan) × (text : List ℕ) × SpellFormLines compiled plan
      × IsTextAs request.form compiled plan (slots_of request) text × (n ≡ capped (length text)) × (longest_output < n)
  RefusesEncode _ = ⊥

  -- and what is given: the text of the steps that spell the latest schedule of the plan
  abbrev pub GivesSteps : Output → Type 0
  GivesSteps output =
      (compiled : Compiled) × (plan : HPlan) × (text : List ℕ) × SpellFormLines compiled plan
      × IsTextAs request.form compiled plan (slots_of request) text × (output ≡ told_alone text)
