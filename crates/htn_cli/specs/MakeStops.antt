-- How a request that makes a problem is refused, and what it gives.
-- Source: this project's.
use Rattle.std.specs.Prelude.{ℕ, ◌≡◌, ◌<◌, ◌⊎◌, List, [], None, length}
use Rattle.htn_base.specs.Limits.{most_slots}
use Rattle.plan_model.specs.declared.options.Style.{Style}
use Rattle.plan_model.specs.declared.values.Compiled.{Compiled}
use Rattle.hplan_text.specs.declared.values.HPlan.{HPlan}
use Rattle.slot_encoding.specs.EncodedValue.{encoded_actions}
use Rattle.step_texts.specs.StepTexts.{HasWidth}
use Rattle.command_words.specs.Words.{MakeRequest, Request}
use Rattle.htn_cli.specs.Answer.{refuses}
use Rattle.htn_cli.specs.Answers.{IsAnswerFor}
use Rattle.htn_cli.specs.Encoding.{IsFound}
use Rattle.htn_cli.specs.Lines.{summary}
use Rattle.htn_cli.specs.Made.{AreMadeWith, manner_of}
use Rattle.htn_cli.specs.Making.{IsCounted, packages, translation_for}
use Rattle.htn_cli.specs.Requests.{IsWithin}
use Rattle.htn_cli.specs.Stops.{IsComputed, StopsComputed, StopsPrinted}
use Rattle.htn_cli.specs.declared.output.Counts.{Counts}
use Rattle.htn_cli.specs.declared.output.Output.{Output as Made}
use Rattle.htn_cli.specs.declared.refusal.Failure.TheVariants as failure
use Rattle.htn_cli.specs.declared.refusal.Limit.TheVariants as limit
use Rattle.htn_cli.specs.declared.refusal.Refusal.{Refusal}
use Rattle.htn_cli.specs.declared.refusal.Refusal.TheVariants as refused
use Rattle.command_words.specs.declared.level.Level.TheVariants.{Lifted}

-- a request without inputs that gives no output
abbrev pub StopsAlone : Request → Refusal → Type 0
StopsAlone request (refused.Failure failure.Memory) = IsWithin request
StopsAlone request (refused.Failure _) = ⊥
StopsAlone request refusal = IsAnswerFor request [] (refuses refusal)

-- so many actions are printed of a compiled problem, with any number of slots and in any style
abbrev pub HasActions : Compiled → ℕ → Type 0
HasActions compiled n = (names : List (List ℕ)) (slots : ℕ) (style : Style) → n ≡ length (encoded_actions compiled names slots style)

-- what is told of counts
abbrev pub summary_of : Counts → List ℕ
summary_of n = summary n.packages n.actions n.bound n.width n.steps

module _ (request : MakeRequest) (compiled : Compiled) (plan : HPlan) where
  -- a plan whose steps are not counted; or memory ran out
  abbrev pub StopsCounting : Refusal → Type 0
  StopsCounting (refused.Finding f) = IsFound compiled plan None f
  StopsCounting (refused.Limit (limit.Slots n)) = HasWidth compiled plan n × (most_slots < n)
  StopsCounting (refused.Failure failure.Memory) = Unit {0}
  StopsCounting _ = ⊥

  -- with so many slots
  module _ (bound : ℕ) where
    abbrev pub IsSummedUp : Made → Type 0
    IsSummedUp made =
        (actions : ℕ) × (width : ℕ) × (steps : ℕ) × HasActions compiled actions × IsCounted compiled plan width steps
        × AreMadeWith (translation_for request) compiled bound made.written
        × (made.told ≡ summary (packages request) actions bound width steps)

    abbrev pub StopsSummingUp : Refusal → Type 0
    StopsSummingUp refusal =
        StopsCounting refusal
        ⊎ ((width : ℕ) × (steps : ℕ) × IsCounted compiled plan width steps
        × StopsPrinted compiled (manner_of (translation_for request) bound) refusal)

  -- and with as many as the bound
  abbrev pub IsMadeAtBound : Made → Type 0
  IsMadeAtBound made = (bound : ℕ) × IsComputed most_slots Lifted compiled bound × IsSummedUp bound made

  abbrev pub StopsAtBound : Refusal → Type 0
  StopsAtBound refusal = StopsComputed most_slots Lifted compiled refusal ⊎ ((bound : ℕ) × IsComputed most_slots Lifted compiled bound × StopsSummingUp bound refusal)
