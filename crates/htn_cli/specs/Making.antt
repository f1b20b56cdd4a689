-- A made problem, from the number of its packages: when it is refused, and what is given.
-- Source: this project's; its texts and its plan as in made_transport.
use Rattle.std.specs.Prelude.{ℕ, ◌≡◌, ◌<◌, ◌⊎◌, List, None, codes, length}
use Rattle.htn_base.specs.Limits.{most_slots, longest_output}
use Rattle.text_forms.specs.sheets.Sheets.{capped}
use Rattle.plan_model.specs.declared.options.Style.TheVariants.{Adl}
use Rattle.plan_model.specs.declared.options.Checks.TheVariants.{Leaf}
use Rattle.plan_model.specs.declared.options.Slots.TheVariants.{Any}
use Rattle.plan_model.specs.declared.values.Compiled.{Compiled}
use Rattle.hplan_text.specs.declared.values.HPlan.{HPlan}
use Rattle.step_texts.specs.declared.count.StepCount.TheVariants as count
use Rattle.step_texts.specs.StepTexts.{HasWidth, IsStepCount}
use Rattle.made_transport.specs.Made.{made_domain, made_problem, made_plan}
use Rattle.command_words.specs.Words.{TranslationRequest, MakeRequest, number_of}
use Rattle.htn_cli.specs.Answer.{Output}
use Rattle.htn_cli.specs.Encoding.{IsFound}
use Rattle.htn_cli.specs.Lines.{summary}
use Rattle.htn_cli.specs.Texts.{Texts, AreTooLong}
use Rattle.htn_cli.specs.Translation.{IsForSlots, AreWritten, RefusesTranslation, manner_with, texts_for}
use Rattle.htn_cli.specs.declared.refusal.Limit.TheVariants as limit
use Rattle.htn_cli.specs.declared.refusal.Refusal.{Refusal}
use Rattle.htn_cli.specs.declared.refusal.Refusal.TheVariants as refused
use Rattle.command_words.specs.declared.form.PrintedForm.TheVariants.{Slots}
use Rattle.command_words.specs.declared.level.Level.TheVariants.{Lifted}

-- so many steps spell the latest schedule of a plan with as many slots as it is wide
abbrev pub IsCounted : Compiled → HPlan → (width steps : ℕ) → Type 0
IsCounted compiled plan width steps = IsStepCount compiled plan (count.Counted width steps)

module _ (request : MakeRequest) where
  abbrev pub packages : ℕ
  packages = number_of request.numeral

  -- the made problem and the made plan of so many packages
  abbrev pub problem_of : List ℕ
  problem_of = made_problem packages

  abbrev pub plan_of : HPlan
  plan_of = made_plan packages

  -- the made texts are translated as those of a domain and of a problem are, with their bound
  abbrev pub translation_for : TranslationRequest
  translation_for = record {
    names =
        record {
          domain = codes "domain";
          problem = codes "problem";
          printed_domain = request.printed_domain;
          printed_problem = request.printed_problem;
        };
    numeral = None;
    level = Lifted;
    form = Slots;
    style = Adl;
    checks = Leaf;
    rule = Any;
  }

  -- the problem that they spell has this bound, which is not past a limit
  abbrev pub IsAtBound : Compiled → ℕ → Type 0
  IsAtBound = IsForSlots translation_for made_domain problem_of

  -- so many actions are printed, with as many slots as the bound; and so many steps spell the latest schedule of the made plan, whose
  -- width is this
  pub record AreMade (texts : Texts) (actions bound width steps : ℕ) : Type 0 where
    pub written : AreWritten translation_for made_domain problem_of texts bound
    pub actions_are : actions ≡ length written.translated.value.actions
    pub counted : IsCounted written.compiled plan_of width steps

  -- what is given
  abbrev pub GivesMake : Output → Type 0
  GivesMake output =
      (texts : Texts) × (actions : ℕ) × (bound : ℕ) × (width : ℕ) × (steps : ℕ) × AreMade texts actions bound width steps
      × (output ≡ record { texts = texts_for translation_for.names texts; told = summary packages actions bound width steps })

  -- the first that is too long of the texts and of what is told
  abbrev pub IsTooLong : ℕ → Type 0
  IsTooLong n =
      ((compiled : Compiled) × (bound : ℕ) × (width : ℕ) × (steps : ℕ) × IsAtBound compiled bound × IsCounted compiled plan_of width steps
      × AreTooLong compiled (manner_with translation_for made_domain problem_of bound) n)
      ⊎ ((output : Output) × GivesMake output × (n ≡ capped (length output.told)) × (longest_output < length output.told))

  -- and the refusals of texts without a fault: those of a translation, and those of the plan
  abbrev pub RefusesMake : Refusal → Type 0
  RefusesMake (refused.Finding f) =
      RefusesTranslation translation_for made_domain problem_of (refused.Finding f)
      ⊎ ((compiled : Compiled) × (bound : ℕ) × IsAtBound compiled bound × IsFound compiled plan_of None f)
  RefusesMake (refused.Limit limit.Bound) = RefusesTranslation translation_for made_domain problem_of (refused.Limit limit.Bound)
  RefusesMake (refused.Limit (limit.Slots n)) =
      RefusesTranslation translation_for made_domain problem_of (refused.Limit (limit.Slots n))
      ⊎ ((compiled : Compiled) × (bound : ℕ) × IsAtBound compiled bound × HasWidth compiled plan_of n × (most_slots < n))
  RefusesMake (refused.Limit (limit.Output n)) = IsTooLong n
  RefusesMake _ = ⊥
