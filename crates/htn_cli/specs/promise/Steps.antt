-- What is promised of steps that were told for a hierarchical plan, or of a plan that was said to have none, for all that the files tell of
-- the inputs.
-- Source: this project's, after the translation of Alford et al., "Bound to Plan", ICAPS 2016.
use Rattle.std.specs.Prelude.{ℕ, ◌≡◌, ◌≤◌, List, [], ◌∷◌, Option, Some}
use Rattle.outside_io.specs.Files.{FilesState}
use Rattle.outside_io.specs.Sink.{SinkState}
use Rattle.plan_model.specs.declared.options.Slots.{Slots}
use Rattle.plan_model.specs.declared.options.Style.{Style}
use Rattle.plan_model.specs.declared.steps.GroundAction.{GroundAction}
use Rattle.plan_model.specs.declared.values.Compiled.{Compiled}
use Rattle.plan_model.specs.declared.values.Pddl.{Pddl}
use Rattle.plan_model.specs.plan_meaning.Bound.{IsBound}
use Rattle.plan_texts.specs.PrintedTexts.{domain_text, problem_text}
use Rattle.plan_proof.specs.TextPlans.{IsPlanOf}
use Rattle.schedules.specs.latest.PlanLines.{IsRenumbering}
use Rattle.hplan_text.specs.declared.values.HPlan.{HPlan}
use Rattle.hplan_text.specs.Reading.{IsHPlanRead}
use Rattle.plan_encoder.specs.Calls.{lines_of}
use Rattle.plan_encoder.specs.Laws.{SomeSolutionShows}
use Rattle.step_texts.specs.StepTexts.{slots_for, steps_text}
use Rattle.command_words.specs.Names.{Word}
use Rattle.command_words.specs.Words.{EncodeRequest, AsksEncode}
use Rattle.htn_cli.specs.Encoding.{IsFound, slots_of}
use Rattle.htn_cli.specs.PrintedForms.{IsPrintedAs}
use Rattle.htn_cli.specs.ShownForms.{SpellShownAs}
use Rattle.htn_cli.specs.SpelledForms.{IsSpelledAs}
use Rattle.htn_cli.specs.Told.{AreToldToRead}
use Rattle.htn_cli.specs.Refusal.{line_of}
use Rattle.htn_cli.specs.Sent.{TakesWhole, Told}
use Rattle.htn_cli.specs.declared.refusal.Finding.{Finding}
use Rattle.htn_cli.specs.declared.refusal.Finding.TheVariants as finding
use Rattle.htn_cli.specs.declared.refusal.Refusal.TheVariants as refused
use Rattle.htn_cli.specs.promise.Problems.{ForEach}

-- why a plan has no steps: the sentence of a finding; and but for a number of slots that is too small, no solution shows the plan
pub record SaysWhy (given : Option ℕ) (plan : HPlan) (found : Finding) (c : Compiled) : Type 0 where
  pub sentence : IsFound c plan given found
  pub none : ((width : ℕ) → found ≡ finding.NeedsBound width → ⊥) → SomeSolutionShows c plan → ⊥
  -- as many slots as the bound of the problem are never too few
  pub enough : (bound slots width : ℕ) → IsBound c bound → given ≡ Some slots → bound ≤ slots → found ≡ finding.NeedsBound width → ⊥

module _ (request : EncodeRequest) (d p hplan : List ℕ) where
  -- steps that were told: they spell the latest schedule of the plan that the third text spells, with the lowest of the slots or as a stack;
  -- the number of slots or cells is the given one, or else the width that was told
  pub record TellsSteps (out out' : SinkState) : Type 0 where
    pub plan : HPlan
    pub read : IsHPlanRead hplan plan
    pub steps : List GroundAction
    pub width : ℕ
    pub slots : ℕ
    pub slots_are : slots ≡ slots_for (slots_of request) width
    pub told : TakesWhole (steps_text width steps) out out'
    pub latest : ForEach d p request.checks (λ h c. IsSpelledAs request.form c plan slots width steps)
    -- with so many slots they are decoded to this plan, which is the one of the third text under other ids
    pub shown : HPlan
    pub shows : ForEach d p request.checks (λ h c. SpellShownAs request.form c slots steps shown)
    pub new : ℕ → ℕ
    pub renumbered : IsRenumbering new (lines_of plan) (lines_of shown)
    -- and they are a plan of each two texts that are printed in this form with so many slots, whichever free ones a method takes, or with so
    -- many cells
    pub is_plan : ForEach d p request.checks (λ h c. (rule : Slots) (style : Style) (value : Pddl)
        → IsPrintedAs request.form rule h request.checks c slots style value → IsPlanOf (domain_text value) (problem_text value) steps)

  -- a plan that was said to have no steps: the line tells the first sentence that says why
  pub record TellsNoSteps (err err' : SinkState) : Type 0 where
    pub plan : HPlan
    pub read : IsHPlanRead hplan plan
    pub found : Finding
    pub told : Told (line_of (refused.Finding found)) err err'
    pub says : ForEach d p request.checks (λ h c. SaysWhy (slots_of request) plan found c)

module _ (words : List Word) (files : FilesState) (out out' : SinkState) where
  abbrev pub HasSteps : Type 0
  HasSteps = (request : EncodeRequest) (d p hplan : List ℕ) → AsksEncode words request
      → AreToldToRead files (request.domain ∷ request.problem ∷ request.hplan ∷ []) (d ∷ p ∷ hplan ∷ [])
      → TellsSteps request d p hplan out out'
