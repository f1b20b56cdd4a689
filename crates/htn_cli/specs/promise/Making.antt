-- What a made problem promises: of each problem that the made texts spell, for all that the files tell of the outputs.
-- Source: this project's, after the translation of Alford et al., "Bound to Plan", ICAPS 2016.
use Rattle.std.specs.Prelude.{ℕ, ◌≡◌, ◌≤◌, ◌⊎◌, List, None, length}
use Rattle.outside_io.specs.Files.{FilesState}
use Rattle.outside_io.specs.Sink.{SinkState}
use Rattle.plan_model.specs.declared.options.Checks.TheVariants.{Leaf}
use Rattle.plan_model.specs.declared.steps.GroundAction.{GroundAction}
use Rattle.plan_model.specs.declared.values.Compiled.{Compiled}
use Rattle.plan_model.specs.declared.values.Hddl.{Hddl}
use Rattle.plan_model.specs.declared.values.Pddl.{Pddl}
use Rattle.plan_model.specs.plan_meaning.Bound.{IsBound}
use Rattle.plan_texts.specs.SpellsPddl.{SpellsPddl}
use Rattle.plan_proof.specs.TextPlans.{IsPlanOf}
use Rattle.made_transport.specs.Made.{made_domain}
use Rattle.step_texts.specs.StepTexts.{IsSpelled}
use Rattle.command_words.specs.Names.{Word}
use Rattle.command_words.specs.Words.{MakeRequest, AsksMake}
use Rattle.htn_cli.specs.Told.{IsToldToHold}
use Rattle.htn_cli.specs.Lines.{summary}
use Rattle.htn_cli.specs.Making.{packages, problem_of, plan_of, translation_for}
use Rattle.htn_cli.specs.Refusal.{line_of}
use Rattle.htn_cli.specs.Sent.{TakesWhole, Told}
use Rattle.htn_cli.specs.promise.Cycle.{TellsCycle}
use Rattle.htn_cli.specs.promise.Headline.{KeepPlans}
use Rattle.htn_cli.specs.promise.Problems.{ForEach}
use Rattle.htn_cli.specs.promise.Steps.{SaysWhy}
use Rattle.htn_cli.specs.declared.refusal.Finding.{Finding}
use Rattle.htn_cli.specs.declared.refusal.Refusal.TheVariants as refused
use Rattle.command_words.specs.declared.level.Level.TheVariants.{Lifted}

module _ (request : MakeRequest) where
  -- of each problem that the made texts spell
  abbrev pub ForEachMade : (Hddl → Compiled → Type 0) → Type 0
  ForEachMade = ForEach made_domain (problem_of request) Leaf

  -- the numbers that were told, and what the two written texts are
  pub record KeepsMade (od op : List ℕ) (out out' : SinkState) : Type 0 where
    pub actions : ℕ
    pub bound : ℕ
    pub width : ℕ
    pub steps : ℕ
    pub told : TakesWhole (summary (packages request) actions bound width steps) out out'
    -- the texts are printed of the made ones, with as many slots as the bound, and have so many actions
    pub bound_is : ForEachMade (λ h c. IsBound c bound)
    pub keep : KeepPlans (translation_for request) made_domain (problem_of request) od op bound
    pub actions_are : (value : Pddl) → SpellsPddl od op value → actions ≡ length value.actions
    -- so many steps spell the latest schedule of the made plan, whose width is this; and they are a plan of both texts
    pub list : List GroundAction
    pub latest : ForEachMade (λ h c. IsSpelled c (plan_of request) width width list)
    pub steps_are : steps ≡ length list
    pub within : width ≤ bound
    pub is_plan : IsPlanOf od op list

  -- nothing was made: the made texts spell no tail-recursive problem, or the made plan has no steps, and the line tells why
  abbrev pub TellsNothingMade : (err err' : SinkState) → Type 0
  TellsNothingMade err err' =
      TellsCycle Lifted Leaf made_domain (problem_of request) err err'
      ⊎ ((found : Finding) × Told (line_of (refused.Finding found)) err err' × ForEachMade (λ h c. SaysWhy None (plan_of request) found c))

module _ (words : List Word) (files' : FilesState) (out out' : SinkState) where
  abbrev pub HasMade : Type 0
  HasMade = (request : MakeRequest) (od op : List ℕ) → AsksMake words request → IsToldToHold files' request.printed_domain od
      → IsToldToHold files' request.printed_problem op → KeepsMade request od op out out'
