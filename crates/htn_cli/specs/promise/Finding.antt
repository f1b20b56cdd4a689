-- What is promised of a finding that was told, for all that the files tell of the inputs.
-- Source: this project's.
use Rattle.std.specs.Prelude.{ℕ, ◌≡◌, ◌⊎◌, List, [], ◌∷◌, None}
use Rattle.outside_io.specs.Files.{FilesState}
use Rattle.outside_io.specs.Sink.{SinkState}
use Rattle.plan_model.specs.declared.values.Pddl.{Pddl}
use Rattle.plan_model.specs.declared.steps.GroundAction.{GroundAction}
use Rattle.plan_model.specs.plan_meaning.FailingStep.{Fails}
use Rattle.plan_texts.specs.PlanText.{SpellsPlan}
use Rattle.plan_texts.specs.SpellsPddl.{SpellsPddl}
use Rattle.plan_model.specs.declared.causes.FailWhy.{FailWhy}
use Rattle.plan_proof.specs.TextPlans.{IsPlanOf}
use Rattle.command_words.specs.declared.form.PrintedForm.TheVariants.{Stack}
use Rattle.command_words.specs.Names.{Word}
use Rattle.command_words.specs.Words.{Request, to_translate, to_bound, to_decode, to_encode, to_validate, to_make, to_prune, Asks}
use Rattle.htn_cli.specs.Told.{AreToldToRead}
use Rattle.htn_cli.specs.Requests.{inputs_of}
use Rattle.htn_cli.specs.Refusal.{line_of}
use Rattle.htn_cli.specs.Sent.{Told}
use Rattle.htn_cli.specs.declared.refusal.Finding.TheVariants as finding
use Rattle.htn_cli.specs.declared.refusal.Refusal.TheVariants as refused
use Rattle.htn_cli.specs.promise.Cycle.{TellsCycle, TellsUnordered}
use Rattle.htn_cli.specs.promise.Tree.{TellsNoSolution}
use Rattle.htn_cli.specs.promise.Steps.{TellsNoSteps}
use Rattle.htn_cli.specs.promise.Making.{TellsNothingMade}
use Rattle.htn_cli.specs.promise.Pruning.{TellsUnsolved}

-- a list that was called none: it is the list that the third text spells, and no plan of the two others; the line tells the first step that
-- fails in a value that these spell, and its first cause
pub record TellsFailure (pd pp plan : List ℕ) (err err' : SinkState) : Type 0 where
  pub steps : List GroundAction
  pub step : ℕ
  pub why : FailWhy
  pub value : Pddl
  pub told : Told (line_of (refused.Finding (finding.NotAPlan step why))) err err'
  pub spelled : SpellsPlan plan steps
  pub value_is : SpellsPddl pd pp value
  pub fails : Fails value steps step why
  pub no_plan : IsPlanOf pd pp steps → ⊥

-- what was found, and told, of a request whose inputs have these texts
abbrev pub TellsFinding : Request → List (List ℕ) → SinkState → SinkState → Type 0
TellsFinding (to_translate request) (d ∷ p ∷ []) err err' =
    ((request.form ≡ Stack) × TellsUnordered request.checks d p err err') ⊎ TellsCycle request.level request.checks d p err err'
TellsFinding (to_bound request) (d ∷ p ∷ []) err err' = TellsCycle request.level request.checks d p err err'
TellsFinding (to_decode request) (d ∷ p ∷ plan ∷ []) err err' =
    ((request.form ≡ Stack) × TellsUnordered request.checks d p err err')
    ⊎ (((request.numeral ≡ None) × TellsCycle request.level request.checks d p err err') ⊎ TellsNoSolution request d p plan err err')
TellsFinding (to_encode request) (d ∷ p ∷ hplan ∷ []) err err' =
    ((request.form ≡ Stack) × TellsUnordered request.checks d p err err') ⊎ TellsNoSteps request d p hplan err err'
TellsFinding (to_validate request) (pd ∷ pp ∷ plan ∷ []) err err' = TellsFailure pd pp plan err err'
TellsFinding (to_make request) [] err err' = TellsNothingMade request err err'
TellsFinding (to_prune request) (d ∷ p ∷ []) err err' = TellsUnsolved d p err err'
TellsFinding _ _ err err' = ⊥

module _ (words : List Word) (files : FilesState) (err err' : SinkState) where
  abbrev pub HasFinding : Type 0
  HasFinding = (request : Request) (texts : List (List ℕ)) → Asks words request → AreToldToRead files (inputs_of request) texts
      → TellsFinding request texts err err'
