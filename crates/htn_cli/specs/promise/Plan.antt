-- What is promised of a list that was called a plan, or none, for all that the files tell of the inputs.
-- Source: this project's; a plan as in Fox and Long, "PDDL2.1", JAIR 20, 2003, level 1, without times.
use Rattle.std.specs.Prelude.{ℕ, List, [], ◌∷◌}
use Rattle.outside_io.specs.Files.{FilesState}
use Rattle.outside_io.specs.Sink.{SinkState}
use Rattle.plan_model.specs.declared.steps.GroundAction.{GroundAction}
use Rattle.plan_texts.specs.PlanText.{SpellsPlan}
use Rattle.plan_proof.specs.TextPlans.{IsPlanOf}
use Rattle.command_words.specs.Names.{Word}
use Rattle.command_words.specs.Words.{ValidationRequest, AsksValidation}
use Rattle.htn_cli.specs.Told.{AreToldToRead}
use Rattle.htn_cli.specs.Lines.{valid_line}
use Rattle.htn_cli.specs.Sent.{TakesWhole}

-- a list that was called a plan: it is the list that the third text spells, and a plan of the two others
pub record TellsPlan (pd pp plan : List ℕ) (out out' : SinkState) : Type 0 where
  pub told : TakesWhole valid_line out out'
  pub steps : List GroundAction
  pub spelled : SpellsPlan plan steps
  pub is_plan : IsPlanOf pd pp steps

module _ (words : List Word) (files : FilesState) (out out' : SinkState) where
  abbrev pub HasPlan : Type 0
  HasPlan = (request : ValidationRequest) (pd pp plan : List ℕ) → AsksValidation words request
      → AreToldToRead files (request.domain ∷ request.problem ∷ request.plan ∷ []) (pd ∷ pp ∷ plan ∷ []) → TellsPlan pd pp plan out out'
