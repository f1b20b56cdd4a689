-- As a stack a hierarchical plan comes to the same over the values of two texts.
use Rattle.std.proofs.Common.{ℕ, List, Option, ◌∙◌}
use Rattle.plan_model.specs.declared.steps.GroundAction.{GroundAction}
use Rattle.plan_model.specs.declared.values.Compiled.{Compiled}
use Rattle.plan_model.specs.plan_meaning.Network.{network}
use Rattle.plan_model.specs.plan_meaning.Solution.{top_work}
use Rattle.hplan_text.specs.declared.values.HPlan.{HPlan}
use Rattle.renamed_networks.proofs.RenamedRuns.{spells_to, width_to}
use Rattle.step_texts.specs.declared.text.StepText.{StepText}
use Rattle.step_texts.specs.declared.text.StepText.TheVariants.{Whole, TooLong, NoMatch, NotExecutable, GoalFalse, NoPlacement}
use Rattle.step_texts.specs.declared.text.StepText.TheVariants.{NeedsBound, TooWide}
use Rattle.step_texts.specs.StepTexts.{slots_for}
use Rattle.step_texts.specs.StackTexts.{IsStackSpelled, IsStackTextOf, IsStackText}
use Rattle.decode_answers.proofs.Alike.{twins}
use Rattle.decode_answers.proofs.AlikeReaders.{Equal, renaming, alike_readers}
use Rattle.decode_answers.proofs.AlikeValues.{AreTwins}
use Rattle.encode_answers.proofs.AlikeFits.{unmatched_to}
use Rattle.encode_answers.proofs.AlikePlaced.{not_executable_to, misses_to, no_place_to, placed_to, width_of_to}
use Rattle.stack_encode_answers.specs.StackEncodeLaws.{AreStackedAlike, ValuesAreStackedAlike}
use Rattle.stack_encode_answers.proofs.AlikeStacks.{cells_to, stack_steps_same, ordered_to}

module _ (c k : Compiled) (t : AreTwins c k) (plan : HPlan) where
  spelled_to : (cells width : ℕ) (steps : List GroundAction) → IsStackSpelled c plan cells width steps → IsStackSpelled k plan cells width steps
  spelled_to cells width steps x =
      let r = renaming c k t in
      let (there, like, placed) = placed_to c k t plan x.tree x.order x.placed in
      let (acts, s, e) = x.spelling in
      let (others, spells, y) = spells_to (network c) (network k) Equal Equal r x.tree there like x.cell cells (top_work c) (top_work k)
      (alike_readers c k t).top acts x.order s.spells in
      record {
        tree = there;
        order = x.order;
        placed = placed;
        width_is = width_to (network c) (network k) Equal Equal r x.tree there like width x.order x.width_is;
        within = x.within;
        few = x.few;
        cell = x.cell;
        spelling = (
          others,
          record { spells = spells; cells = cells_to (network c) (network k) Equal Equal r x.tree there like x.cell s.cells },
          e ∙ stack_steps_same c k t acts others y,
        );
      }

  module _ (given : Option ℕ) where
    text_of_to : (text : List ℕ) → IsStackTextOf c plan given text → IsStackTextOf k plan given text
    text_of_to text (width, steps, x, e) = (width, steps, spelled_to (slots_for given width) width steps x, e)

    text_to : (most : ℕ) (text : StepText) → IsStackText c plan given most text → IsStackText k plan given most text
    text_to most (Whole text) x = (text_of_to text x.0, x.1)
    text_to most (TooLong n) x = (x.0, text_of_to x.0 x.1, x.2, x.3)
    text_to most (NoMatch id) x = unmatched_to c k t plan id x
    text_to most (NotExecutable id) x = not_executable_to c k t plan id x
    text_to most GoalFalse x = misses_to c k t plan x
    text_to most NoPlacement x = no_place_to c k t plan x
    text_to most (NeedsBound width) x = (width_of_to c k t plan width x.0, x.1)
    text_to most (TooWide width) x = (width_of_to c k t plan width x.0, x.1, x.2)

  stacked_alike : AreStackedAlike c k plan
  stacked_alike = record { ordered = ordered_to c k t; spelled = spelled_to; text = text_to }

pub values_are_stacked_alike : ValuesAreStackedAlike
values_are_stacked_alike domain problem h i checks c k plan spelled spelled' is compiled =
    stacked_alike c k (twins domain problem h i checks c k spelled spelled' is.sound is.compiled compiled) plan
