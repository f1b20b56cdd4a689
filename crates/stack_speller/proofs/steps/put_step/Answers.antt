use Rattle.std.proofs.Common.{ap, map}
use Rattle.plan_model.specs.plan_meaning.SpelledPlan.{object_word}
use Rattle.plan_text.specs.Printing.{args_text}
use Rattle.text_forms.proofs.sheets.Written.{wrote-as}
use Rattle.stack_speller.proofs.PutSteps.{step-put}
use Rattle.stack_speller.proofs.steps.put_step.Goals as goal

pub returns : goal.returns
returns c = record {
  step =
      step-put c.args.c.now c.args.tree.now c.args.tip c.args.node c.args.children c.requires.count c.put.ensures.wrote c.put_name.ensures
      c.put_cells.ensures.cells
      (wrote-as (ap (λ objects. args_text (map (object_word c.args.c.now) objects)) c.objects.ensures) c.put_objects.ensures)
      c.put-2.ensures.wrote;
}
