use Rattle.step_texts.proofs.StackTexts.{is_stack_text}
use Rattle.step_texts.proofs.stack.stack_text.Goals as goal

pub returns-in-Ok : goal.returns-in-Ok
returns-in-Ok c = record {
  text =
      is_stack_text c.args.c.now c.requires.soundly c.args.plan.now c.in-Ok.run' c.in-Ok.ensures.placed c.args.given c.requires.given
      c.args.most c.stacked.result c.stacked.ensures.text;
}
