use Rattle.step_texts.proofs.Texts.{is_step_text}
use Rattle.step_texts.proofs.text.step_text.Goals as goal

pub returns-in-Ok : goal.returns-in-Ok
returns-in-Ok c = record {
  text =
      is_step_text c.args.c.now c.requires.soundly c.args.plan.now c.in-Ok.run' c.in-Ok.ensures.placed c.args.given c.requires.given
      c.args.most c.text_of.result c.text_of.ensures.text;
}
