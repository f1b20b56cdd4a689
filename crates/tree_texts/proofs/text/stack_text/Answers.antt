use Rattle.tree_texts.proofs.Texts.{is-stack-text}
use Rattle.tree_texts.proofs.text.stack_text.Goals as goal

pub returns-in-Ok : goal.returns-in-Ok
returns-in-Ok c = record {
  text = is-stack-text c.args.c.now c.args.cells c.args.plan.now c.in-Ok.decoded c.in-Ok.ensures.decoded c.args.most c.text_of.result c.text_of.ensures.text;
}
