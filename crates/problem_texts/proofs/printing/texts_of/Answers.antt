use Rattle.problem_texts.proofs.Styles.{if-printed}
use Rattle.problem_texts.proofs.printing.texts_of.Goals as goal

pub returns : goal.returns
returns c = record { printed = if-printed c.args.rule.now c.args.c.now c.requires.compiled c.args.slots c.in_ok-encoding.encoding c.in_ok-encoding.ensures.encoding c.in_ok-encoding.ensures.slots c.in_ok-encoding.ensures.style c.in_ok-encoding.ensures.rule c.args.style.now c.args.limit c.texts_within-printed.result c.texts_within-printed.ensures }
