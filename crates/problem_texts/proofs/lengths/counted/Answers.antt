use Rattle.problem_texts.proofs.Styles.{if-sized}
use Rattle.problem_texts.proofs.lengths.counted.Goals as goal

pub returns : goal.returns
returns c = record { sized = if-sized c.args.rule.now c.args.c.now c.requires.compiled c.args.slots c.in_ok-encoding.encoding c.in_ok-encoding.ensures.encoding c.in_ok-encoding.ensures.slots c.in_ok-encoding.ensures.style c.in_ok-encoding.ensures.rule c.args.style.now c.lengths_of-lengths.result c.lengths_of-lengths.ensures }
