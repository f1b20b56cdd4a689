use Rattle.problem_texts.proofs.flat.FirstValues.{flat_written-by}
use Rattle.problem_texts.proofs.flat_laws.flat_is_written_out.Goals as goal

pub returns : goal.returns
returns c = flat_written-by c.args.rule.now c.args.read.now c.args.checks.now c.args.compiled.now c.args.slots c.args.value.now c.requires.compiled c.requires.encoded
