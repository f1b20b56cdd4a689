use Rattle.stack_proof.proofs.texts.Headlines.{headline_of}
use Rattle.stack_proof.proofs.value_laws.stack_headline.Goals as goal

pub returns : goal.returns
returns c = headline_of c.args.domain.now c.args.problem.now c.args.read.now c.args.checks.now c.args.compiled.now c.args.cells c.args.value.now c.requires.spelled c.requires.printed c.requires.ordered
