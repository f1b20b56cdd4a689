use Rattle.stack_proof.proofs.texts.Headlines.{at_bound_of}
use Rattle.stack_proof.proofs.value_laws.stack_headline_at_bound.Goals as goal

pub returns : goal.returns
returns c = at_bound_of c.args.domain.now c.args.problem.now c.args.read.now c.args.checks.now c.args.compiled.now c.args.cells c.args.value.now c.requires.spelled c.requires.printed c.requires.ordered
