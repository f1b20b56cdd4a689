use Rattle.plan_proof.proofs.values.Headlines.{headline_at_bound_of}
use Rattle.plan_proof.proofs.value_laws.headline_at_bound.Goals as goal

pub returns : goal.returns
returns c = headline_at_bound_of c.args.domain.now c.args.problem.now c.args.read.now c.args.checks.now c.args.compiled.now c.args.slots c.args.style.now c.args.value.now c.requires.spelled c.requires.printed c.requires.ordered
