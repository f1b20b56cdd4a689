use Rattle.plan_proof.proofs.values.Headlines.{headline_of}
use Rattle.plan_proof.proofs.value_laws.headline.Goals as goal

pub returns : goal.returns
returns c = headline_of c.args.domain.now c.args.problem.now c.args.read.now c.args.checks.now c.args.compiled.now c.args.slots c.args.style.now c.args.value.now c.requires.spelled c.requires.printed c.requires.ordered
