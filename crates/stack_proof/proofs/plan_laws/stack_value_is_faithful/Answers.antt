use Rattle.stack_proof.proofs.texts.Faithful.{stack_faithful}
use Rattle.stack_proof.proofs.plan_laws.stack_value_is_faithful.Goals as goal

pub returns : goal.returns
returns c = stack_faithful c.args.problem.now c.args.checks.now c.args.compiled.now c.args.cells c.args.value.now c.requires.ordered c.requires.printed
