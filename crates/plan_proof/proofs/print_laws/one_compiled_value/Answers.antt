use Rattle.plan_proof.proofs.one.OneCompiled.{one_compiled}
use Rattle.plan_proof.proofs.print_laws.one_compiled_value.Goals as goal

pub returns : goal.returns
returns c = one_compiled c.args.problem.now c.args.checks.now c.args.one.now c.args.other.now c.requires.one c.requires.other
