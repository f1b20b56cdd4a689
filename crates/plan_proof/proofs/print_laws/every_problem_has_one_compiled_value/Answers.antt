use Rattle.plan_proof.proofs.one.SomeCompiled.{has_one_compiled}
use Rattle.plan_proof.proofs.print_laws.every_problem_has_one_compiled_value.Goals as goal

pub returns : goal.returns
returns c = has_one_compiled c.args.problem.now c.args.checks.now c.requires.ordered
