use Rattle.bound_calc.proofs.stratifier.Compiled.{have_no_cycle}
use Rattle.bound_calc.proofs.stratifier.laws.compiled_networks_have_no_cycle.Goals as goal

pub returns : goal.returns
returns c = have_no_cycle c.args.problem.now c.args.checks.now c.args.compiled.now c.requires.ordered c.requires.compiled
