use Rattle.slot_machine.proofs.bound_laws.BoundedProblem.{has_one_bound, bounded_is_tail_recursive}
use Rattle.slot_machine.proofs.bound_laws.laws.tail_recursive_has_one_bound.Goals as goal

pub returns-clause-one : goal.returns-clause-one
returns-clause-one c = has_one_bound c.args.problem.now c.args.checks.now c.args.compiled.now c.requires.compiled

pub returns-clause-no_other : goal.returns-clause-no_other
returns-clause-no_other c = bounded_is_tail_recursive c.args.problem.now c.args.checks.now c.args.compiled.now c.requires.compiled
