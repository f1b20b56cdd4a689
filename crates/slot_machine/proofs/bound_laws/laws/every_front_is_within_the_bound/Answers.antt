use Rattle.slot_machine.proofs.bound_laws.EveryFront.{every_front_is_within}
use Rattle.slot_machine.proofs.bound_laws.laws.every_front_is_within_the_bound.Goals as goal

pub returns : goal.returns
returns c = every_front_is_within c.args.problem.now c.args.checks.now c.args.compiled.now c.requires.compiled
