use Rattle.slot_machine.proofs.bound_laws.OneCycle.{one_named_cycle}
use Rattle.slot_machine.proofs.bound_laws.OrCycle.{tail_recursive_or_named_cycle, not_both}
use Rattle.slot_machine.proofs.bound_laws.laws.tail_recursive_or_bad_cycle.Goals as goal

pub returns-clause-either : goal.returns-clause-either
returns-clause-either c = tail_recursive_or_named_cycle c.args.compiled.now

pub returns-clause-not_both : goal.returns-clause-not_both
returns-clause-not_both c = not_both c.args.compiled.now

pub returns-clause-one : goal.returns-clause-one
returns-clause-one c = one_named_cycle c.args.compiled.now
