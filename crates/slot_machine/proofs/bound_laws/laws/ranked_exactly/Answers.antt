use Rattle.slot_machine.proofs.bound_laws.OrCycle.{ranked_exactly}
use Rattle.slot_machine.proofs.bound_laws.laws.ranked_exactly.Goals as goal

pub returns : goal.returns
returns c = ranked_exactly c.args.compiled.now
