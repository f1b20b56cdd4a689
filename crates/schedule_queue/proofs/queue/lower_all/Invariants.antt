use Rattle.htn_base.specs.Different.{AreDifferent}
use Rattle.schedule_queue.proofs.Lowering.{AreLoweredUpTo}
use Rattle.schedule_queue.proofs.queue.lower_all.Given as goal

abbrev pub invariant-loop-address : goal.invariant-loop-address
invariant-loop-address l = AreDifferent l.addresses → AreLoweredUpTo l.addresses l.initial.counts.items l.counts.items l.address-index
