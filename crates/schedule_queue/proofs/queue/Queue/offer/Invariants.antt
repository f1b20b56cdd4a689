use Rattle.schedule_queue.proofs.Lowering.{AreOfferedUpTo}
use Rattle.schedule_queue.proofs.queue.Queue.offer.Given as goal

abbrev pub invariant-loop-address : goal.invariant-loop-address
invariant-loop-address l = AreOfferedUpTo l.given.actions.now l.given.gaps.now l.addresses l.initial.self l.self l.address-index
