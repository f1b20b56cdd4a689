use Rattle.stack_encoder.proofs.FirstUnordered.{AreOrderedTo}
use Rattle.stack_encoder.proofs.order.untotal.Given as goal

abbrev pub invariant-loop-m : goal.invariant-loop-m
invariant-loop-m l = AreOrderedTo l.methods l.m
