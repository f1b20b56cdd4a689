use Rattle.plan_model.specs.net_order.Outside.{AreWithinFrom}
use Rattle.plan_model.proofs.net_order.closure.last_outside.Given as goal

abbrev pub invariant-loop-p : goal.invariant-loop-p
invariant-loop-p l = AreWithinFrom l.p l.children l.direct l.set
