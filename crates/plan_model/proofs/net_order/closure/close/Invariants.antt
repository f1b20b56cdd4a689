use Rattle.plan_model.proofs.net_order.Closing.{IsClosedTo}
use Rattle.plan_model.proofs.net_order.closure.close.Given as goal

abbrev pub invariant-loop-q : goal.invariant-loop-q
invariant-loop-q l = IsClosedTo l.initial.before l.before l.line l.q
