use Rattle.std.proofs.Common.{◌≤◌, length}
use Rattle.plan_model.proofs.net_order.Closing.{IsGatheredFrom}
use Rattle.plan_model.proofs.net_order.closure.gather.Given as goal

abbrev pub invariant-loop-p : goal.invariant-loop-p
invariant-loop-p l = record {
  within : l.end ≤ length l.earlier;
  gathered : IsGatheredFrom l.before l.earlier l.child l.end l.set;
}

abbrev pub decreases-loop-p : goal.decreases-loop-p
decreases-loop-p l = l.end
