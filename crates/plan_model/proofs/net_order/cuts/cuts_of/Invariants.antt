use Rattle.std.proofs.Common.{◌-◌, ◌≤◌}
use Rattle.plan_model.proofs.net_order.Ends.{AreCutsFrom, AreMarkedTo}
use Rattle.plan_model.proofs.net_order.cuts.cuts_of.Given as goal

abbrev pub invariant-loop-k : goal.invariant-loop-k
invariant-loop-k l = AreCutsFrom l.before l.line l.k l.reach l.cuts

abbrev pub invariant-loop-covered : goal.invariant-loop-covered
invariant-loop-covered l = record {
  within : l.covered ≤ l.reach;
  inside : AreMarkedTo l.before l.line l.k l.covered;
}

abbrev pub decreases-loop-covered : goal.decreases-loop-covered
decreases-loop-covered l = l.reach - l.covered
