use Rattle.std.proofs.Common.{◌-◌, ◌<◌, ◌≤◌, length, take}
use Rattle.plan_model.specs.task_networks.Order.{IsAcyclic}
use Rattle.plan_model.specs.Pairs.{Pairs}
use Rattle.plan_model.proofs.net_order.cycle.first_closing.Given as goal

abbrev pub invariant-loop-cyclic : goal.invariant-loop-cyclic
invariant-loop-cyclic l = record {
  order : l.acyclic < l.cyclic;
  end : l.cyclic ≤ length l.pairs;
  none : IsAcyclic (Pairs (take l.acyclic l.pairs));
  some : IsAcyclic (Pairs (take l.cyclic l.pairs)) → ⊥;
}

abbrev pub decreases-loop-cyclic : goal.decreases-loop-cyclic
decreases-loop-cyclic l = l.cyclic - l.acyclic
