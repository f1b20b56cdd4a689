use Rattle.std.proofs.Common.{◌≡◌, length, take}
use Rattle.plan_model.specs.net_order.Closure.{AreFirsts}
use Rattle.bound_calc.proofs.stratifier.LastChild.{IsOnlyBelow}
use Rattle.bound_calc.proofs.stratifier.last.last_child.Given as goal

abbrev pub invariant-loop-pair : goal.invariant-loop-pair
invariant-loop-pair l = record {
  room : length l.firsts.items ≡ length l.plan.schema.children;
  firsts : AreFirsts (take l.pair-index l.pair-items) l.firsts.items;
}

abbrev pub invariant-loop-i : goal.invariant-loop-i
invariant-loop-i l = IsOnlyBelow l.first-items l.i l.only
