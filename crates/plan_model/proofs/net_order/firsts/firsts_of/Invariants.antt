use Rattle.std.proofs.Common.{◌≡◌, length, take}
use Rattle.plan_model.specs.net_order.Closure.{AreFirsts}
use Rattle.plan_model.proofs.net_order.firsts.firsts_of.Given as goal

abbrev pub invariant-loop-pair : goal.invariant-loop-pair
invariant-loop-pair l = record {
  room : length l.firsts ≡ l.count;
  firsts : AreFirsts (take l.pair-index l.pairs) l.firsts;
}
