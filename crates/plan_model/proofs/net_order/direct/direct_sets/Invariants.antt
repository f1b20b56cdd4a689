use Rattle.std.proofs.Common.{take}
use Rattle.plan_model.specs.net_order.Closure.{IsDirect}
use Rattle.plan_model.proofs.net_order.direct.direct_sets.Given as goal

abbrev pub invariant-loop-pair : goal.invariant-loop-pair
invariant-loop-pair l = IsDirect l.count (take l.pair-index l.pairs) l.before.items
