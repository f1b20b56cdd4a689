use Rattle.std.proofs.Common.{◌≡◌, take, map}
use Rattle.ground_bound.specs.MethodRows.{row}
use Rattle.ground_bound.proofs.in_order.in_order.Given as goal

abbrev pub invariant-loop-k : goal.invariant-loop-k
invariant-loop-k l = map row l.rows.items ≡ take l.k l.methods
