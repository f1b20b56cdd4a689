use Rattle.std.proofs.Common.{◌<◌, ◌≤◌, length}
use Rattle.plan_model.specs.Pairs.{Pairs}
use Rattle.stack_encoder.proofs.Neighbours.{AreNeighbours}
use Rattle.stack_encoder.proofs.order.is_one_after_another.Given as goal

abbrev pub invariant-loop-k : goal.invariant-loop-k
invariant-loop-k l = (0 < l.k) × (l.place ≤ length l.pairs) × AreNeighbours (Pairs l.pairs) l.line l.k
