use Rattle.std.proofs.Common.{◌+◌, ◌*◌, length}
use Rattle.plan_model.proofs.net_order.Walks.{IsPath, absent}
use Rattle.plan_model.proofs.net_order.walk.reach.Given as goal

abbrev pub invariant-loop-last : goal.invariant-loop-last
invariant-loop-last l = IsPath l.before l.child l.initial.listed l.listed l.entered l.path.items

abbrev pub decreases-loop-last : goal.decreases-loop-last
decreases-loop-last l = 2 * absent l.entered + length l.path.items
