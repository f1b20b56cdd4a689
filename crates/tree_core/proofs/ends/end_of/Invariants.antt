use Rattle.std.proofs.Common.{◌-◌, ◌<◌, ◌≤◌, length}
use Rattle.tree_core.specs.Growing.{OfParents}
use Rattle.tree_core.proofs.Ending.{IsReached}
use Rattle.tree_core.proofs.ends.end_of.Given as goal

abbrev pub invariant-loop-end : goal.invariant-loop-end
invariant-loop-end l = (l.place < l.end) × (l.end ≤ length l.parents) × OfParents l.parents (IsReached l.place l.end)

abbrev pub decreases-loop-end : goal.decreases-loop-end
decreases-loop-end l = length l.parents - l.end
