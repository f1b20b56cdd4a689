use Rattle.std.proofs.Common.{◌≤◌}
use Rattle.tree_core.specs.Rooms.{AreStarts}
use Rattle.tree_core.proofs.children.starts_of.Given as goal

abbrev pub invariant-loop-count : goal.invariant-loop-count
invariant-loop-count l = record {
  starts : AreStarts l.start l.starts.items;
  within : l.start ≤ l.most;
}
