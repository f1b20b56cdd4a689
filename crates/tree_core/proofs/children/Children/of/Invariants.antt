use Rattle.tree_core.specs.Labels.{growths_of}
use Rattle.tree_core.specs.Rooms.{AreRooms}
use Rattle.tree_core.specs.Growing.{AreNoted}
use Rattle.tree_core.proofs.children.Children.of.Given as goal

abbrev pub invariant-loop-place : goal.invariant-loop-place
invariant-loop-place l = record {
  rooms : AreRooms l.children;
  noted : AreNoted (growths_of l.steps) l.place l.children;
}
