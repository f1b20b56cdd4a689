use Rattle.gap_pass.proofs.Listing.{AreListedUpTo}
use Rattle.gap_pass.proofs.children.all_children.Given as goal

abbrev pub invariant-loop-node : goal.invariant-loop-node
invariant-loop-node l = AreListedUpTo l.tree l.node l.all
