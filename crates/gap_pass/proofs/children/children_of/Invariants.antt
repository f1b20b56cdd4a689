use Rattle.std.proofs.Common.{◌-◌}
use Rattle.gap_pass.proofs.Listing.{IsListing}
use Rattle.gap_pass.proofs.children.children_of.Given as goal

abbrev pub invariant-loop-at : goal.invariant-loop-at
invariant-loop-at l = IsListing l.tree l.node l.end l.at l.children

abbrev pub decreases-loop-at : goal.decreases-loop-at
decreases-loop-at l = l.end - l.at
