use Rattle.std.proofs.Common.{◌≡◌, take}
use Rattle.tree_core.proofs.tree.Tree.copy.Given as goal

abbrev pub invariant-loop-growth : goal.invariant-loop-growth
invariant-loop-growth l = l.growths ≡ take l.growth-index l.growth-items
