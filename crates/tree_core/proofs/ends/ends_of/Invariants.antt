use Rattle.std.proofs.Common.{◌≡◌, ◌-◌, length}
use Rattle.tree_core.specs.Growing.{OfParents, AreEnds, AreLater}
use Rattle.tree_core.proofs.ends.ends_of.Given as goal

abbrev pub invariant-loop-behind : goal.invariant-loop-behind
invariant-loop-behind l = (length l.ends.items ≡ length l.parents) × AreLater (length l.parents) (length l.parents - l.behind) l.ends.items
    × OfParents l.parents (AreEnds (length l.parents - l.behind) l.ends.items)
