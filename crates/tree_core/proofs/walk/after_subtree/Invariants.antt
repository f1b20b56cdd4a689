use Rattle.std.proofs.Common.{ℕ, ◌<◌, length}
use Rattle.tree_core.specs.Labels.{growths_of}
use Rattle.tree_core.specs.Growing.{OfTree, EndsAt}
use Rattle.tree_core.proofs.walk.after_subtree.Given as goal

abbrev pub invariant-loop-node : goal.invariant-loop-node
invariant-loop-node l = (l.node < length l.steps) × OfTree (growths_of l.steps) (λ tree order. (e : ℕ) → EndsAt tree order l.place e → EndsAt tree order l.node e)

abbrev pub decreases-loop-node : goal.decreases-loop-node
decreases-loop-node l = l.node
