use Rattle.std.proofs.Common.{◌<◌, length, IfSome}
use Rattle.tree_core.specs.Labels.{growths_of}
use Rattle.tree_core.specs.Growing.{OfTree, AreNodes, AreBelow, IsNodeAt}
use Rattle.tree_core.proofs.walk.in_preorder.Given as goal

abbrev pub invariant-loop-step : goal.invariant-loop-step
invariant-loop-step l = AreBelow (length l.steps) l.nodes.items × IfSome l.next (λ x. x < length l.steps)
    × OfTree (growths_of l.steps) (λ tree order. AreNodes l._step l.nodes.items tree order × IsNodeAt l._step l.next tree order)
