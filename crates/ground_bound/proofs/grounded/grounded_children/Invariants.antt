use Rattle.std.proofs.Common.{take}
use Rattle.std.specs.List.{AllZip}
use Rattle.ground_bound.specs.Grounded.{StandsForChild}
use Rattle.ground_bound.specs.MethodRows.{ground}
use Rattle.ground_bound.proofs.grounded.grounded_children.Given as goal

abbrev pub invariant-loop-child : goal.invariant-loop-child
invariant-loop-child l = AllZip (StandsForChild l.tasks (ground l.it)) (take l.child-index l.children) l.kids
