use Rattle.std.proofs.Common.{take}
use Rattle.ground_bound.specs.Bounding.{AreNamed}
use Rattle.ground_bound.proofs.bounding.ground_edges.Given as goal

abbrev pub invariant-loop-edge : goal.invariant-loop-edge
invariant-loop-edge l = AreNamed l.methods (take l.edge-index l.edges) l.named
