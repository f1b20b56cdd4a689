use Rattle.std.proofs.Common.{◌++◌, drop, List}
use Rattle.hplan_text.specs.declared.values.HNode.{HNode}
use Rattle.hplan_text.specs.Showing.{AreNodesAt}
use Rattle.hplan_text.proofs.showing.nodes.Given as goal

abbrev pub invariant-loop-id : goal.invariant-loop-id
invariant-loop-id l = (rest : List HNode) → AreNodesAt l.c l.tree l.ids l.id (drop l.id l.places) rest → AreNodesAt l.c l.tree l.ids l.first (drop l.first l.places) (l.nodes ++ rest)
