use Rattle.std.proofs.Common.{◌++◌, map, take}
use Rattle.hplan_text.specs.Printable.{line_id, node_id}
use Rattle.numbered_lines.specs.LinePlaces.{ArePlacesOf}
use Rattle.numbered_lines.proofs.line_places.LinePlaces.of.Given as goal

abbrev pub invariant-loop-line : goal.invariant-loop-line
invariant-loop-line l = ArePlacesOf (map line_id (take l.line-index l.line-items)) l.places

abbrev pub invariant-loop-node : goal.invariant-loop-node
invariant-loop-node l = ArePlacesOf (map line_id l.plan.primitives ++ map node_id (take l.node-index l.node-items)) l.places
