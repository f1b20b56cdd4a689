use Rattle.std.proofs.Common.{◌≡◌, ◌++◌, map, take}
use Rattle.bound_calc.specs.stratifier.Listed.{edge_of, edges_from}
use Rattle.bound_calc.proofs.stratifier.all_edges.add_edges.Given as goal

abbrev pub invariant-loop-i : goal.invariant-loop-i
invariant-loop-i l = map edge_of l.edges ≡ map edge_of l.initial.edges ++ edges_from l.method 0 (take l.i l.children)
