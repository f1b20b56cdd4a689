use Rattle.std.proofs.Common.{◌≡◌, map, take}
use Rattle.bound_calc.specs.stratifier.Listed.{edge_of}
use Rattle.bound_calc.proofs.stratifier.Listing.{edges_of}
use Rattle.bound_calc.proofs.stratifier.all_edges.edges.Given as goal

abbrev pub invariant-loop-m : goal.invariant-loop-m
invariant-loop-m l = map edge_of l.edges ≡ edges_of l.marks.items 0 (take l.m l.plan-items)
