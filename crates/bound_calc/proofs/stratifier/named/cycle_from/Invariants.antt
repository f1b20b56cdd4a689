use Rattle.std.proofs.Common.{get_or}
use Rattle.bound_calc.specs.declared.stratifier.edge.Edge.{Edge}
use Rattle.bound_calc.specs.declared.stratifier.named.Ends.{Ends}
use Rattle.bound_calc.proofs.stratifier.NamedWalk.{IsFollowed, far}
use Rattle.bound_calc.proofs.stratifier.named.cycle_from.Given as goal

abbrev pub nothing : Edge
nothing = record { method = 0; child = 0 }

abbrev pub nowhere : Ends
nowhere = record { from = 0; to = 0 }

abbrev pub invariant-loop-k : goal.invariant-loop-k
invariant-loop-k l = IsFollowed l.c l.edges (get_or l.ends l.first nowhere).from l.distances.items (get_or l.ends l.first nowhere).to (get_or l.edges l.first nothing) l.cycle l.task

abbrev pub decreases-loop-k : goal.decreases-loop-k
decreases-loop-k l = far l.distances.items l.task
