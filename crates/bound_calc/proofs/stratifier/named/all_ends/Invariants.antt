use Rattle.bound_calc.proofs.stratifier.NamedEnds.{AreEndsUpTo}
use Rattle.bound_calc.proofs.stratifier.named.all_ends.Given as goal

abbrev pub invariant-loop-edge : goal.invariant-loop-edge
invariant-loop-edge l = AreEndsUpTo l.c l.edges l.edge-index l.ends.items
