use Rattle.bound_calc.proofs.Counting.{AreCounted}
use Rattle.bound_calc.proofs.groups.bound.Given as goal

abbrev pub invariant-loop-place : goal.invariant-loop-place
invariant-loop-place l = AreCounted l.c l.r l.place-items l.place-index l.numbers.items
