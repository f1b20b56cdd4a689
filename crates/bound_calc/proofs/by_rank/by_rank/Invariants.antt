use Rattle.bound_calc.proofs.Placing.{ArePlaced}
use Rattle.bound_calc.proofs.by_rank.by_rank.Given as goal

abbrev pub invariant-loop-m : goal.invariant-loop-m
invariant-loop-m l = ArePlaced l.c l.r l.m l.places.items
