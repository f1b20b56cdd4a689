use Rattle.bound_calc.proofs.stratifier.NamedFirst.{NoneBefore}
use Rattle.bound_calc.proofs.stratifier.named.named_cycle.Given as goal

abbrev pub invariant-loop-k : goal.invariant-loop-k
invariant-loop-k l = NoneBefore l.groups l.ends l.marks l.k
