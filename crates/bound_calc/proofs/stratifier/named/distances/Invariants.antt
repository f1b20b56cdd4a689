use Rattle.std.proofs.Common.{◌+◌, length}
use Rattle.bound_calc.specs.stratifier.NamedSearch.{left}
use Rattle.bound_calc.proofs.stratifier.NamedDistances.{IsSearched}
use Rattle.bound_calc.proofs.stratifier.named.distances.Given as goal

abbrev pub invariant-loop-alloc : goal.invariant-loop-alloc
invariant-loop-alloc l = IsSearched l.ends l.goal l.count l.found.items l.tasks.items l.distance

abbrev pub decreases-loop-alloc : goal.decreases-loop-alloc
decreases-loop-alloc l = left l.found.items + length l.tasks.items
