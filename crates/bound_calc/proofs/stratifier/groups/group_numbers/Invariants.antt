use Rattle.std.proofs.Common.{length}
use Rattle.bound_calc.proofs.stratifier.Grouped.{AreGrouped}
use Rattle.bound_calc.proofs.stratifier.groups.group_numbers.Given as goal

abbrev pub invariant-loop-root : goal.invariant-loop-root
invariant-loop-root l = AreGrouped l.rows l.back l.initial.order.items l.order.items l.groups

abbrev pub decreases-loop-root : goal.decreases-loop-root
decreases-loop-root l = length l.order.items
