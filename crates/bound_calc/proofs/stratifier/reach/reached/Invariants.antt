use Rattle.std.proofs.Common.{◌+◌, length}
use Rattle.plan_model.specs.Parts.{unmarked}
use Rattle.bound_calc.proofs.stratifier.Walks.{IsWalked}
use Rattle.bound_calc.proofs.stratifier.reach.reached.Given as goal

abbrev pub invariant-loop-task : goal.invariant-loop-task
invariant-loop-task l = IsWalked l.c l.walk.marks.items l.walk.work.items

abbrev pub decreases-loop-task : goal.decreases-loop-task
decreases-loop-task l = unmarked l.walk.marks.items + length l.walk.work.items
