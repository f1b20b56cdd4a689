use Rattle.std.proofs.Common.{◌+◌, length}
use Rattle.plan_model.specs.Parts.{unmarked}
use Rattle.bound_calc.proofs.stratifier.Grouped.{IsOnTheWay}
use Rattle.bound_calc.proofs.stratifier.groups.Groups.number.Given as goal

abbrev pub invariant-loop-task : goal.invariant-loop-task
invariant-loop-task l = IsOnTheWay l.rows l.root l.number l.fn.self l.self

abbrev pub decreases-loop-task : goal.decreases-loop-task
decreases-loop-task l = unmarked l.self.walk.marks.items + length l.self.walk.work.items
