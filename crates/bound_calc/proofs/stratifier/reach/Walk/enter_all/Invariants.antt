use Rattle.std.proofs.Common.{Contains, take}
use Rattle.bound_calc.specs.stratifier.Entered.{AreEntered}
use Rattle.bound_calc.proofs.stratifier.reach.Walk.enter_all.Given as goal

abbrev pub invariant-loop-task : goal.invariant-loop-task
invariant-loop-task l = AreEntered (Contains (take l.task-index l.tasks)) l.initial.self l.self
