use Rattle.bound_calc.proofs.stratifier.Descents.{AreToEnter}
use Rattle.bound_calc.proofs.stratifier.finishing.Descent.new.Given as goal

abbrev pub invariant-loop-task : goal.invariant-loop-task
invariant-loop-task l = AreToEnter l.task l.steps.items
