use Rattle.bound_calc.specs.stratifier.Finishing.{IsDescentOf, work_of}
use Rattle.bound_calc.proofs.stratifier.finishing.finishing_order.Given as goal

abbrev pub invariant-loop-step : goal.invariant-loop-step
invariant-loop-step l = IsDescentOf l.rows l.walk

abbrev pub decreases-loop-step : goal.decreases-loop-step
decreases-loop-step l = work_of l.rows l.walk
