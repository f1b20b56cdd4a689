use Rattle.gap_pass.proofs.Steps.{IsUnderWay}
use Rattle.gap_pass.proofs.tour.tour.Given as goal

abbrev pub invariant-loop-step : goal.invariant-loop-step
invariant-loop-step l = IsUnderWay l.c l.tree l._step l.steps l.stack.items
