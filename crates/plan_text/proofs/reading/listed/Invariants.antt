use Rattle.std.proofs.Common.{◌≡◌, ◌++◌, length}
use Rattle.plan_text.proofs.reading.listed.Given as goal

abbrev pub decreases-loop-step : goal.decreases-loop-step
decreases-loop-step l = length l.steps

abbrev pub invariant-loop-step : goal.invariant-loop-step
invariant-loop-step l = l.initial.steps ≡ l.list ++ l.steps
