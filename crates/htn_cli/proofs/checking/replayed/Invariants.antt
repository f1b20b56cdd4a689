use Rattle.std.proofs.Common.{length}
use Rattle.htn_cli.proofs.StepsTaken.{IsCheckedTo}
use Rattle.htn_cli.proofs.checking.replayed.Given as goal

abbrev pub decreases-loop-step : goal.decreases-loop-step
decreases-loop-step l = length l.steps

abbrev pub invariant-loop-step : goal.invariant-loop-step
invariant-loop-step l = IsCheckedTo l.fn.run.p.now (length l.plan) l.plan l.steps l.number l.run
