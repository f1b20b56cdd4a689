use Rattle.std.proofs.Common.{take}
use Rattle.ground_state.specs.Runs.{HasTaken}
use Rattle.ground_state.proofs.run.run_plan.Given as goal

-- the steps so far are taken
abbrev pub invariant-loop-i : goal.invariant-loop-i
invariant-loop-i l = HasTaken l.p (take l.i l.plan) l.run
