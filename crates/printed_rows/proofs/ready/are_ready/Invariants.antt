use Rattle.std.proofs.Common.{take, All}
use Rattle.plan_model.specs.plan_meaning.Network.{top_task}
use Rattle.printed_rows.specs.Ready.{IsReady}
use Rattle.printed_rows.proofs.ready.are_ready.Given as goal

abbrev pub invariant-loop-plan : goal.invariant-loop-plan
invariant-loop-plan l = All (IsReady (top_task l.c)) (take l.plan-index l.c.methods)
