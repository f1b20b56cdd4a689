use Rattle.bound_calc.proofs.stratifier.Lasts.{AreLastsBelow, AreMarkedBelow}
use Rattle.bound_calc.proofs.stratifier.bad.bad_marks.Given as goal

abbrev pub invariant-loop-plan : goal.invariant-loop-plan
invariant-loop-plan l = AreLastsBelow l.plan-items l.plan-index l.lasts.items

abbrev pub invariant-loop-edge : goal.invariant-loop-edge
invariant-loop-edge l = AreMarkedBelow l.c l.edges l.edge-index l.marks
