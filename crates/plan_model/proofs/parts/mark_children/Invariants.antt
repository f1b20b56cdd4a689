use Rattle.plan_model.proofs.Marks.{IsPassed}
use Rattle.plan_model.proofs.parts.mark_children.Given as goal

abbrev pub invariant-loop-pair : goal.invariant-loop-pair
invariant-loop-pair l = IsPassed l.parents l.pair-index l.initial.marks l.marks l.found
