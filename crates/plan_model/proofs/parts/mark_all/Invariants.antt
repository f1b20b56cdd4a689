use Rattle.plan_model.proofs.Marks.{AreMarked}
use Rattle.plan_model.proofs.parts.mark_all.Given as goal

abbrev pub invariant-loop-ty : goal.invariant-loop-ty
invariant-loop-ty l = AreMarked l.initial.marks l.types l.ty-index l.marks
