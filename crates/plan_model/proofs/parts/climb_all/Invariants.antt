use Rattle.plan_model.specs.Parts.{IsMarkedFurther}
use Rattle.plan_model.proofs.parts.climb_all.Given as goal

abbrev pub invariant-loop-pair : goal.invariant-loop-pair
invariant-loop-pair l = IsMarkedFurther l.parents l.initial.marks l.marks
