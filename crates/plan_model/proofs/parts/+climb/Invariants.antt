use Rattle.std.specs.Prelude.{◌≤◌}
use Rattle.plan_model.specs.Parts.{unmarked, IsMarkedFurther}
use Rattle.plan_model.proofs.parts.+climb.Given as goal

abbrev pub invariant-loop-pair : goal.invariant-loop-pair
invariant-loop-pair l = IsMarkedFurther l.parents l.initial.marks l.marks × (unmarked l.seen ≤ unmarked l.initial.seen)

abbrev pub decreases-climb : goal.decreases-climb
decreases-climb l = unmarked l.seen.now
