use Rattle.std.proofs.Common.{◌≡◌, ◌++◌, map, take, filter}
use Rattle.plan_model.specs.declared.schemas.MethodPlan.{MethodPlan}
use Rattle.slot_encoding.specs.slot_declarations.Made as made
use Rattle.slot_encoding.proofs.slot_declarations.predicates.push_works.Given as goal

abbrev pub invariant-loop-action : goal.invariant-loop-action
invariant-loop-action l = l.into ≡ l.initial.into ++ map (made.action_held l.frame) (take l.action-index l.actions)

abbrev pub invariant-loop-plan : goal.invariant-loop-plan
invariant-loop-plan l = l.into ≡ l.initial.into ++ map (made.check_held l.frame) (filter (λ (plan : MethodPlan). plan.checked) (take l.plan-index l.methods))

abbrev pub invariant-loop-ty : goal.invariant-loop-ty
invariant-loop-ty l = l.into ≡ l.initial.into ++ map (made.guard_tested l.frame) (take l.ty-index l.types)
