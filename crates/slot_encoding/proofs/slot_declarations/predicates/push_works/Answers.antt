use Rattle.std.proofs.Common.{◌≡◌, ℕ, List, ◌++◌, map, ap, ◌∙◌, arith}
use Rattle.std.proofs.lemmas.Grind.{common_steps}
use Rattle.std.proofs.lemmas.List.{take_all}
use Rattle.plan_model.specs.declared.schemas.ActionSchema.{ActionSchema}
use Rattle.plan_model.specs.declared.schemas.MethodPlan.{MethodPlan}
use Rattle.slot_encoding.specs.EncodedNames.{guard_types}
use Rattle.slot_encoding.specs.slot_declarations.Made as made
use Rattle.slot_encoding.proofs.slot_declarations.Appended.{append_two}
use Rattle.slot_encoding.proofs.slot_declarations.predicates.push_works.Goals as goal

pub loop-action-preserved : goal.loop-action-preserved
loop-action-preserved c = grind (arith, common_steps)

pub loop-ty-preserved : goal.loop-ty-preserved
loop-ty-preserved c = grind (arith, common_steps)

pub returns : goal.returns
returns c =
    let f = c.args.frame.now in
    let s = f.compiled.now in
    let actions : c.loop-action.into ≡ c.args.into.now ++ map (made.action_held f) s.hddl.actions =
    c.loop-action.invariant ∙ ap (λ (xs : List ActionSchema). c.args.into.now ++ map (made.action_held f) xs) (take_all c.loop-action.action-index c.as_slice-actions.result.now c.loop-action-test.false ∙ c.as_slice-actions.ensures.items) in
    let checks : c.loop-plan.into ≡ c.loop-action.into ++ made.checks_held f s.methods =
    c.loop-plan.invariant ∙ ap (λ (xs : List MethodPlan). c.loop-action.into ++ made.checks_held f xs) (take_all c.loop-plan.plan-index c.as_slice-methods.result.now c.loop-plan-test.false ∙ c.as_slice-methods.ensures.items) in
    let guards : c.loop-ty.into ≡ c.loop-plan.into ++ map (made.guard_tested f) (guard_types s) =
    c.loop-ty.invariant ∙ ap (λ (xs : List ℕ). c.loop-plan.into ++ map (made.guard_tested f) xs) (take_all c.loop-ty.ty-index c.as_slice-types.result.now c.loop-ty-test.false ∙ c.as_slice-types.ensures.items ∙ c.requires.guard_types) in
    append_two c.args.into.now c.loop-action.into c.loop-ty.into (map (made.action_held f) s.hddl.actions) (made.checks_held f s.methods ++ map (made.guard_tested f) (guard_types s)) actions
    (append_two c.loop-action.into c.loop-plan.into c.loop-ty.into (made.checks_held f s.methods) (map (made.guard_tested f) (guard_types s)) checks guards)
