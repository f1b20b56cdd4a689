use Rattle.std.proofs.Common.{ℕ, List, length, get_or, Some, None, ap, sym, subst, ◌∙◌, ◌≡◌, ◌<◌}
use Rattle.std.proofs.lemmas.Result.{IfOk-weaker}
use Rattle.plan_model.specs.declared.schemas.ActionSchema.{ActionSchema}
use Rattle.plan_model.specs.declared.schemas.MethodPlan.{MethodPlan}
use Rattle.slot_encoding.proofs.slot_declarations.CheckedMethods.{check-within}
use Rattle.stack_encoding.specs.StackActions as actions
use Rattle.stack_encoder.specs.Made as made
use Rattle.stack_encoder.proofs.ActionPlaces.{check-at}
use Rattle.stack_encoder.proofs.works.stack_check.Goals as goal

pub check_predicate-requires-clause-some : goal.check_predicate-requires-clause-some
check_predicate-requires-clause-some c = check-within c.args.frame.now.compiled.now.methods c.args.frame.now.basis.now.checks c.requires.frame.checks c.args.j (get_or c.as_slice.result.now c.args.j 0) c.requires.some (ap (λ (xs : List ℕ). get_or xs c.args.j 0) c.as_slice.ensures.items)

pub bounds-as_slice-m : goal.bounds-as_slice-m
bounds-as_slice-m c =
    let l = check-within c.args.frame.now.compiled.now.methods c.args.frame.now.basis.now.checks c.requires.frame.checks c.args.j (get_or c.as_slice.result.now c.args.j 0) c.requires.some (ap (λ (xs : List ℕ). get_or xs c.args.j 0) c.as_slice.ensures.items) in
    subst (λ (xs : List MethodPlan). get_or c.as_slice.result.now c.args.j 0 < length xs) (sym c.as_slice-2.ensures.items) l

pub returns : goal.returns
returns c =
    let f = c.args.frame.now in
    let j = c.args.j in
    let m = get_or c.as_slice.result.now j 0 in
    let plan = c.index-as_slice-m.result in
    let name = c.in_ok-name.name in
    let check = c.in_ok-check.check in
    let at = check-at f.compiled.now f.printed.now f.slots f.basis.now.checks c.requires.frame.checks j m plan c.requires.some (ap (λ (xs : List ℕ). get_or xs j 0) c.as_slice.ensures.items)
    ∙ ap (λ (p : MethodPlan). Some (actions.stack_check f.compiled.now f.printed.now f.slots m p)) (ap (λ (xs : List MethodPlan). get_or xs m plan) (sym c.as_slice-2.ensures.items) ∙ sym c.index-as_slice-m.is) in
    let params = c.as_slice-params.ensures.items in
    IfOk-weaker c.tip_action.result (λ (a : ActionSchema). a ≡ made.tip_action f name check c.as_slice-params.result.now plan.schema.pre None) (made.IsCheck f j)
    (λ a e. at ∙ ap Some (sym (e ∙ (λ i. made.tip_action f (c.in_ok-name.ensures i) (c.in_ok-check.ensures i) (params i) plan.schema.pre None)))) c.tip_action.ensures
