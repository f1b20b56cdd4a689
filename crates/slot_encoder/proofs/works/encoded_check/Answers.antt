use Rattle.std.proofs.Common.{ℕ, List, length, get_or, Some, ap, sym, subst, ◌∙◌, ◌≡◌, ◌<◌, arith}
use Rattle.std.proofs.lemmas.Grind.{common_steps}
use Rattle.plan_model.specs.declared.options.Slots.{Slots}
use Rattle.plan_model.specs.declared.schemas.ActionSchema.{ActionSchema}
use Rattle.plan_model.specs.declared.schemas.MethodPlan.{MethodPlan}
use Rattle.slot_encoder.specs.Encodings.{whole}
use Rattle.slot_encoder.specs.Made as made
use Rattle.slot_encoder.specs.declared.split_action.SplitAction.{SplitAction}
use Rattle.slot_encoding.proofs.slot_declarations.CheckedMethods.{check-within}
use Rattle.slot_encoder.proofs.ActionPlaces.{check-at}
use Rattle.slot_encoder.proofs.ByRule.{whole_by-none}
use Rattle.slot_encoder.proofs.works.encoded_check.Goals as goal

pub check_predicate-requires-clause-some : goal.check_predicate-requires-clause-some
check_predicate-requires-clause-some c = check-within c.args.frame.now.compiled.now.methods c.args.frame.now.basis.now.checks c.requires.frame.checks c.args.j (get_or c.as_slice.result.now c.args.j 0) c.requires.some (ap (λ (xs : List ℕ). get_or xs c.args.j 0) c.as_slice.ensures.items)

pub bounds-as_slice-m : goal.bounds-as_slice-m
bounds-as_slice-m c =
    let l = check-within c.args.frame.now.compiled.now.methods c.args.frame.now.basis.now.checks c.requires.frame.checks c.args.j (get_or c.as_slice.result.now c.args.j 0) c.requires.some (ap (λ (xs : List ℕ). get_or xs c.args.j 0) c.as_slice.ensures.items) in
    subst (λ (xs : List MethodPlan). get_or c.as_slice.result.now c.args.j 0 < length xs) (sym c.as_slice-2.ensures.items) l

pub returns : goal.returns
returns c = λ (rule : Slots).
    let f = c.args.frame.now in
    let j = c.args.j in
    let m = get_or c.as_slice.result.now j 0 in
    let plan = c.index-as_slice-m.result in
    let check = c.in_ok-check.check in
    let is : whole c.into_action.result ≡ made.check_action f check plan = grind (arith, common_steps) in
    check-at f.compiled.now f.printed.now f.slots f.style f.basis.now.checks c.requires.frame.checks j m plan c.requires.some (ap (λ (xs : List ℕ). get_or xs j 0) c.as_slice.ensures.items)
    ∙ ap (λ k. Some (made.check_action f k (get_or f.compiled.now.methods m plan))) (sym c.in_ok-check.ensures)
    ∙ ap (λ (p : MethodPlan). Some (made.check_action f check p)) (ap (λ (xs : List MethodPlan). get_or xs m plan) (sym c.as_slice-2.ensures.items) ∙ sym c.index-as_slice-m.is)
    ∙ ap (λ (s : ActionSchema). Some s) (sym (whole_by-none rule f.compiled.now f.printed.now f.slots f.style c.into_action.result (ap (λ (a : SplitAction). a.spare) c.into_action.ensures) ∙ is))
