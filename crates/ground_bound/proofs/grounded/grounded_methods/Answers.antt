use Rattle.std.proofs.Common.{◌≡◌, List, Some, None, slice_get, take_all, ap, sym, subst, ◌∙◌}
use Rattle.std.specs.List.{AllZip}
use Rattle.std.specs.Option.{option_copied}
use Rattle.std.proofs.lemmas.Option.{slice_get-get_or}
use Rattle.plan_model.specs.declared.schemas.MethodPlan.{MethodPlan}
use Rattle.ground_bound.specs.Grounded.{IsGroundedMethod, IsGroundedRow}
use Rattle.ground_bound.specs.MethodRows.{row, ground}
use Rattle.ground_bound.specs.declared.in_order.MethodRow.{MethodRow}
use Rattle.ground_bound.proofs.GroundedRows.{plan_at, its_plan}
use Rattle.ground_bound.proofs.Places.{zip_put, zip_map, if_ok_then}
use Rattle.ground_bound.proofs.grounded.grounded_methods.Goals as goal

pub grounded_method-requires-clause-listed : goal.grounded_method-requires-clause-listed
grounded_method-requires-clause-listed c =
    let methods = c.args.methods.now in
    let k = c.loop-it.it-index in
    let it = c.it-item.result in
    let at : slice_get methods k ≡ Some it = slice_get-get_or methods k it c.loop-it-test.true ∙ ap Some (sym c.it-item.is) in
    its_plan c.args.c.now c.args.tasks.now methods c.requires.listed k it at c.in-Some.plan.now (sym c.get.ensures.item ∙ ap option_copied c.in-Some.is)

pub unreachable-requires : goal.unreachable-requires
unreachable-requires c =
    let methods = c.args.methods.now in
    let k = c.loop-it.it-index in
    let it = c.it-item.result in
    let at : slice_get methods k ≡ Some it = slice_get-get_or methods k it c.loop-it-test.true ∙ ap Some (sym c.it-item.is) in
    let (plan, e, h) = plan_at c.args.c.now c.args.tasks.now methods c.requires.listed k it at in
    let none : None ≡ Some plan = sym (ap option_copied c.in-None.is) ∙ c.get.ensures.item ∙ e in
    absurd cc

pub loop-it-preserved : goal.loop-it-preserved
loop-it-preserved c =
    let methods = c.args.methods.now in
    let k = c.loop-it.it-index in
    let it = c.it-item.result in
    let plan = c.in-Some.plan.now in
    let at : slice_get methods k ≡ Some it = slice_get-get_or methods k it c.loop-it-test.true ∙ ap Some (sym c.it-item.is) in
    let is : slice_get c.args.c.now.methods it.number ≡ Some plan = sym c.get.ensures.item ∙ ap option_copied c.in-Some.is in
    zip_put (λ (x : MethodRow) (p : MethodPlan). IsGroundedRow c.args.c.now c.args.tasks.now (row x) p) methods c.loop-it.plans c.put.new.self k it c.grounded_method.result at c.loop-it.invariant
    c.in_ok-put-in-Some.ensures.put
    (if_ok_then c.grounded_method.result (IsGroundedMethod c.args.tasks.now (ground it) plan) (IsGroundedRow c.args.c.now c.args.tasks.now (row it)) (λ p g. (plan, is, g)) c.grounded_method.ensures.grounded)

pub returns : goal.returns
returns c =
    let methods = c.args.methods.now in
    record {
      grounded = zip_map (IsGroundedRow c.args.c.now c.args.tasks.now) row methods c.loop-it.plans
          (subst (λ (xs : List MethodRow). AllZip (λ (x : MethodRow) (p : MethodPlan). IsGroundedRow c.args.c.now c.args.tasks.now (row x) p) xs c.loop-it.plans) (take_all c.loop-it.it-index methods c.loop-it-test.false) c.loop-it.invariant);
    }
