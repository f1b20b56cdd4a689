use Rattle.std.proofs.Common.{ℕ, All, ◌≡◌, ◌+◌, ◌<◌, List, Option, Some, slice_get, length, get_or, arith, refl, sym, ap, subst, ◌∙◌}
use Rattle.std.proofs.lemmas.Option.{slice_get_read, slice_get-get_or}
use Rattle.std.proofs.lemmas.Grind.{common_steps}
use Rattle.bound_calc.specs.declared.stratifier.edge.Edge.{Edge}
use Rattle.plan_model.specs.declared.schemas.MethodPlan.{MethodPlan}
use Rattle.bound_calc.specs.stratifier.Conditions.{IsOrdered}
use Rattle.bound_calc.proofs.Options.{other}
use Rattle.bound_calc.proofs.stratifier.Lasts.{AreLastsBelow, lasts_more, lasts_all, marked_more, bad_mark, method_within}
use Rattle.bound_calc.proofs.stratifier.bad.bad_marks.Goals as goal

abbrev none : Edge
none = record { method = 0; child = 0 }

pub last_child-requires-clause-ordered : goal.last_child-requires-clause-ordered
last_child-requires-clause-ordered c = subst IsOrdered (sym c.plan-item.is) (subst (λ (ms : List MethodPlan). All IsOrdered ms) (sym c.as_slice-plan-items.ensures.items) c.requires.ordered c.loop-plan.plan-index c.plan-item.result c.loop-plan-test.true)

pub loop-plan-preserved : goal.loop-plan-preserved
loop-plan-preserved c =
    let methods = c.as_slice-plan-items.result.now in
    let k = c.loop-plan.plan-index in
    let plan = c.plan-item.result in
    let is = slice_get_read methods _ k plan refl c.loop-plan-test.true c.plan-item.is in
    subst (AreLastsBelow methods (k + 1)) (sym {A = List (Option ℕ)} c.in_ok-push.ensures.items) (lasts_more methods k c.loop-plan.lasts.items plan c.in_ok-last_child.field-0 is c.in_ok-last_child.ensures.last c.loop-plan.invariant)

pub loop-edge-preserved : goal.loop-edge-preserved
loop-edge-preserved c =
    let edges = c.args.edges.now in
    let items = c.as_slice-edge-items.result.now in
    let same = c.as_slice-edge-items.ensures.items in
    let lasts = lasts_all c.as_slice-plan-items.result.now c.loop-plan.plan-index c.loop-plan.lasts.items (omega (arith, c.loop-plan.auto.plan-index-end, c.loop-plan-test.false)) c.loop-plan.invariant in
    let k = c.loop-edge.edge-index in
    let edge = get_or items k none in
    let is : slice_get edges k ≡ Some edge = ap (λ s. slice_get s k) (sym same) ∙ slice_get-get_or items k none c.loop-edge-test.true in
    let l : edge.method < length c.args.c.now.methods = subst (λ s. (get_or s k none).method < length c.args.c.now.methods) (sym same) (method_within c.args.c.now edges c.requires.edges k none (subst (λ s. k < length s) same c.loop-edge-test.true)) in
    let last = slice_get_read c.loop-plan.lasts.items _ edge.method c.index.result.now (let r = lasts.room in sym r) (subst (λ ms. edge.method < length ms) (sym c.as_slice-plan-items.ensures.items) l) c.index.ensures in
    let bad = bad_mark c.args.c.now edge _ c.loop-plan.lasts.items c.index.result.now c.requires.ordered c.as_slice-plan-items.ensures.items l lasts last in
    let told = other c.index.result.now edge.child in
    marked_more c.args.c.now edges k c.loop-edge.marks c.push-in-loop-edge.new.self edge c.ne.result is
    ((λ t. bad.0 (told.0 (sym c.ne.ensures ∙ t))), (λ b. c.ne.ensures ∙ told.1 (bad.1 b))) c.loop-edge.invariant c.in_ok-push-2.ensures.pushed

pub index-requires : goal.index-requires
index-requires c =
    let same = c.as_slice-edge-items.ensures.items in
    let lasts = lasts_all c.as_slice-plan-items.result.now c.loop-plan.plan-index c.loop-plan.lasts.items (omega (arith, c.loop-plan.auto.plan-index-end, c.loop-plan-test.false)) c.loop-plan.invariant in
    let k = c.loop-edge.edge-index in
    let l : (get_or c.as_slice-edge-items.result.now k none).method < length c.args.c.now.methods = subst (λ s. (get_or s k none).method < length c.args.c.now.methods) (sym same) (method_within c.args.c.now c.args.edges.now c.requires.edges k none (subst (λ s. k < length s) same c.loop-edge-test.true)) in
    let r = lasts.room in
    let m = ap length c.as_slice-plan-items.ensures.items in
    let v = c.loop-plan.lasts.ok.0 in
    omega arith

pub loop-edge-init : goal.loop-edge-init
loop-edge-init c = grind (arith, common_steps)

pub offset_bounds-edge-items-edge-index : goal.offset_bounds-edge-items-edge-index
offset_bounds-edge-items-edge-index c = grind (arith, common_steps)

pub returns : goal.returns
returns c = grind (arith, common_steps)
