use Rattle.std.proofs.Common.{◌∙◌, take_all, refl, sym, ap, subst, arith}
use Rattle.std.proofs.lemmas.Option.{slice_get_read}
use Rattle.std.proofs.lemmas.List.Elements.{Contains-get_or}
use Rattle.std.proofs.lemmas.Grind.{common_steps}
use Rattle.plan_model.specs.declared.networks.Child.{Child}
use Rattle.plan_model.specs.declared.schemas.MethodPlan.{MethodPlan}
use Rattle.bound_calc.specs.stratifier.Links.{IsSubtask}
use Rattle.bound_calc.specs.stratifier.Entered.{AreEntered}
use Rattle.bound_calc.proofs.stratifier.Entering.{entered_none, entered_as, entered_more, no_subtask, subtask_more, subtask_over, no_subtask_of, subtask_of_more}
use Rattle.bound_calc.proofs.stratifier.reach.Walk.enter_next.Goals as goal
use Rattle.bound_calc.proofs.stratifier.reach.Walk.enter_next.Goals.{in-Task+in_ok-enter, in_default}

pub loop-m-init : goal.loop-m-init
loop-m-init c = entered_none _ (no_subtask_of c.args.methods.now c.args.places.now) c.args.self.now

pub loop-child-init : goal.loop-child-init
loop-child-init c = entered_none _ (no_subtask c.as_slice-child-items.result.now) c.loop-m.self

pub enter-requires : goal.enter-requires
enter-requires c =
    let places = c.args.places.now in
    let k = c.loop-m.m-index in
    let plan = c.index-methods-m.result in
    let t = c.in-Task.task in
    let is = slice_get_read c.args.methods.now _ _ plan refl (c.requires.places k 0 c.loop-m-test.true) c.index-methods-m.is in
    let s : IsSubtask c.as_slice-child-items.result.now c.in-Task.task = (c.child-item.result, (c.loop-child.child-index, c.loop-child-test.true, sym c.child-item.is), c.in-Task.is) in
    let l = c.requires.tasks t (_, Contains-get_or places k 0 c.loop-m-test.true, plan, is, subst (λ s. IsSubtask s t) (c.as_slice-child-items.ensures.items ∙ ap (λ (p : MethodPlan). p.schema.children) (sym c.index-methods-m.is)) s) in
    let r = c.loop-m.invariant.room in
    let q = c.loop-child.invariant.room in
    omega arith

pub loop-child-preserved : goal.loop-child-preserved
loop-child-preserved c =
    let children = c.as_slice-child-items.result.now in
    let k = c.loop-child.child-index in
    let item = c.child-item.result in
    let before = c.loop-m.self in
    let head = ap (λ (z : Child). z.head) (sym c.child-item.is) in
    elim c.match-child.branch [
      | in-Task+in_ok-enter w ↦ subst (AreEntered _ before) (sym w.self-is)
          (entered_more (subtask_more children k item c.loop-child-test.true w.in-Task.task (head ∙ w.in-Task.is)) before c.loop-child.self w.enter.new.self c.loop-child.invariant w.in_ok-enter.ensures.entered)
      | in_default w ↦ subst (AreEntered _ before) (sym w.self-is)
          (entered_as (subtask_over children k item c.loop-child-test.true (λ u e. w.in_default.not-Task u (sym head ∙ e))) before c.loop-child.self c.loop-child.invariant)
    ]

pub loop-m-preserved : goal.loop-m-preserved
loop-m-preserved c =
    let places = c.args.places.now in
    let k = c.loop-m.m-index in
    let plan = c.index-methods-m.result in
    let children = c.as_slice-child-items.result.now in
    let is = slice_get_read c.args.methods.now _ _ plan refl (c.requires.places k 0 c.loop-m-test.true) c.index-methods-m.is in
    let whole = take_all c.loop-child.child-index children c.loop-child-test.false in
    entered_more (subtask_of_more c.args.methods.now places k 0 c.loop-m-test.true plan is) c.args.self.now c.loop-m.self c.loop-child.self c.loop-m.invariant
    (subst (λ s. AreEntered (IsSubtask s) c.loop-m.self c.loop-child.self) (whole ∙ (c.as_slice-child-items.ensures.items ∙ ap (λ (p : MethodPlan). p.schema.children) (sym c.index-methods-m.is))) c.loop-child.invariant)

pub offset_bounds-places-m-index : goal.offset_bounds-places-m-index
offset_bounds-places-m-index c = grind (arith, common_steps)

pub offset_bounds-methods-m : goal.offset_bounds-methods-m
offset_bounds-methods-m c = grind (arith, common_steps)

pub bounds-methods-m : goal.bounds-methods-m
bounds-methods-m c = grind (arith, common_steps)

pub returns : goal.returns
returns c = grind (arith, common_steps)
