use Rattle.std.proofs.Common.{subst}
use Rattle.plan_model.specs.declared.schemas.MethodPlan.{MethodPlan}
use Rattle.ground_state.specs.Needs.{HasRoomWithin, IsEnoughWithin}
use Rattle.ground_state.proofs.NeedLaws as laws
use Rattle.ground_state.proofs.need.Need.with_methods.Goals as goal

pub loop-plan-preserved : goal.loop-plan-preserved
loop-plan-preserved c =
    let before = c.loop-plan.need in
    let need = c.in_ok-need.need in
    let w = c.in_ok-need.ensures.more in (
      laws.within_then c.args.self before need c.loop-plan.invariant.0 w,
      laws.all_more (λ (m : MethodPlan) room arity. HasRoomWithin room arity m.schema.params m.schema.pre) c.args.methods.now c.loop-plan.plan-index c.plan-item.result before need c.loop-plan-test.true c.plan-item.is w c.loop-plan.invariant.1 (subst (λ ps. IsEnoughWithin ps c.plan-item.result.schema.pre c.in_ok-need.need) c.as_slice.ensures.items c.in_ok-need.ensures.enough),
    )

pub returns-clause-enough : goal.returns-clause-enough
returns-clause-enough c = laws.all_of (λ (m : MethodPlan) room arity. HasRoomWithin room arity m.schema.params m.schema.pre) c.args.methods.now c.loop-plan.plan-index c.loop-plan.need c.loop-plan-test.false c.loop-plan.invariant.1
