use Rattle.plan_model.specs.declared.schemas.ActionSchema.{ActionSchema}
use Rattle.ground_state.specs.Needs.{HasRoom}
use Rattle.ground_state.proofs.NeedLaws as laws
use Rattle.ground_state.proofs.need.Need.with_actions.Goals as goal

pub loop-action-preserved : goal.loop-action-preserved
loop-action-preserved c =
    let before = c.loop-action.need in
    let need = c.in_ok-need.need in
    let w = c.in_ok-need.ensures.more in (
      laws.within_then c.args.self before need c.loop-action.invariant.0 w,
      laws.all_more (λ (a : ActionSchema) room arity. HasRoom room arity a) c.args.actions.now c.loop-action.action-index c.action-item.result before need c.loop-action-test.true c.action-item.is w c.loop-action.invariant.1 c.in_ok-need.ensures.enough,
    )

pub returns-clause-enough : goal.returns-clause-enough
returns-clause-enough c = laws.all_of (λ (a : ActionSchema) room arity. HasRoom room arity a) c.args.actions.now c.loop-action.action-index c.loop-action.need c.loop-action-test.false c.loop-action.invariant.1
