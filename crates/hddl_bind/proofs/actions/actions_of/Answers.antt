use Rattle.hddl_bind.proofs.Steps.{noted_step, map_step, put_is, if_put}
use Rattle.hddl_bind.specs.Actions.{action_bound, action_faults}
use Rattle.hddl_bind.proofs.actions.actions_of.Goals as goal

pub loop-action-preserved : goal.loop-action-preserved
loop-action-preserved c =
    let xs = c.args.actions.now in
    let i = c.loop-action.action-index in
    let x = c.action-item.result in
    let l = c.loop-action-test.true in
    let known = c.args.known.now in
    let made = c.action_of.result in
    record {
      bound = map_step xs i x x l c.action-item.is (action_bound known) _ _ c.loop-action.invariant.bound (put_is made _ _ _ c.action_of.ensures.bound c.in_ok-put.ensures.put);
      faults = noted_step xs i x x l c.action-item.is (action_faults known) _ _ _ c.loop-action.invariant.faults (if_put made _ c.action_of.ensures.faults c.in_ok-put.ensures.put);
    }
