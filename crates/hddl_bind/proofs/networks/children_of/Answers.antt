use Rattle.hddl_bind.specs.Networks.{child_bound, child_faults}
use Rattle.hddl_bind.proofs.Steps.{noted_step, map_step, put_is, if_put}
use Rattle.hddl_bind.proofs.networks.children_of.Goals as goal

pub loop-sub-preserved : goal.loop-sub-preserved
loop-sub-preserved c =
    let xs = c.args.subs.now in
    let i = c.loop-sub.sub-index in
    let x = c.sub-item.result in
    let l = c.loop-sub-test.true in
    let d = c.args.callables.now in
    let objects = c.args.objects.now in
    let scope = c.args.scope.now in
    let made = c.child_of.result in
    record {
      bound = map_step xs i x x l c.sub-item.is (child_bound d objects scope) _ _ c.loop-sub.invariant.bound (put_is made _ _ _ c.child_of.ensures.bound c.in_ok-put.ensures.put);
      faults = noted_step xs i x x l c.sub-item.is (child_faults d objects scope) _ _ _ c.loop-sub.invariant.faults (if_put made _ c.child_of.ensures.faults c.in_ok-put.ensures.put);
    }
