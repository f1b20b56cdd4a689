use Rattle.stack_speller.proofs.OneMore.{next_tip_is, next_step}
use Rattle.stack_speller.proofs.spelling.put_each.Goals as goal

pub loop-node-preserved : goal.loop-node-preserved
loop-node-preserved c =
    let rows = c.args.run.now.tree in
    let order = c.as_slice-order.result.now in
    let n = c.loop-node.node-index in
    let less = c.loop-node-test.true in
    record {
      tip =
          next_tip_is c.args.c.now rows order n less c.loop-node.tip c.in_ok-next.next c.child_count-children.result
          c.loop-node.invariant.tip c.child_count-children.ensures.count c.in_ok-next.ensures.next;
      steps =
          next_step c.args.c.now rows order n less c.loop-node.tip c.loop-node.invariant.tip c.loop-node.invariant.steps
          c.put_step.ensures.step;
    }
