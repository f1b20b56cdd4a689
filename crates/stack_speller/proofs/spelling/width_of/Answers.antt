use Rattle.std.proofs.Common.{◌≡◌, max, ◌∙◌, arith}
use Rattle.stack_speller.proofs.OneMore.{next_tip_is, next_width}
use Rattle.stack_speller.proofs.spelling.width_of.Goals as goal
use Rattle.stack_speller.proofs.spelling.width_of.Goals.{then-tip-width, else-tip-width}

pub loop-node-preserved : goal.loop-node-preserved
loop-node-preserved c =
    let rows = c.args.run.now.tree in
    let order = c.as_slice-order.result.now in
    let n = c.loop-node.node-index in
    let less = c.loop-node-test.true in
    let tip = c.loop-node.tip in
    let width = c.loop-node.width in
    let more : c.if-tip-width.width ≡ max width tip = elim c.if-tip-width.branch [
      | then-tip-width w ↦ w.width-is ∙ (let l = w.if-tip-width.true in let e : tip ≡ max width tip = grind arith in e)
      | else-tip-width w ↦ w.width-is ∙ (let l = w.if-tip-width.false in let e : width ≡ max width tip = grind arith in e)
    ] in
    record {
      tip =
          next_tip_is c.args.c.now rows order n less tip c.in_ok-next.next c.child_count-children.result c.loop-node.invariant.tip
          c.child_count-children.ensures.count c.in_ok-next.ensures.next;
      width =
          next_width c.args.c.now rows order n less tip width c.if-tip-width.width c.loop-node.invariant.tip c.loop-node.invariant.width
          more;
    }
