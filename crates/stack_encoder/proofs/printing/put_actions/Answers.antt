use Rattle.std.proofs.Common.{arith}
use Rattle.stack_encoder.proofs.Putting.{actions-next}
use Rattle.stack_encoder.proofs.printing.put_actions.Goals as goal

pub loop-k-preserved : goal.loop-k-preserved
loop-k-preserved c =
    actions-next c.args.c.now c.args.encoding.now c.loop-k.k c.in_ok-action.action (let k = c.loop-k-test.true in let e = c.count-k-end.ensures.count in omega (arith, k, e)) c.loop-k.invariant c.in_ok-action.ensures.action c.put_action.ensures.put
