use Rattle.std.proofs.Common.{ap, length, arith}
use Rattle.kept_front.proofs.AllLater.{next_made, all_later}
use Rattle.kept_front.proofs.later.Later.all.Goals as goal

pub loop-plan-preserved : goal.loop-plan-preserved
loop-plan-preserved c =
    next_made c.args.c.now.methods c.as_slice-plan-items.result.now c.loop-plan.plan-index c.loop-plan.laters c.put.new.self c.plan-item.result c.of.result
    c.as_slice-plan-items.ensures.items c.loop-plan.invariant c.loop-plan-test.true c.plan-item.is c.of.ensures.later c.in_ok-put.ensures.put

pub returns : goal.returns
returns c =
    let e = ap length c.as_slice-plan-items.ensures.items in
    let t = c.loop-plan-test.false in
    all_later c.args.c.now c.loop-plan.plan-index c.loop-plan.laters c.requires.pairs (omega arith) c.loop-plan.invariant
