use Rattle.gap_pass.proofs.PassParts.{one_own}
use Rattle.gap_pass.proofs.latest.own_gaps.Goals as goal

pub loop-number-preserved : goal.loop-number-preserved
loop-number-preserved c = one_own c.args.size c.args.actions.now c.loop-number.number c.loop-number.own.items c.put_own.new.own.items
    c.loop-number-test.true c.put_own.ensures c.loop-number.invariant
