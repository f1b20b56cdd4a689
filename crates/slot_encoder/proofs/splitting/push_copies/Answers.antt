use Rattle.std.proofs.Common.{rules, ◌≡◌, ◌++◌, get_or}
use Rattle.slot_encoder.specs.Made as made
use Rattle.slot_encoder.proofs.Splits.{flat_next}
use Rattle.slot_encoder.proofs.splitting.push_copies.Goals as goal

pub loop-child-preserved : goal.loop-child-preserved
loop-child-preserved c =
    let copied = made.copied c.args.frame.now c.args.depth c.args.slots.now in
    let put : c.push_copying.new.into ≡ c.loop-child.into ++ copied (get_or c.args.copiers.now c.loop-child.child-index 0) = search rules in
    flat_next copied c.args.copiers.now c.loop-child.child-index 0 c.args.into.now c.loop-child.into c.push_copying.new.into c.loop-child-test.true c.loop-child.invariant put
