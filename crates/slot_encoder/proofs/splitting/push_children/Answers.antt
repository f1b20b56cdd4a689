use Rattle.std.proofs.Common.{arith}
use Rattle.std.proofs.lemmas.Grind.{common_steps}
use Rattle.slot_encoder.proofs.Splits.{children_done}
use Rattle.slot_encoder.proofs.splitting.push_children.Goals as goal

pub returns : goal.returns
returns c = children_done c.args.frame.now c.args.front c.args.check c.args.slots.now c.args.children.now c.loop-child.child-index c.loop-child.into _ c.loop-child-test.false c.loop-child.invariant.into

pub loop-child-preserved : goal.loop-child-preserved
loop-child-preserved c = grind (arith, common_steps)
