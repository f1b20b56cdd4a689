use Rattle.std.proofs.Common.{rules}
use Rattle.order_encoder.proofs.NextSlot.{push_next}
use Rattle.slot_encoder.specs.Made as made
use Rattle.slot_encoder.proofs.initial.push_first.Goals as goal

pub loop-k-preserved : goal.loop-k-preserved
loop-k-preserved c = push_next (made.slot_atom c.args.frame.now) 1 c.loop-k.k c.push.new.self c.loop-k.into c.push-in-loop-k.new.self _ c.loop-k.invariant (search rules) c.in_ok-push-2.ensures.pushed
