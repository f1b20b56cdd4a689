use Rattle.order_encoder.proofs.NextSlot.{put_next}
use Rattle.slot_encoder.specs.Made as made
use Rattle.slot_encoder.proofs.goals.push_all_free.Goals as goal

pub loop-k-preserved : goal.loop-k-preserved
loop-k-preserved c = put_next (made.slot_free c.args.frame.now) c.args.frame.now.basis.now.order.first_slot c.loop-k.k c.args.into.now c.loop-k.into c.put-in-loop-k.new.self c.free.result c.loop-k.invariant c.free.ensures c.in_ok-put-in-Flat.ensures.put
