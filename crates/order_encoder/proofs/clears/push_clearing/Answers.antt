use Rattle.plan_model.specs.declared.terms.Term.TheVariants.{Obj}
use Rattle.order_encoder.specs.NamedOrders as of
use Rattle.order_encoder.proofs.NextSlot.{put_next}
use Rattle.order_encoder.proofs.clears.push_clearing.Goals as goal

pub loop-k-preserved : goal.loop-k-preserved
loop-k-preserved c = put_next (λ o. of.one_clear c.args.n.now c.args.h (Obj o)) c.args.n.now.first_slot c.loop-k.k c.args.into.now c.loop-k.into c.put-in-loop-k.new.self c.clear_one.result c.loop-k.invariant c.clear_one.ensures c.in_ok-put-in-Flat.ensures.put
