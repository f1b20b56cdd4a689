use Rattle.plan_model.specs.declared.terms.Term.TheVariants.{Obj}
use Rattle.order_encoder.specs.NamedOrders as of
use Rattle.order_encoder.proofs.NextSlot.{put_next}
use Rattle.order_encoder.proofs.copies.push_copying.Goals as goal

pub loop-k-preserved : goal.loop-k-preserved
loop-k-preserved c = put_next (λ o. of.one_copy c.args.n.now c.args.h c.args.child (Obj o)) c.args.n.now.first_slot c.loop-k.k c.args.into.now c.loop-k.into c.put-in-loop-k.new.self c.copy_one.result c.loop-k.invariant c.copy_one.ensures c.in_ok-put-in-Flat.ensures.put
