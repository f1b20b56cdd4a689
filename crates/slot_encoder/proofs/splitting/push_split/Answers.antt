use Rattle.std.proofs.Common.{rules, arith}
use Rattle.std.proofs.lemmas.Grind.{common_steps}
use Rattle.order_encoder.proofs.NextSlot.{put_next}
use Rattle.plan_model.specs.declared.effects.Effect.TheVariants as E
use Rattle.slot_encoder.specs.Made as made
use Rattle.slot_encoder.proofs.splitting.push_split.Goals as goal

pub loop-k-preserved : goal.loop-k-preserved
loop-k-preserved c = put_next (λ v. E.Delete (made.is_free c.args.frame.now v)) 1 c.loop-k.k c.args.into.now c.loop-k.into c.put.new.self c.map.result c.loop-k.invariant (search rules) c.in_ok-put.ensures.put

pub returns : goal.returns
returns c = grind (arith, common_steps)
