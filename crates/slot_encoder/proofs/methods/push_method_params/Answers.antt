use Rattle.std.proofs.Common.{ap, ◌∙◌, arith}
use Rattle.std.proofs.lemmas.Grind.{common_steps}
use Rattle.order_encoder.proofs.NextSlot.{push_next}
use Rattle.slot_encoder.specs.Made as made
use Rattle.htn_base.specs.declared.name.Name.{Name}
use Rattle.slot_encoding.specs.EncodedNames.{slot_type}
use Rattle.slot_encoder.proofs.methods.push_method_params.Goals as goal

pub loop-k-preserved : goal.loop-k-preserved
loop-k-preserved c = push_next (made.new_slot c.args.frame.now) 1 c.loop-k.k c.push.new.self c.loop-k.into c.push-in-loop-k.new.self c.slot_param-in-loop-k.result c.loop-k.invariant (c.slot_param-in-loop-k.ensures ∙ ap (λ (n : Name). record { name = n; ty = slot_type }) c.in_ok-numbered.ensures) c.in_ok-push-2.ensures.pushed

pub returns : goal.returns
returns c = grind (arith, common_steps)
