use Rattle.std.proofs.Common.{ap}
use Rattle.htn_base.specs.declared.name.Name.{Name}
use Rattle.order_encoder.proofs.NextSlot.{push_next}
use Rattle.slot_encoding.specs.EncodedNames.{object_type}
use Rattle.slot_encoding.specs.slot_declarations.Made as made
use Rattle.slot_encoding.proofs.slot_declarations.predicates.held.Goals as goal

pub loop-k-preserved : goal.loop-k-preserved
loop-k-preserved c =
    push_next (made.argument c.args.frame.now) 1 c.loop-k.k c.push.new.self c.loop-k.params c.push-in-loop-k.new.self (record { name = c.in_ok-numbered.field-0; ty = object_type }) c.loop-k.invariant
    (ap (λ (n : Name). record { name = n; ty = object_type }) c.in_ok-numbered.ensures) c.in_ok-push-2.ensures.pushed
