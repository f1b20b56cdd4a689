use Rattle.std.proofs.Common.{ap}
use Rattle.order_encoder.proofs.NextSlot.{push_next}
use Rattle.plan_model.specs.declared.formulas.Formula.TheVariants as F
use Rattle.slot_encoder.specs.Pieces.{unequal_to}
use Rattle.slot_encoder.proofs.differing.push_unequal.Goals as goal

pub loop-k-preserved : goal.loop-k-preserved
loop-k-preserved c = push_next (unequal_to c.args.slot) c.args.first c.loop-k.k c.args.into.now c.loop-k.into c.push.new.self _ c.loop-k.invariant (ap F.Not c.in_ok-new.ensures.value) c.in_ok-push.ensures.pushed
