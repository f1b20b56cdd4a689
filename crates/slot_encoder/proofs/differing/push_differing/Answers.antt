use Rattle.std.proofs.Common.{◌+◌, ◌-◌, ◌++◌, map, ap, ◌∙◌}
use Rattle.plan_model.specs.task_networks.Spelling.{numbers}
use Rattle.slot_encoder.specs.Pieces.{unequal_to}
use Rattle.slot_encoder.proofs.Numbered.{differ_next}
use Rattle.slot_encoding.specs.EncodedActions.{differ}
use Rattle.slot_encoder.proofs.differing.push_differing.Goals as goal

pub loop-i-preserved : goal.loop-i-preserved
loop-i-preserved c = differ_next c.loop-i.i c.args.spare (c.args.into.now ++ differ (numbers 1 c.args.spare)) c.loop-i.into c.push_unequal.new.into c.loop-i-test.true c.loop-i.invariant (c.in_ok-push_unequal.ensures ∙ ap (λ k. c.loop-i.into ++ map (unequal_to (1 + c.loop-i.i)) (numbers k (c.args.spare - 1 - c.loop-i.i))) c.in_ok-plus.ensures)
