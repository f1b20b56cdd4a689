use Rattle.std.proofs.Common.{◌≡◌, Some, slice_get, ap, sym, ◌∙◌}
use Rattle.std.proofs.lemmas.Result.{IfOk-weaker}
use Rattle.plan_model.specs.declared.schemas.ActionSchema.{ActionSchema}
use Rattle.slot_encoder.specs.Encodings.{whole, all_actions}
use Rattle.slot_encoder.proofs.ActionPlaces.{take_put}
use Rattle.slot_encoder.proofs.WholeValues.{any_whole}
use Rattle.slot_encoder.proofs.encoding.Encoding.actions.Goals as goal

pub loop-k-preserved : goal.loop-k-preserved
loop-k-preserved c = take_put (all_actions c.args.c.now c.args.self.now) c.loop-k.k c.loop-k.into c.put.new.self c.whole.result c.loop-k.invariant
    (IfOk-weaker c.whole.result (λ (a : ActionSchema). a ≡ whole c.in_ok-action.action) (λ a. slice_get (all_actions c.args.c.now c.args.self.now) c.loop-k.k ≡ Some a) (λ a g. c.in_ok-action.ensures.action ∙ any_whole c.args.c.now c.args.self.now c.requires.any c.in_ok-action.action ∙ ap Some (sym g)) c.whole.ensures)
    c.in_ok-put.ensures.put
