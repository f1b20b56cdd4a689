use Rattle.std.proofs.Common.{◌≡◌, ap, ◌∙◌, arith}
use Rattle.std.proofs.lemmas.Grind.{common_steps}
use Rattle.plan_model.specs.declared.options.Slots.{Slots}
use Rattle.slot_encoder.specs.Encodings.{whole}
use Rattle.slot_encoder.specs.declared.split_action.SplitAction.{SplitAction}
use Rattle.slot_encoder.specs.Made as made
use Rattle.slot_encoder.proofs.ByRule.{whole_by-none}
use Rattle.slot_encoder.proofs.works.encoded_action.Goals as goal

pub returns : goal.returns
returns c = λ (rule : Slots).
    let f = c.args.frame.now in
    let is : whole c.into_action.result ≡ made.source_action f c.args.a c.args.action.now = grind (arith, common_steps) in
    whole_by-none rule f.compiled.now f.printed.now f.slots f.style c.into_action.result (ap (λ (a : SplitAction). a.spare) c.into_action.ensures) ∙ is
