use Rattle.std.proofs.Common.{◌≡◌, Some, slice_get, arith}
use Rattle.std.proofs.lemmas.Result.{IfOk-weaker}
use Rattle.plan_model.specs.declared.options.Slots.{Slots}
use Rattle.plan_model.specs.declared.options.Slots.TheVariants.{Any}
use Rattle.slot_encoder.specs.Rules as rules
use Rattle.slot_encoder.specs.Encodings.{whole_by}
use Rattle.slot_encoder.specs.declared.split_action.SplitAction.{SplitAction}
use Rattle.slot_encoder.proofs.ActionPlaces.{actions-length}
use Rattle.slot_encoder.proofs.encoding.Encoding.action.Goals as goal

pub action_at-requires-clause-some : goal.action_at-requires-clause-some
action_at-requires-clause-some c =
    let e = c.args.self.now in
    omega (arith, c.requires.some, actions-length c.args.c.now e.names e.slots e.style e.rule, actions-length c.args.c.now e.names e.slots e.style Any)

pub returns : goal.returns
returns c =
    let e = c.args.self.now in
    let Is = λ (rule : Slots) (a : SplitAction). slice_get (rules.actions rule c.args.c.now e.names e.slots e.style) c.args.k ≡ Some (whole_by rule c.args.c.now e.names e.slots e.style a) in
    record { action = IfOk-weaker c.action_at.result (λ a. (rule : Slots) → Is rule a) (Is e.rule) (λ a is. is e.rule) c.action_at.ensures }
