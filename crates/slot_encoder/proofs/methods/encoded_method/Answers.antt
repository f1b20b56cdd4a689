use Rattle.std.proofs.Common.{List, get_or, Some, ◌≡◌, ◌++◌, ap, sym, ◌∙◌, arith}
use Rattle.plan_model.specs.declared.options.Slots.{Slots}
use Rattle.plan_model.specs.declared.schemas.ActionSchema.{ActionSchema}
use Rattle.plan_model.specs.declared.schemas.MethodPlan.{MethodPlan}
use Rattle.slot_encoder.specs.declared.split_action.Parts.{Parts}
use Rattle.slot_encoder.specs.Encodings.{whole_by}
use Rattle.slot_encoding.specs.SourceParts as parts
use Rattle.slot_encoder.specs.Made as made
use Rattle.slot_encoder.proofs.ActionPlaces.{method_by, method-at}
use Rattle.slot_encoder.proofs.ByRule.{method-split}
use Rattle.slot_encoder.proofs.Splits.{method_change-at, method_word_first, method_word_later}
use Rattle.slot_encoder.proofs.methods.encoded_method.Goals as goal
use Rattle.slot_encoder.proofs.methods.encoded_method.Goals.{in-0, in_default+in_ok-name-in_default}

pub returns : goal.returns
returns c = λ (rule : Slots).
    let f = c.args.frame.now in
    let m = c.args.m in
    let plan = c.index-as_slice-m.result in
    let check = c.in_ok-check.check in
    let v = c.in_ok-variables.variables in
    let p = c.push_parts.new.into in
    let h = c.in_ok-push_parts.ensures in
    let none = c.new-parts.ensures in
    let named : c.match-m.name ≡ made.method_name f m plan = elim c.match-m.branch [
      | in-0 w ↦ w.name-is ∙ w.named-name.ensures ∙ ap (parts.name f.printed.now) (sym (method_word_first f m plan m w.in-0.is))
      | in_default+in_ok-name-in_default w ↦ w.name-is ∙ w.in_ok-name-in_default.ensures ∙ ap (parts.name f.printed.now) (sym (method_word_later f m plan m (let other = w.in_default in omega arith)))
    ] in
    let is : whole_by rule f.compiled.now f.printed.now f.slots f.style c.into_action.result ≡ method_by f.compiled.now f.printed.now f.slots f.style rule m plan =
    ap (whole_by rule f.compiled.now f.printed.now f.slots f.style) c.into_action.ensures
    ∙ method-split f m plan rule c.match-m.name v.spare v.front p named
    (h.params ∙ ap (λ (q : Parts). q.params ++ made.method_params f plan) none)
    c.in_ok-variables.ensures.spare c.in_ok-variables.ensures.front
    (h.before ∙ ap (λ (q : Parts). q.before ++ made.method_before f plan) none)
    (h.behind ∙ ap (λ (q : Parts). q.behind ++ made.method_behind f v.front plan) none)
    (h.effects ∙ ap (λ (q : Parts). q.effects ++ made.method_eff f check plan) none ∙ method_change-at f m plan check plan.schema.children c.in_ok-check.ensures) in
    method-at f.compiled.now f.printed.now f.slots f.style rule m plan c.requires.some
    ∙ ap (λ (q : MethodPlan). Some (method_by f.compiled.now f.printed.now f.slots f.style rule m q)) (ap (λ (xs : List MethodPlan). get_or xs m plan) (sym c.as_slice.ensures.items) ∙ sym c.index-as_slice-m.is)
    ∙ ap (λ (s : ActionSchema). Some s) (sym is)
