use Rattle.std.proofs.Common.{◌++◌, ap, subst, ◌∙◌}
use Rattle.slot_encoding.specs.EncodedValue.{AreGuardAtoms}
use Rattle.slot_encoder.specs.Made as made
use Rattle.slot_encoder.proofs.initial.encoded_initial.Goals as goal

pub returns : goal.returns
returns c =
    let t = c.in_ok-push_guards.ensures in
    (t.0, subst (λ tys. AreGuardAtoms c.args.frame.now.compiled.now c.args.frame.now.printed.now c.args.frame.now.slots c.args.frame.now.style tys t.0) (c.as_slice.ensures.items ∙ c.requires.frame.guard_types) t.1, t.2 ∙ ap (λ z. z ++ t.0) (c.in_ok-push_first.ensures ∙ ap (λ z. z ++ made.first_atoms c.args.frame.now) c.new-into.ensures.none))
