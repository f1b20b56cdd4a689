use Rattle.std.proofs.Common.{[], refl, sym, subst, map, length, get_or, ap, ◌∙◌, ◌++◌}
use Rattle.std.proofs.lemmas.List.{append-nil, take_all}
use Rattle.plan_model.proofs.PartsOf.{in_type_within}
use Rattle.plan_model.specs.plan_meaning.Network.{InTypeOf}
use Rattle.slot_encoding.specs.EncodedValue.{atom}
use Rattle.slot_encoder.specs.Made as made
use Rattle.slot_encoder.proofs.GuardAtoms.{guards_next}
use Rattle.slot_encoder.proofs.KeptNumbers.{keeps_members}
use Rattle.slot_encoder.proofs.initial.push_guards.Goals as goal

pub loop-ty-init : goal.loop-ty-init
loop-ty-init c = ([], refl, sym (append-nil c.args.into.now))

pub loop-ty-preserved : goal.loop-ty-preserved
loop-ty-preserved c =
    let own = c.args.frame.now.compiled.now in
    let ty = get_or c.args.types.now c.loop-ty.ty-index 0 in
    let listed = c.in_ok-listed.listed in
    guards_next c.args.frame.now c.args.types.now c.loop-ty.ty-index c.args.into.now c.loop-ty.into c.push_atoms.new.into c.loop-ty-test.true c.loop-ty.invariant (
      listed,
      keeps_members (λ o. InTypeOf own o ty) (length own.hddl.objects) listed c.in_ok-listed.ensures.in_order c.in_ok-listed.ensures.members
          (λ x t. in_type_within own.hddl.types own.hddl.objects ty x t),
      c.in_ok-push_atoms.ensures ∙ ap (λ os. c.loop-ty.into ++ map (atom c.in_ok-predicate.predicate) os) c.as_slice.ensures.items ∙ ap (λ p. c.loop-ty.into ++ map (atom p) listed) c.in_ok-predicate.ensures,
    )

pub returns : goal.returns
returns c = subst (λ tys. made.AddsGuardAtoms c.args.frame.now tys c.args.into.now c.loop-ty.into) (take_all c.loop-ty.ty-index c.args.types.now c.loop-ty-test.false) c.loop-ty.invariant
