use Rattle.std.proofs.Common.{sym, subst, ◌∙◌}
use Rattle.std.proofs.lemmas.Bool.{true≢false}
use Rattle.plan_model.specs.Typing.{InType}
use Rattle.plan_model.specs.plan_meaning.Truth.{AreTyped}
use Rattle.value_choices.specs.Only.{AreAllKnown}
use Rattle.value_choices.proofs.KnownAlone.{known_only, known_never}
use Rattle.value_choices.proofs.only.only_values.Goals as goal

pub returns-then-are_typed : goal.returns-then-are_typed
returns-then-are_typed c = record {
  only = known_only (InType c.args.world.now.types.now c.args.world.now.objects.now) c.args.params.now c.args.known.now c.in-Some.values
      (subst (AreAllKnown c.args.known.now) c.in-Some.is c.in_ok-values.ensures)
      (subst (AreTyped (InType c.args.world.now.types.now c.args.world.now.objects.now) c.args.params.now) c.as_slice.ensures.items
      (c.are_typed.ensures.0 c.if-are_typed.true));
}

pub returns : goal.returns
returns c = record {
  only = known_never (InType c.args.world.now.types.now c.args.world.now.objects.now) c.args.params.now c.args.known.now c.in-Some.values
      (subst (AreAllKnown c.args.known.now) c.in-Some.is c.in_ok-values.ensures)
      (λ t. true≢false (sym (c.are_typed.ensures.1 (subst (AreTyped (InType c.args.world.now.types.now c.args.world.now.objects.now)
      c.args.params.now) (sym c.as_slice.ensures.items) t)) ∙ c.if-are_typed.false));
}
