use Rattle.std.proofs.Common.{sym, subst, ◌∙◌}
use Rattle.std.proofs.lemmas.Bool.{true≢false}
use Rattle.plan_model.specs.Typing.{InType}
use Rattle.value_choices.specs.Meeting.{AreMet}
use Rattle.value_choices.proofs.Choosing.{coming_next, never}
use Rattle.value_choices.proofs.meeting.first_of_many.Goals as goal

pub returns-then-not-advance : goal.returns-then-not-advance
returns-then-not-advance c = record {
  first = never (InType c.args.world.now.types.now c.args.world.now.objects.now) c.args.params.now c.args.constraints.now c.args.known.now
      c.tried.choice c.tried.invariant
      (λ m. true≢false (sym (c.meets.ensures.1 (subst (AreMet c.args.constraints.now) (sym c.values.ensures.values) m))
      ∙ c.tried-test.true)) c.if-not-advance.ensures.moved;
}

pub tried-preserved : goal.tried-preserved
tried-preserved c = coming_next (InType c.args.world.now.types.now c.args.world.now.objects.now) c.args.params.now c.args.constraints.now
    c.args.known.now c.tried.choice c.tried.invariant
    (λ m. true≢false (sym (c.meets.ensures.1 (subst (AreMet c.args.constraints.now) (sym c.values.ensures.values) m))
    ∙ c.tried-test.true)) c.advance.new.self c.advance.ensures.kept c.advance.ensures.choice
    c.if-not-advance.ensures.moved
