use Rattle.std.proofs.Common.{◌<◌, refl, sym, ◌∙◌, arith}
use Rattle.std.proofs.lemmas.Bool.{true≢false}
use Rattle.plan_model.specs.declared.terms.Param.{Param}
use Rattle.plan_model.specs.Typing.{InType}
use Rattle.value_choices.proofs.TypedObjects.{typed_length, typed_at, typed_more, typed_all}
use Rattle.value_choices.proofs.declared.are_typed.Goals as goal

abbrev none : Param
none = record { name = record { number = 0 }; ty = 0 }

pub returns-then-params-objects : goal.returns-then-params-objects
returns-then-params-objects c = (
  λ t. absurd (true≢false (sym t)),
  λ t. absurd (c.if-params-objects.true (sym (typed_length (InType c.args.world.now.types.now c.args.world.now.objects.now)
      c.args.params.now c.args.objects.now t))),
)

pub returns-then-not-has : goal.returns-then-not-has
returns-then-not-has c = (
  λ t. absurd (true≢false (sym t)),
  λ t. absurd (true≢false (sym (c.has.ensures.1 (typed_at (InType c.args.world.now.types.now c.args.world.now.objects.now)
      c.args.params.now c.args.objects.now c.loop-i.i none c.loop-i-test.true t)) ∙ c.if-not-has.true)),
)

pub loop-i-preserved : goal.loop-i-preserved
loop-i-preserved c = typed_more (InType c.args.world.now.types.now c.args.world.now.objects.now) c.args.params.now c.args.objects.now
    c.loop-i.i none c.loop-i-test.true (c.has.ensures.0 c.if-not-has.false) c.loop-i.invariant

pub returns : goal.returns
returns c =
    let all = c.loop-i-test.false in (
      λ t. typed_all (InType c.args.world.now.types.now c.args.world.now.objects.now) c.args.params.now c.args.objects.now
          c.if-params-objects.false
          (λ k d l. c.loop-i.invariant k d (let z : k < c.loop-i.i = omega arith in z)),
      λ t. refl,
    )
