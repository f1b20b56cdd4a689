use Rattle.std.proofs.Common.{List, sym, subst}
use Rattle.std.specs.Option.{option_map}
use Rattle.plan_model.specs.Typing.{InType}
use Rattle.value_choices.specs.declared.range.Range.{Range}
use Rattle.value_choices.specs.Ranges.{AreTheLeast, AreIncreasing, AreLeast, AreAmong}
use Rattle.value_choices.proofs.Beginning.{begins}
use Rattle.value_choices.proofs.Ranged.{ranges_increasing}
use Rattle.value_choices.proofs.Typed.{among_can_be}
use Rattle.value_choices.proofs.choice.Choice.first.Goals as goal

pub least-requires : goal.least-requires
least-requires c = record {
  increasing = subst AreIncreasing (sym c.as_slice.ensures.value)
      (ranges_increasing (InType c.args.world.now.types.now c.args.world.now.objects.now) c.args.params.now c.args.known.now
      c.in_ok-ranges.ranges.items c.in_ok-ranges.ensures.as_many c.in_ok-ranges.ensures.ranges);
}

pub returns-in-Some : goal.returns-in-Some
returns-in-Some c =
    let least : AreLeast c.as_slice.result.now c.in-Some.values.items = subst
    (λ f. AreTheLeast c.as_slice.result.now (option_map (λ values. values.items) f)) c.in-Some.is c.in_ok-values.ensures.least in
    record {
      first = begins (InType c.args.world.now.types.now c.args.world.now.objects.now) c.args.params.now c.args.known.now
          (record { ranges = c.in_ok-ranges.ranges; values = c.in-Some.values })
          c.in_ok-ranges.ensures.ranges c.in_ok-ranges.ensures.as_many
          (subst (λ (rs : List Range). AreLeast rs c.in-Some.values.items) c.as_slice.ensures.value least);
    }

pub returns-in-None : goal.returns-in-None
returns-in-None c =
    let none = subst (λ f. AreTheLeast c.as_slice.result.now (option_map (λ values. values.items) f)) c.in-None.is
    c.in_ok-values.ensures.least in
    record {
      first = λ values can. none values (subst (λ (rs : List Range). AreAmong rs values) (sym c.as_slice.ensures.value)
          ((among_can_be (InType c.args.world.now.types.now c.args.world.now.objects.now) c.args.params.now c.args.known.now
          c.in_ok-ranges.ranges.items c.in_ok-ranges.ensures.ranges c.in_ok-ranges.ensures.as_many values).1 can));
    }
