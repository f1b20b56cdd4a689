use Rattle.std.proofs.Common.{ap, ◌+◌, ◌∙◌}
use Rattle.plan_model.specs.Typing.{InType}
use Rattle.plan_model.specs.declared.terms.Param.{Param}
use Rattle.value_choices.proofs.Ranged.{ranges_more, length_push}
use Rattle.value_choices.proofs.choice.ranges_of.Goals as goal

abbrev none : Param
none = record { name = record { number = 0 }; ty = 0 }

pub loop-i-preserved : goal.loop-i-preserved
loop-i-preserved c =
    let is = c.in_ok-range.ensures.range in
    let e = c.in_ok-push.ensures.items in (
      length_push c.loop-i.ranges.items c.push.new.self.items c.in_ok-range.range e ∙ ap (λ n. n + 1) c.loop-i.invariant.0,
      ranges_more (InType c.args.world.now.types.now c.args.world.now.objects.now) c.args.params.now c.args.known.now c.loop-i.i none _
          c.loop-i.ranges.items c.push.new.self.items c.in_ok-range.range
          c.loop-i-test.true c.loop-i.invariant.0 is e c.loop-i.invariant.1,
    )
