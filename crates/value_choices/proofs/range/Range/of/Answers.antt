use Rattle.std.proofs.Common.{sym, subst}
use Rattle.plan_model.specs.Typing.{InType}
use Rattle.value_choices.specs.declared.range.Range.TheVariants.{Listed}
use Rattle.value_choices.specs.Ranges.{IsRange}
use Rattle.value_choices.proofs.Ranged.{all_range}
use Rattle.value_choices.proofs.range.Range.of.Goals as goal

pub returns-in_ok-members-in-None : goal.returns-in_ok-members-in-None
returns-in_ok-members-in-None c =
    let is = all_range (InType c.args.world.now.types.now c.args.world.now.objects.now) c.args.ty c.in_ok-members-in-None.field-0
    c.in_ok-members-in-None.ensures.members c.in_ok-members-in-None.ensures.in_order in
    record {
      range = subst (λ k. IsRange (InType c.args.world.now.types.now c.args.world.now.objects.now) c.args.ty k
          (Listed c.in_ok-members-in-None.field-0)) (sym c.in-None.is) is;
    }
