use Rattle.std.proofs.Common.{ap, sym, subst, ◌∙◌}
use Rattle.std.specs.Option.{option_copied}
use Rattle.plan_model.specs.declared.networks.Head.{Head}
use Rattle.plan_model.specs.plan_meaning.Network.{AreParamsOf}
use Rattle.value_choices.specs.DeclaredParams.{work_of}
use Rattle.value_choices.proofs.declared.params_of.Goals as goal

pub returns-in-Some-get : goal.returns-in-Some-get
returns-in-Some-get c = λ objects.
    subst (λ (h : Head). AreParamsOf c.args.c.now (work_of h objects) c.as_slice-in-Some-get.result.now) (sym c.in-Action.is) (
      c.in-Some-get.schema.now,
      sym c.get-in-Action.ensures.item
          ∙ ap option_copied c.in-Some-get.is,
      sym c.as_slice-in-Some-get.ensures.items,
    )

pub returns-in-Some-get-2 : goal.returns-in-Some-get-2
returns-in-Some-get-2 c = λ objects.
    subst (λ (h : Head). AreParamsOf c.args.c.now (work_of h objects) c.as_slice-in-Some-get-2.result.now) (sym c.in-Check.is) (
      c.in-Some-get-2.plan.now,
      sym c.get-in-Check.ensures.item ∙ ap option_copied c.in-Some-get-2.is,
      sym
          c.as_slice-in-Some-get-2.ensures.items,
    )
