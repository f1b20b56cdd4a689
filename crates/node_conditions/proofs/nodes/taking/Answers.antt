use Rattle.std.proofs.Common.{◌≡◌, ◌↔◌, Option, Some, slice_get, sym, ap, subst, ◌∙◌}
use Rattle.std.specs.Option.{option_copied}
use Rattle.plan_model.specs.declared.schemas.MethodPlan.{MethodPlan}
use Rattle.plan_model.specs.plan_meaning.Network.{InTypeOf}
use Rattle.node_conditions.specs.Demands.{IsAsked, Suit}
use Rattle.node_conditions.specs.Standing.{told, PlanTakes}
use Rattle.node_conditions.proofs.Taking.{takes_suits}
use Rattle.node_conditions.proofs.nodes.taking.Goals as goal

pub returns-clause-demand : goal.returns-clause-demand
returns-clause-demand c = λ truth values.
    let k = c.args.c.now in
    let plan = c.in-Some.plan.now in
    let e : slice_get k.methods c.args.method ≡ Some plan = sym c.get.ensures.item ∙ ap option_copied c.in-Some.is in
    subst (λ (z : Option MethodPlan). (PlanTakes k z c.args.old.now values × IsAsked (InTypeOf k) (told truth) c.args.condition values)
    ↔ Suit (InTypeOf k) (told truth) plan c.in_ok-known.known.items c.args.condition values) (sym e)
    (takes_suits (InTypeOf k) plan c.args.old.now c.in_ok-known.known.items c.in_ok-known.ensures.as_many c.in_ok-known.ensures.known
    (told truth) c.args.condition values)
