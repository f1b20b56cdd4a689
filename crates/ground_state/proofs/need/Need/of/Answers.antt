use Rattle.std.proofs.Common.{List, Contains, sym, subst}
use Rattle.plan_model.specs.declared.schemas.ActionSchema.{ActionSchema}
use Rattle.ground_state.specs.Room.{fits}
use Rattle.ground_state.proofs.NeedLaws as laws
use Rattle.ground_state.proofs.need.Need.of.Goals as goal

pub returns : goal.returns
returns c =
    let less = c.in_ok-with_formula.field-0 in
    laws.if_both c.with_actions.result _ _ _
    (λ need h w room arity d r. record {
      goal = laws.allows_more (λ room arity. fits room arity c.args.p.now.goal 0) less need w c.in_ok-with_formula.ensures.enough room arity d r;
      actions = λ a there. h room arity d r a (subst (λ (xs : List ActionSchema). Contains xs a) (sym c.as_slice.ensures.items) there);
    })
    c.with_actions.ensures.enough c.with_actions.ensures.more
