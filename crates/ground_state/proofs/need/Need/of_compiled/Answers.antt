use Rattle.std.proofs.Common.{List, Contains, sym, subst}
use Rattle.plan_model.specs.declared.schemas.ActionSchema.{ActionSchema}
use Rattle.plan_model.specs.declared.schemas.MethodPlan.{MethodPlan}
use Rattle.ground_state.specs.Room.{fits}
use Rattle.ground_state.specs.Needs.{HasRoom}
use Rattle.ground_state.proofs.NeedLaws as laws
use Rattle.ground_state.proofs.need.Need.of_compiled.Goals as goal

pub returns : goal.returns
returns c =
    let first = c.in_ok-with_formula.field-0 in
    let less = c.in_ok-with_actions.field-0 in
    laws.if_both c.with_methods.result _ _ _
    (λ need h w room arity d r. record {
      goal = laws.allows_more (λ room arity. fits room arity c.args.compiled.now.hddl.goal 0) first need (laws.within_then first less need c.in_ok-with_actions.ensures.more w) c.in_ok-with_formula.ensures.enough room arity d r;
      actions = λ a there. laws.allows_more (λ room arity. (b : ActionSchema) → Contains c.as_slice.result.now b → HasRoom room arity b) less need w c.in_ok-with_actions.ensures.enough room arity d r a
          (subst (λ (xs : List ActionSchema). Contains xs a) (sym c.as_slice.ensures.items) there);
      methods = λ m there. h room arity d r m (subst (λ (xs : List MethodPlan). Contains xs m) (sym c.as_slice-2.ensures.items) there);
    })
    c.with_methods.ensures.enough c.with_methods.ensures.more
