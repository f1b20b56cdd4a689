use Rattle.std.proofs.Common.{List, ◌∷◌, ◌++◌, [], take, sym, subst, ap, ◌∙◌, arith}
use Rattle.std.proofs.lemmas.List.{take_more}
use Rattle.std.proofs.lemmas.Grind.{common_steps}
use Rattle.plan_model.specs.declared.schemas.MethodSchema.{MethodSchema}
use Rattle.plan_model.specs.plan_meaning.Compilation.{AreMethodPlans}
use Rattle.bound_calc.proofs.method_precs.Growing.{plans_put}
use Rattle.bound_calc.proofs.method_precs.plans.plans_of.Goals as goal

pub plan_of-requires-clause-listed : goal.plan_of-requires-clause-listed
plan_of-requires-clause-listed c = c.requires.listed

pub plan_of-requires-clause-fit : goal.plan_of-requires-clause-fit
plan_of-requires-clause-fit c = c.requires.top

pub plan_of-requires-in-loop-method-clause-listed : goal.plan_of-requires-in-loop-method-clause-listed
plan_of-requires-in-loop-method-clause-listed c = c.requires.listed

pub plan_of-requires-in-loop-method-clause-fit : goal.plan_of-requires-in-loop-method-clause-fit
plan_of-requires-in-loop-method-clause-fit c = grind (arith, common_steps)

pub loop-method-init : goal.loop-method-init
loop-method-init c =
    let h = c.args.problem.now in
    let mode = c.args.checks.now in
    record {
      items = c.as_slice-method-items.ensures.items;
      plans = plans_put h mode [] _ _ h.top c.plan_of.result (subst (AreMethodPlans h mode []) (sym c.new-plans.ensures.empty) tt) c.plan_of.ensures c.in_ok-put.ensures.put;
    }

pub loop-method-preserved : goal.loop-method-preserved
loop-method-preserved c =
    let h = c.args.problem.now in
    let mode = c.args.checks.now in
    let items = c.as_slice-method-items.result.now in
    let k = c.loop-method.method-index in
    let method : MethodSchema = c.method-item.result in
    let next = take_more items k method c.loop-method-test.true ∙ ap (λ (s : MethodSchema). take k items ++ s ∷ []) (sym c.method-item.is) in
    record {
      items = c.loop-method.invariant.items;
      plans = subst (λ (ss : List MethodSchema). AreMethodPlans h mode (h.top ∷ ss) c.put-in-loop-method.new.self) (sym next)
          (plans_put h mode (h.top ∷ take k items) c.loop-method.plans _ method c.plan_of-in-loop-method.result c.loop-method.invariant.plans c.plan_of-in-loop-method.ensures c.in_ok-put-2.ensures.put);
    }

pub offset_bounds-method-items-method-index : goal.offset_bounds-method-items-method-index
offset_bounds-method-items-method-index c = grind (arith, common_steps)

pub bounds-method-items-method-index : goal.bounds-method-items-method-index
bounds-method-items-method-index c = grind (arith, common_steps)

pub returns : goal.returns
returns c = grind (arith, common_steps)
