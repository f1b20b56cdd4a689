use Rattle.std.proofs.Common.{◌≡◌, ◌∷◌, take}
use Rattle.plan_model.specs.plan_meaning.Compilation.{AreMethodPlans}
use Rattle.bound_calc.proofs.method_precs.plans.plans_of.Given as goal

abbrev pub invariant-loop-method : goal.invariant-loop-method
invariant-loop-method l = record {
  items : l.method-items ≡ l.problem.methods;
  plans : AreMethodPlans l.problem l.checks (l.problem.top ∷ take l.method-index l.method-items) l.plans;
}
