-- Parts of a method, and the methods of a whole problem.
use Rattle.std.specs.Prelude.{List, ◌∷◌}
use Rattle.plan_model.specs.declared.formulas.Formula.{Formula}
use Rattle.plan_model.specs.declared.options.Checks.{Checks}
use Rattle.plan_model.specs.declared.schemas.MethodPlan.{MethodPlan}
use Rattle.plan_model.specs.declared.schemas.MethodSchema.{MethodSchema}
use Rattle.plan_model.specs.declared.terms.Param.{Param}
use Rattle.plan_model.specs.declared.terms.Term.{Term}
use Rattle.plan_model.specs.declared.values.Hddl.{Hddl}
use Rattle.plan_model.specs.plan_meaning.Compilation.{AreMethodPlans}

-- the plans of the top method and then of the others
abbrev pub AreAllPlans : Hddl → Checks → List MethodPlan → Type 0
AreAllPlans h mode plans = AreMethodPlans h mode (h.top ∷ h.methods) plans

-- the parts of a method that stand before its network
abbrev pub front_parts : MethodSchema → List Param × List Term × Formula
front_parts s = (s.params, s.task_args, s.pre)
