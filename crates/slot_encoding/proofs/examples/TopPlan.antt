-- The plan of the top method in rows where it has one task and nothing else: it is the same in either mode of checks.
use Rattle.std.proofs.Common.{◌≡◌, false, List, [], ◌∷◌, ◌++◌, Some, refl, sym, subst}
use Rattle.plan_model.specs.declared.options.Checks.{Checks}
use Rattle.plan_model.specs.declared.terms.Param.{Param}
use Rattle.plan_model.specs.declared.networks.Guard.{Guard}
use Rattle.plan_model.specs.declared.networks.Head.TheVariants.{Task}
use Rattle.plan_model.specs.declared.schemas.MethodPlan.{MethodPlan}
use Rattle.plan_model.specs.declared.values.Hddl.{Hddl}
use Rattle.plan_model.specs.plan_meaning.Compilation.{params_of, placed, Keeps, IsGuard, IsMethodPlan}
use Rattle.plan_model.proofs.plan_meaning.examples.PlanKinds.{plain, none_rise}
use Rattle.plan_model.proofs.plan_meaning.examples.RowValues.{child, always, method_schema, method_plan}

abbrev pub top_plan : MethodPlan
top_plan = method_plan (method_schema 3 1 always (child (Task 0) ∷ []) []) false (0 ∷ []) (Some 0) []

module _ (h : Hddl) where
  -- where there are no arguments nothing can be of another type
  none_placed : (params : List Param) → placed h params [] ≡ []
  none_placed [] = refl
  none_placed (p ∷ ps) = refl

  pub top_is : (mode : Checks) → IsMethodPlan h mode top_plan.schema top_plan
  top_is mode = plain h mode _ _ refl refl refl (record {
    schema = refl;
    up = tt;
    line = refl;
    heir = refl;
    copiers = refl;
    rising = none_rise;
    guards = ([], subst (λ (all : List Guard). Keeps (IsGuard h top_plan.schema) (all ++ []) []) (sym (none_placed (params_of h (Task 0)))) refl, refl);
  })
