-- The plan of a ground method in a list.
use Rattle.std.proofs.Common.{ℕ, ◌≡◌, List, map, Some, slice_get, sym, subst, ◌∙◌}
use Rattle.std.proofs.lemmas.Option.{same_Some}
use Rattle.htn_base.specs.Packed.{Row}
use Rattle.plan_model.specs.declared.schemas.MethodPlan.{MethodPlan}
use Rattle.plan_model.specs.declared.values.Compiled.{Compiled}
use Rattle.ground_bound.specs.Grounded.{HasListedTasks, HaveListedTasks}
use Rattle.ground_bound.specs.MethodRows.{row, ground}
use Rattle.ground_bound.specs.declared.in_order.MethodRow.{MethodRow}
use Rattle.slot_machine.proofs.OtherChildren.{Contains-map}
use Rattle.slot_machine.proofs.bound_laws.FiniteBound.{at_contains}

module _ (c : Compiled) (tasks : List Row) (methods : List MethodRow) (listed : HaveListedTasks c tasks (map row methods)) (k : ℕ) (it : MethodRow) (at : slice_get methods k ≡ Some it) where
  pub plan_at : (plan : MethodPlan) × (slice_get c.methods it.number ≡ Some plan) × HasListedTasks tasks (ground it) plan
  plan_at = listed (row it) (Contains-map row methods it (at_contains methods k it at))

  pub its_plan : (plan : MethodPlan) → slice_get c.methods it.number ≡ Some plan → HasListedTasks tasks (ground it) plan
  its_plan plan e = (let (p, f, h) = plan_at in subst (HasListedTasks tasks (ground it)) (same_Some p plan (sym f ∙ e)) h)
