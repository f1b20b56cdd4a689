-- What is asked of a compiled problem: tasks are numbered, sizes are small, and networks have no cycle.
-- Source: this project's.
use Rattle.std.specs.Prelude.{ℕ, ◌+◌, ◌<◌, ◌≤◌, ◌^◌, length, All}
use Rattle.htn_base.specs.Limits.{most_subtasks}
use Rattle.plan_model.specs.declared.schemas.MethodPlan.{MethodPlan}
use Rattle.plan_model.specs.declared.values.Compiled.{Compiled}
use Rattle.plan_model.specs.Pairs.{Pairs}
use Rattle.plan_model.specs.task_networks.Order.{IsAcyclic}
use Rattle.plan_model.specs.plan_meaning.Network.{top_task}
use Rattle.plan_model.specs.net_order.Meaning.{AreBelow}
use Rattle.bound_calc.specs.stratifier.Links.{IsSubtask}

-- the method's task and its subtasks have numbers up to that of the top task
pub record IsNumbered (top : ℕ) (plan : MethodPlan) : Type 0 where
  pub task : plan.schema.task ≤ top
  pub subtasks : (t : ℕ) → IsSubtask plan.schema.children t → t ≤ top

-- the subtasks, as many as there may be, and the check
pub record IsSmallMethod (plan : MethodPlan) : Type 0 where
  pub children : length plan.schema.children ≤ most_subtasks + 1
  pub pairs : length plan.schema.pairs < 2 ^ 32

pub record IsSmallCompiled (c : Compiled) : Type 0 where
  pub tasks : top_task c < 2 ^ 32
  pub methods : length c.methods < 2 ^ 32
  pub numbered : All (IsNumbered (top_task c)) c.methods
  pub networks : All IsSmallMethod c.methods

-- the pairs are of children, and have no cycle
pub record IsOrdered (plan : MethodPlan) : Type 0 where
  pub pairs : AreBelow (length plan.schema.children) plan.schema.pairs
  pub acyclic : IsAcyclic (Pairs plan.schema.pairs)

abbrev pub HaveNoCycle : Compiled → Type 0
HaveNoCycle c = All IsOrdered c.methods
