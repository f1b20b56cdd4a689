-- The bound of a problem, a whole number without limit.
-- Source: this project's, after the progression bound of Alford et al., "Bound to Plan", ICAPS 2016.
use Rattle.std.specs.Prelude.{ℕ, suc, ◌≡◌, ◌↔◌, slice_get, Some}
use Rattle.plan_model.specs.declared.schemas.MethodPlan.{MethodPlan}
use Rattle.plan_model.specs.declared.values.Compiled.{Compiled}
use Rattle.plan_model.specs.task_networks.Bound.{AreBlocks, IsTheBound}
use Rattle.plan_model.specs.Pairs.{Pairs}
use Rattle.plan_model.specs.plan_meaning.Network.{top_task}
use Rattle.plan_model.specs.plan_meaning.Schemas.{Schema, action, check, task, schemas}
use Rattle.plan_model.specs.plan_meaning.Strata.{IsReachedTask, IsOneGroup}

-- the group of a task, counted from 1; what is no task has none
abbrev pub group_of : (ℕ → ℕ) → Schema → ℕ
group_of group (action a) = 0
group_of group (check m) = 0
group_of group (task t) = suc (group t)

-- n is the bound: the number of the top task, where the lines are cut into blocks at every cut and groups are those of the edges
pub record IsBound (c : Compiled) (n : ℕ) : Type 0 where
  -- block m i is the block of child i of method m
  pub block : ℕ → ℕ → ℕ
  pub blocks : (m : ℕ) (plan : MethodPlan) → slice_get c.methods m ≡ Some plan → AreBlocks (Pairs plan.schema.pairs) plan.line (block m)
  -- of the tasks that are reached, those that reach each other have one group
  pub group : ℕ → ℕ
  pub groups : (t u : ℕ) → IsReachedTask c t → IsReachedTask c u → (group t ≡ group u) ↔ IsOneGroup c (task t) (task u)
  pub number : Schema → ℕ
  pub numbers : IsTheBound (schemas c) block number (group_of group) (task (top_task c))
  pub is : number (task (top_task c)) ≡ n
