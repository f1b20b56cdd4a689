-- What leads from task to task: methods of a task, and children that are tasks.
-- Source: Höller et al., "HDDL", AAAI 2020: methods and their task networks.
use Rattle.std.specs.Prelude.{ℕ, ◌≡◌, List, Some, slice_get, Contains}
use Rattle.plan_model.specs.declared.networks.Head.TheVariants.{Task}
use Rattle.plan_model.specs.declared.networks.Child.{Child}
use Rattle.plan_model.specs.declared.schemas.MethodPlan.{MethodPlan}

-- the method at this place decomposes the task
abbrev pub IsMethodOf : List MethodPlan → ℕ → ℕ → Type 0
IsMethodOf methods t m = (plan : MethodPlan) × (slice_get methods m ≡ Some plan) × (plan.schema.task ≡ t)

-- one of the children is the task
abbrev pub IsSubtask : List Child → ℕ → Type 0
IsSubtask children t = (child : Child) × Contains children child × (child.head ≡ Task t)

-- the method at one of these places has a child that is the task
abbrev pub IsSubtaskOf : List MethodPlan → List ℕ → ℕ → Type 0
IsSubtaskOf methods places t = (m : ℕ) × Contains places m × (plan : MethodPlan) × (slice_get methods m ≡ Some plan) × IsSubtask plan.schema.children t
