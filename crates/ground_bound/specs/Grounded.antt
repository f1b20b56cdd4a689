-- What is reached of a compiled problem, as a compiled problem of schemas without parameters: a task for each reached task, and a
-- method for each reached method.
-- Source: this project's.
use Rattle.std.specs.Prelude.{ℕ, suc, ◌≡◌, ◌-◌, ◌<◌, ◌↔◌, List, [], length, slice_get, Option, Some, None, Contains}
use Rattle.std.specs.List.{AllZip}
use Rattle.htn_base.specs.Packed.{Row, row_of}
use Rattle.plan_model.specs.declared.networks.Head.{Head}
use Rattle.plan_model.specs.declared.networks.Head.TheVariants.{Task, Action, Check}
use Rattle.plan_model.specs.declared.networks.Child.{Child}
use Rattle.plan_model.specs.declared.schemas.MethodPlan.{MethodPlan}
use Rattle.plan_model.specs.declared.values.Compiled.{Compiled}
use Rattle.plan_model.specs.plan_meaning.Network.{Work, action, check, task, IsPrimitive, GroundMethod, child_of, decomposed, top_task}
use Rattle.plan_model.specs.plan_meaning.Strata as Strata
use Rattle.slot_machine.specs.bound_laws.NetworkEdges.{Edge}
use Rattle.reached_parts.specs.MethodOrder.{IsBefore}
use Rattle.reached_parts.specs.Search.{method_of, task_of}

-- the same rows, by the method's place, then its objects by number
pub record AreInOrder (methods sorted : List Row) : Type 0 where
  pub count : length sorted ≡ length methods
  pub same : (r : Row) → Contains sorted r ↔ Contains methods r
  pub rising : (k l : ℕ) (r s : Row) → k < l → slice_get sorted k ≡ Some r → slice_get sorted l ≡ Some s
      → IsBefore (method_of r) (method_of s)

-- the ground method of a row
abbrev pub method_at : Option Row → GroundMethod
method_at None = record { number = 0; values = [] }
method_at (Some r) = method_of r

-- the edge, with the ground method of its method's place
abbrev pub ground_edge : List Row → Strata.Edge → Edge GroundMethod
ground_edge rows e = record { method = method_at (slice_get rows e.method); child = e.child }

-- the place of the task of this number: they are numbered from the last one back, so that the top task, which stands first, has
-- the last number
abbrev pub place_of : List Row → ℕ → ℕ
place_of tasks n = length tasks - suc n

-- what the head stands for: a task that is listed at the number's place, or what has no subtasks
abbrev pub StandsFor : List Row → Head → Work → Type 0
StandsFor tasks (Task n) w = (n < length tasks) × (r : Row) × (slice_get tasks (place_of tasks n) ≡ Some r) × (task_of r ≡ w)
StandsFor tasks (Action a) w = IsPrimitive w
StandsFor tasks Check w = IsPrimitive w

-- the child stands for the other one, a child of the ground method
abbrev pub StandsForChild : List Row → GroundMethod → Child → Child → Type 0
StandsForChild tasks g child kid = StandsFor tasks kid.head (child_of g child)

-- a task that is listed; actions and checks need not be
abbrev pub IsListedTask : List Row → Work → Type 0
IsListedTask tasks (action a args) = Unit {0}
IsListedTask tasks (check m values) = Unit {0}
IsListedTask tasks (task t args) = Contains tasks (row_of t args)

-- the task of a ground method, and those among its subtasks
pub record HasListedTasks (tasks : List Row) (g : GroundMethod) (plan : MethodPlan) : Type 0 where
  pub task : IsListedTask tasks (decomposed g plan)
  pub subtasks : (child : Child) → Contains plan.schema.children child → IsListedTask tasks (child_of g child)

-- each row is a method with listed tasks
abbrev pub HaveListedTasks : Compiled → List Row → List Row → Type 0
HaveListedTasks c tasks methods = (r : Row) → Contains methods r
    → (plan : MethodPlan) × (slice_get c.methods r.head ≡ Some plan) × HasListedTasks tasks (method_of r) plan

-- the ground method, as a method without parameters
pub record IsGroundedMethod (tasks : List Row) (g : GroundMethod) (plan it : MethodPlan) : Type 0 where
  pub task : StandsFor tasks (Task it.schema.task) (decomposed g plan)
  pub children : AllZip (StandsForChild tasks g) plan.schema.children it.schema.children
  pub pairs : it.schema.pairs ≡ plan.schema.pairs
  pub line : it.line ≡ plan.line

-- the method of the row
abbrev pub IsGroundedRow : Compiled → List Row → Row → MethodPlan → Type 0
IsGroundedRow c tasks r it = (plan : MethodPlan) × (slice_get c.methods r.head ≡ Some plan) × IsGroundedMethod tasks (method_of r) plan it

-- p is what is reached: these tasks, and these methods in their order
pub record IsGrounded (c : Compiled) (tasks methods : List Row) (p : Compiled) : Type 0 where
  pub count : suc (top_task p) ≡ length tasks
  pub plans : AllZip (IsGroundedRow c tasks) methods p.methods
