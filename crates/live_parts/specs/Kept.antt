-- What is kept of a problem: what its top method reaches through live methods.
-- Source: this project's.
use Rattle.std.specs.Prelude.{ℕ, ◌≡◌, ◌<◌, ◌↔◌, List, Some, slice_get, length, Contains}
use Rattle.std.specs.List.Sorted.{IsStrictlyIncreasing}
use Rattle.plan_model.specs.declared.networks.Head.{Head}
use Rattle.plan_model.specs.declared.networks.Head.TheVariants.{Task, Action, Check}
use Rattle.plan_model.specs.declared.networks.Child.{Child}
use Rattle.plan_model.specs.declared.schemas.MethodSchema.{MethodSchema}
use Rattle.plan_model.specs.declared.values.Hddl.{Hddl}
use Rattle.live_parts.specs.Live.{Parts}

-- numbers of tasks, actions and methods
pub record Kept : Type 0 where
  pub tasks : List ℕ
  pub actions : List ℕ
  pub methods : List ℕ

module _ (h : Hddl) (live : Parts) where
  -- a subtask of the top method, or of a live method of a task that is reached
  pub data IsReached : Head → Type 0 where
    below_top : {child : Child} → Contains h.top.children child → IsReached child.head
    below : {child : Child} {n : ℕ} {s : MethodSchema} → slice_get h.methods n ≡ Some s → Contains live.methods n
        → IsReached (Task s.task) → Contains s.children child → IsReached child.head

  -- a live method of a task that is reached
  abbrev pub IsKeptMethod : ℕ → Type 0
  IsKeptMethod n = Contains live.methods n × ((s : MethodSchema) × (slice_get h.methods n ≡ Some s) × IsReached (Task s.task))

  -- the numbers of what is kept, in order
  pub record AreKept (kept : Kept) : Type 0 where
    pub tasks : (t : ℕ) → Contains kept.tasks t ↔ IsReached (Task t)
    pub actions : (a : ℕ) → Contains kept.actions a ↔ IsReached (Action a)
    pub methods : (n : ℕ) → Contains kept.methods n ↔ IsKeptMethod n
    pub tasks_in_order : IsStrictlyIncreasing kept.tasks
    pub actions_in_order : IsStrictlyIncreasing kept.actions
    pub methods_in_order : IsStrictlyIncreasing kept.methods

module _ (h : Hddl) where
  abbrev pub IsNumberOf : Head → Type 0
  IsNumberOf (Task t) = t < length h.tasks
  IsNumberOf (Action a) = a < length h.actions
  IsNumberOf Check = ⊥

  abbrev pub AreNumbersOf : MethodSchema → Type 0
  AreNumbersOf s = (child : Child) → Contains s.children child → IsNumberOf child.head

  -- the numbers of tasks and actions are in range; the top method's task is one behind all others
  pub record IsNumbered : Type 0 where
    pub top_task : h.top.task ≡ length h.tasks
    pub top : AreNumbersOf h.top
    pub methods : (n : ℕ) (s : MethodSchema) → slice_get h.methods n ≡ Some s → (s.task < length h.tasks) × AreNumbersOf s
