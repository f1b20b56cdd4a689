-- The words of a cycle of edges: a task, the method, the next task and so on, and at the end the first task.
-- Source: this project's.
use Rattle.std.specs.Prelude.{ℕ, List, [], ◌∷◌, ◌++◌, codes, slice_get, slice_index_or, Option, Some, None}
use Rattle.std.specs.List.{flat_map}
use Rattle.plan_model.specs.declared.schemas.TaskSchema.{TaskSchema}
use Rattle.plan_model.specs.declared.schemas.MethodPlan.{MethodPlan}
use Rattle.plan_model.specs.declared.values.Compiled.{Compiled}
use Rattle.plan_model.specs.plan_meaning.Schemas.{Schema, action, check, task}
use Rattle.plan_model.specs.plan_meaning.Strata.{Edge, source, target}

module _ (c : Compiled) where
  -- a name as it is written
  abbrev pub written : ℕ → List ℕ
  written number = slice_index_or c.hddl.names number []

  -- the top task has no name in the problem
  abbrev pub task_by : Option TaskSchema → List ℕ
  task_by (Some s) = written s.name.number
  task_by None = codes "htn_top"

  abbrev pub task_word : Schema → List ℕ
  task_word (task t) = task_by (slice_get c.hddl.tasks t)
  task_word (action a) = []
  task_word (check m) = []

  abbrev pub method_by : Option MethodPlan → List ℕ
  method_by (Some plan) = written plan.schema.name.number
  method_by None = []

  abbrev pub method_word : ℕ → List ℕ
  method_word m = method_by (slice_get c.methods m)

  -- for each edge its task and its method, and then the task that the last one goes to
  abbrev pub cycle_words : List Edge → List (List ℕ)
  cycle_words [] = []
  cycle_words (e ∷ []) = task_word (source c e) ∷ method_word e.method ∷ task_word (target c e) ∷ []
  cycle_words (e ∷ next ∷ edges) = task_word (source c e) ∷ method_word e.method ∷ cycle_words (next ∷ edges)

  -- the line that refuses a problem with this bad cycle
  abbrev pub cycle_line : List Edge → List ℕ
  cycle_line edges = codes "not tail-recursive:" ++ flat_map (λ word. codes " " ++ word) (cycle_words edges) ++ codes "\n"
