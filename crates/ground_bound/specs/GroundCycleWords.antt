-- The words of a cycle of ground edges: a task with its objects, the method, the next task and so on, and at the end the task that the
-- last edge goes to.
-- Source: this project's.
use Rattle.std.specs.Prelude.{ℕ, List, [], ◌∷◌, ◌++◌, codes, map, slice_get, Option, Some, None}
use Rattle.plan_model.specs.declared.types.Object.{Object}
use Rattle.plan_model.specs.declared.values.Compiled.{Compiled}
use Rattle.plan_model.specs.plan_meaning.Network.{Work, action, check, task, GroundMethod, network}
use Rattle.bound_calc.specs.stratifier.CycleWords.{written, task_by, method_word}
use Rattle.bound_calc.specs.NoBound.{spaced}
use Rattle.slot_machine.specs.bound_laws.NetworkEdges.{Edge, source, target}

module _ (c : Compiled) where
  abbrev pub object_by : Option Object → List ℕ
  object_by (Some o) = written c o.name.number
  object_by None = []

  abbrev pub object_word : ℕ → List ℕ
  object_word o = object_by (slice_get c.hddl.objects o)

  -- `(name object object)`, and of the top task `(htn_top)`
  abbrev pub ground_task_word : Work → List ℕ
  ground_task_word (action a args) = []
  ground_task_word (check m values) = []
  ground_task_word (task t args) = codes "(" ++ task_by c (slice_get c.hddl.tasks t) ++ spaced (map object_word args) ++ codes ")"

  -- for each edge its task and its method, and then the task that the last one goes to
  abbrev pub ground_cycle_words : List (Edge GroundMethod) → List (List ℕ)
  ground_cycle_words [] = []
  ground_cycle_words (e ∷ []) =
      ground_task_word (source (network c) e) ∷ method_word c e.method.number ∷ ground_task_word (target (network c) e) ∷ []
  ground_cycle_words (e ∷ next ∷ edges) =
      ground_task_word (source (network c) e) ∷ method_word c e.method.number ∷ ground_cycle_words (next ∷ edges)
