-- The step of a node, by the rows of its tree and the slots of all nodes.
-- Source: this project's.
use Rattle.std.specs.Prelude.{ℕ, List, [], ◌∷◌, ◌++◌, map, filter, not, length, slice_index, Option, Some, None}
use Rattle.htn_base.specs.Escapes.{slot_word}
use Rattle.plan_model.specs.declared.schemas.MethodPlan.{MethodPlan}
use Rattle.plan_model.specs.declared.steps.GroundAction.{GroundAction}
use Rattle.plan_model.specs.declared.values.Compiled.{Compiled}
use Rattle.plan_model.specs.task_networks.Tree.{Label, waits, ran, used}
use Rattle.plan_model.specs.task_networks.Spelling.{numbers, is_heir}
use Rattle.plan_model.specs.plan_meaning.Network.{objects_of}
use Rattle.plan_model.specs.plan_meaning.SpelledPlan.{work_name, method_name, object_word}
use Rattle.tree_core.specs.Tables.{Row}
use Rattle.tree_core.specs.Labels.{labels}
use Rattle.tree_core.specs.Runs.{label_in}
use Rattle.slot_speller.specs.Children.{child_in, plan_by}

-- the objects of what stands at a node with this label
abbrev pub objects_by : Compiled → Option (Label labels) → List ℕ
objects_by c None = []
objects_by c (Some (waits w)) = []
objects_by c (Some (ran w)) = objects_of c w
objects_by c (Some (used d)) = d.method.values

-- the name of the action that processes it
abbrev pub name_by : Compiled → Option (Label labels) → List ℕ
name_by c None = []
name_by c (Some (waits w)) = []
name_by c (Some (ran w)) = work_name c w
name_by c (Some (used d)) = method_name c d.method.number

module _ (rows : List (Row labels)) (nodes : List ℕ) where
  -- the slots of the children of the node at k, n of them, other than the heir
  abbrev pub new_among : ℕ → ℕ → ℕ → List ℕ
  new_among k heir n = map (λ i. slice_index nodes (child_in rows k i)) (filter (λ i. not (is_heir (Some heir) i)) (numbers 0 n))

  abbrev pub new_beside : ℕ → Option ℕ → ℕ → List ℕ
  new_beside k None n = []
  new_beside k (Some heir) n = new_among k heir n

  abbrev pub new_by : ℕ → Option MethodPlan → List ℕ
  new_by k None = []
  new_by k (Some plan) = new_beside k plan.heir (length plan.schema.children)

  -- the slot of the node at k, which is decomposed so, and those of its children other than the heir
  abbrev pub slots_by : ℕ → Option MethodPlan → List ℕ
  slots_by k plan = slice_index nodes k ∷ new_by k plan

abbrev pub step_at : Compiled → List (Row labels) → List ℕ → ℕ → GroundAction
step_at c rows nodes k = record {
  name = name_by c (label_in rows k);
  args = map slot_word (slots_by rows nodes k (plan_by c (label_in rows k))) ++ map (object_word c) (objects_by c (label_in rows k));
}
