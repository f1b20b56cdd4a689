-- Lists of ground actions that spell a front: one action for each processed node, in the words of the printed problem.
-- Source: this project's, after the translation of Alford et al., "Bound to Plan", ICAPS 2016. Whole trees with a function of slots.
use Rattle.std.specs.Prelude.{ℕ, zero, suc, ◌≡◌, List, [], ◌∷◌, ◌++◌, map, codes, slice_get, slice_index_or, Option, Some, None}
use Rattle.htn_base.specs.Escapes.{escaped, slot_word}
use Rattle.plan_model.specs.declared.types.Object.{Object}
use Rattle.plan_model.specs.declared.schemas.ActionSchema.{ActionSchema}
use Rattle.plan_model.specs.declared.schemas.MethodPlan.{MethodPlan}
use Rattle.plan_model.specs.declared.steps.GroundAction.{GroundAction}
use Rattle.plan_model.specs.declared.values.Compiled.{Compiled}
use Rattle.plan_model.specs.task_networks.Tree.{Tree, Address}
use Rattle.plan_model.specs.task_networks.Spelling.{Act, run, apply, Spells}
use Rattle.plan_model.specs.plan_meaning.Network.{Work, action, check, task, network, objects_of}
use Rattle.plan_model.specs.plan_meaning.Solution.{top_work}

module _ (c : Compiled) where
  -- the printed word of a name, by its number
  abbrev pub printed : ℕ → List ℕ
  printed number = escaped (slice_index_or c.hddl.names number [])

  abbrev pub object_by : Option Object → List ℕ
  object_by (Some x) = printed x.name.number
  object_by None = []

  abbrev pub object_word : ℕ → List ℕ
  object_word o = object_by (slice_get c.hddl.objects o)

  abbrev pub action_by : Option ActionSchema → List ℕ
  action_by (Some s) = printed s.name.number
  action_by None = []

  abbrev pub method_by : Option MethodPlan → List ℕ
  method_by (Some plan) = printed plan.schema.name.number
  method_by None = []

  -- the name of the action that processes an action or a check
  abbrev pub work_name : Work → List ℕ
  work_name (action a args) = action_by (slice_get c.hddl.actions a)
  work_name (check m values) = codes "htn_c_" ++ method_by (slice_get c.methods m)
  work_name (task t args) = []

  -- the name of the action that applies a method; the top method, which is number 0, starts
  abbrev pub method_name : ℕ → List ℕ
  method_name zero = codes "htn_start"
  method_name (suc k) = codes "htn_m_" ++ method_by (slice_get c.methods (suc k))

  -- its arguments: the node's slot, the slots of the children other than the heir, and the node's own objects
  abbrev pub step_of : Act (network c) → GroundAction
  step_of (run h w) = record { name = work_name w; args = slot_word h ∷ map object_word (objects_of c w) }
  step_of (apply h new g) = record { name = method_name g.number; args = slot_word h ∷ (map slot_word new ++ map object_word g.values) }

  -- the list spells the front, with b slots
  abbrev pub IsSpelling : ℕ → List GroundAction → Tree (network c) → List Address → (Address → ℕ) → Type 0
  IsSpelling b steps tree order slot = (acts : List (Act (network c))) × Spells (network c) b (top_work c) acts tree order slot × (steps ≡ map step_of acts)
