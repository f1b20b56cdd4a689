-- What the lines of a hierarchical plan say, in the source's words: tasks by names and arguments, and the methods that decompose them.
-- Source: the format of plans of the hierarchical track of the International Planning Competition 2020 (Behnke, Höller and Bercher).
use Rattle.std.specs.Prelude.{ℕ, ◌≡◌, List, [], ◌∷◌, map, filter, Bool, true, false, not, slice_get, Some}
use Rattle.plan_model.specs.declared.types.Object.{Object}
use Rattle.plan_model.specs.declared.schemas.ActionSchema.{ActionSchema}
use Rattle.plan_model.specs.declared.schemas.TaskSchema.{TaskSchema}
use Rattle.plan_model.specs.declared.values.Compiled.{Compiled}
use Rattle.plan_model.specs.task_networks.Tree.{Tree, Address}
use Rattle.plan_model.specs.plan_meaning.Network.{Work, action, check, task, GroundMethod, network, objects_of}
use Rattle.hplan_text.specs.declared.values.HLine.{HLine}
use Rattle.hplan_text.specs.declared.values.HNode.{HNode}
use Rattle.hplan_text.specs.declared.values.HPlan.{HPlan}
use Rattle.hplan_text.specs.ShownPlan.{object_name, name_of, method_name_by}
use Rattle.schedules.specs.latest.PlanLines.{StepLine, SplitLine, PlanLines}
use Rattle.schedules.specs.latest.Shown.{PlanWords, Shows}

-- a name and arguments
pub record Call : Type 0 where
  pub name : List ℕ
  pub args : List (List ℕ)

-- a task and the name of its method
pub record Decomposed : Type 0 where
  pub task : Call
  pub method : List ℕ

-- a plan as lines, with the ids that it has

abbrev pub call_of : HLine → Call
call_of line = record { name = line.name; args = line.args }

abbrev pub step_of : HLine → StepLine ℕ Call
step_of line = record { id = line.id; step = call_of line }

abbrev pub split_of : HNode → SplitLine ℕ Decomposed
split_of node = record { id = node.line.id; split = record { task = call_of node.line; method = node.method }; children = node.ids }

abbrev pub lines_of : HPlan → PlanLines ℕ Call Decomposed
lines_of plan = record { steps = map step_of plan.primitives; root = plan.root; splits = map split_of plan.nodes }

abbrev pub is_check : Work → Bool
is_check (action a args) = false
is_check (check m values) = true
is_check (task t args) = false

module _ (c : Compiled) where
  -- objects of the problem
  abbrev pub IsThere : ℕ → Type 0
  IsThere o = (x : Object) × (slice_get c.hddl.objects o ≡ Some x)

  abbrev pub AreThere : List ℕ → Type 0
  AreThere [] = Unit {0}
  AreThere (o ∷ os) = IsThere o × AreThere os

  -- an action or a task of the problem, with objects of it
  abbrev pub IsKnown : Work → Type 0
  IsKnown (action a args) = ((s : ActionSchema) × (slice_get c.hddl.actions a ≡ Some s)) × AreThere args
  IsKnown (check m values) = ⊥
  IsKnown (task t args) = ((s : TaskSchema) × (slice_get c.hddl.tasks t ≡ Some s)) × AreThere args

  -- the subtasks, without the check
  abbrev pub subtasks : GroundMethod → List Work
  subtasks g = filter (λ w. not (is_check w)) ((network c).works g)

  abbrev pub call : Work → Call
  call w = record { name = name_of c w; args = map (object_name c) (objects_of c w) }

  -- of a method its task and its name are said, and nothing of its values
  abbrev pub words : PlanWords (network c)
  words = record {
    Step = Call;
    Split = Decomposed;
    is_check = is_check;
    step = call;
    split = λ g. record { task = call ((network c).head g); method = method_name_by c (slice_get c.methods g.number) };
  }

  -- the tree and its order show the plan, under these or other ids
  abbrev pub ShowsUnderSomeIds : HPlan → Tree (network c) → List Address → Type 0
  ShowsUnderSomeIds plan tree order = Shows (network c) words tree (lines_of plan) order
