-- The ground task network of a compiled problem.
-- Source: Höller et al., "HDDL", AAAI 2020: tasks, methods and their instances; here a check may stand among the subtasks for a method's precondition.
use Rattle.std.specs.Prelude.{ℕ, ◌≡◌, MatchBool, MatchOption, List, [], map, slice_get, length, Some, Contains}
use Rattle.std.specs.Option.{option_map_or, option_and_then}
use Rattle.plan_model.specs.declared.networks.Head.{Head}
use Rattle.plan_model.specs.declared.networks.Head.TheVariants.{Task, Action, Check}
use Rattle.plan_model.specs.declared.networks.Child.{Child}
use Rattle.plan_model.specs.declared.terms.Param.{Param}
use Rattle.plan_model.specs.declared.networks.Constraint.{Constraint}
use Rattle.plan_model.specs.declared.schemas.TaskSchema.{TaskSchema}
use Rattle.plan_model.specs.declared.schemas.ActionSchema.{ActionSchema}
use Rattle.plan_model.specs.declared.schemas.MethodPlan.{MethodPlan}
use Rattle.plan_model.specs.declared.values.Compiled.{Compiled}
use Rattle.plan_model.specs.Typing.{InType}
use Rattle.plan_model.specs.Pairs.{Pairs}
use Rattle.plan_model.specs.task_networks.Net.{Net}
use Rattle.plan_model.specs.plan_meaning.Truth.{value_of, values_of, AreTyped}

-- what stands in a task network, with its objects: a ground action, the check of a ground method, a ground task
pub data Work : Type 0 where
  action : (number : ℕ) (args : List ℕ) → Work
  check : (method : ℕ) (values : List ℕ) → Work
  task : (number : ℕ) (args : List ℕ) → Work

-- a method, by its place in the compiled list, with an object for each parameter
pub record GroundMethod : Type 0 where
  pub number : ℕ
  pub values : List ℕ

abbrev pub IsPrimitive : Work → Type 0
IsPrimitive (action a args) = Unit {0}
IsPrimitive (check m values) = Unit {0}
IsPrimitive (task t args) = ⊥

abbrev pub ground_work : GroundMethod → Head → List ℕ → Work
ground_work g (Task t) args = task t args
ground_work g (Action a) args = action a args
ground_work g Check args = check g.number g.values

-- a child of a method, with the objects that its terms stand for
abbrev pub child_of : GroundMethod → Child → Work
child_of g child = ground_work g child.head (values_of g.values child.args)

-- the constraint, an equality or an inequality of two terms, is true
abbrev pub Meets : List ℕ → Constraint → Type 0
Meets values con = MatchBool con.equal (value_of values con.left ≡ value_of values con.right) (value_of values con.left ≡ value_of values con.right → ⊥)

-- what the plan of a method says: the task that it decomposes, and its subtasks
abbrev pub decomposed : GroundMethod → MethodPlan → Work
decomposed g plan = task plan.schema.task (values_of g.values plan.schema.task_args)

abbrev pub subtasks_of : GroundMethod → MethodPlan → List Work
subtasks_of g plan = map (child_of g) plan.schema.children

module _ (c : Compiled) where
  abbrev pub InTypeOf : ℕ → ℕ → Type 0
  InTypeOf = InType c.hddl.types c.hddl.objects

  abbrev pub top_task : ℕ
  top_task = length c.hddl.tasks

  -- the parameters that are declared for what stands here
  abbrev pub AreParamsOf : Work → List Param → Type 0
  AreParamsOf (action a args) params = (s : ActionSchema) × (slice_get c.hddl.actions a ≡ Some s) × (s.params ≡ params)
  AreParamsOf (check m values) params = (p : MethodPlan) × (slice_get c.methods m ≡ Some p) × (p.schema.params ≡ params)
  AreParamsOf (task t args) params = (s : TaskSchema) × (slice_get c.hddl.tasks t ≡ Some s) × (s.params ≡ params)

  abbrev pub objects_of : Work → List ℕ
  objects_of (action a args) = args
  objects_of (check m values) = values
  objects_of (task t args) = args

  -- its objects are of the declared types
  abbrev pub IsDeclared : Work → Type 0
  IsDeclared w = (params : List Param) × AreParamsOf w params × AreTyped InTypeOf params (objects_of w)

  -- the constraints hold, and the arguments of the children are of the declared types
  pub record IsMet (g : GroundMethod) (plan : MethodPlan) : Type 0 where
    pub constraints : (con : Constraint) → Contains plan.schema.constraints con → Meets g.values con
    pub declared : (child : Child) → Contains plan.schema.children child → IsDeclared (child_of g child)

  -- a ground method: its values are of their types, and meet what the method asks of them
  pub record IsGroundMethod (g : GroundMethod) : Type 0 where
    pub plan : MethodPlan
    pub is : slice_get c.methods g.number ≡ Some plan
    pub typed : AreTyped InTypeOf plan.schema.params g.values
    pub met : IsMet g plan

  -- each method by its plan; a number that names no method has no plan, and then there are no children
  abbrev pub network : Net
  network = record {
    Work = Work;
    Method = GroundMethod;
    head = λ g. option_map_or (decomposed g) (slice_get c.methods g.number) (task 0 []);
    works = λ g. option_map_or (subtasks_of g) (slice_get c.methods g.number) [];
    IsSimple = IsPrimitive;
    IsGround = IsGroundMethod;
    Pair = λ g i j. MatchOption (slice_get c.methods g.number) ⊥ (λ plan. Pairs plan.schema.pairs i j);
    heir = λ g. option_and_then (λ plan. plan.heir) (slice_get c.methods g.number);
    IsCopier = λ g i. MatchOption (slice_get c.methods g.number) ⊥ (λ plan. Contains plan.copiers i);
  }
