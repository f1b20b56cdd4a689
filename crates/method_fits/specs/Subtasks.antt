-- The subtasks of a ground method: actions and tasks with their objects, without the check of its precondition.
-- Source: Höller et al., "HDDL", AAAI 2020: tasks, methods and their instances.
use Rattle.std.specs.Prelude.{ℕ, ◌≡◌, not, filter, map, List, [], ◌∷◌}
use Rattle.plan_model.specs.declared.networks.Head.{Head}
use Rattle.plan_model.specs.declared.networks.Head.TheVariants.{Task, Action, Check}
use Rattle.plan_model.specs.declared.networks.Child.{Child}
use Rattle.plan_model.specs.declared.schemas.MethodPlan.{MethodPlan}
use Rattle.plan_model.specs.declared.values.Compiled.{Compiled}
use Rattle.plan_model.specs.plan_meaning.Truth.{values_of}
use Rattle.plan_model.specs.plan_meaning.Network.{Work, GroundMethod, child_of, IsDeclared}
use Rattle.value_choices.specs.DeclaredParams.{work_of}
use Rattle.plan_encoder.specs.Calls.{is_check}
use Rattle.method_fits.specs.declared.subtask.Subtask.{Subtask}

abbrev pub said_work : Subtask → Work
said_work s = work_of s.head s.objects.now

abbrev pub said_works : List Subtask → List Work
said_works = map said_work

abbrev pub with_values : ℕ → List ℕ → GroundMethod
with_values m values = record { number = m; values = values }

-- the works of these children of the method that are no checks
abbrev pub works_of : GroundMethod → List Child → List Work
works_of g children = filter (λ w. not (is_check w)) (map (child_of g) children)

module _ (c : Compiled) where
  -- the first of the works is this one, which is of declared types, if it is no check, and the rest are as they are to be
  abbrev pub ArePut : (List Work → Type 0) → Head → Work → List Work → Type 0
  ArePut rest Check w works = rest works
  ArePut rest (Task t) w [] = ⊥
  ArePut rest (Task t) w (v ∷ vs) = ((v ≡ w) × IsDeclared c w) × rest vs
  ArePut rest (Action a) w [] = ⊥
  ArePut rest (Action a) w (v ∷ vs) = ((v ≡ w) × IsDeclared c w) × rest vs

  -- the works are those of these children of the method, without checks, and are of declared types
  abbrev pub AreWorksOf : GroundMethod → List Child → List Work → Type 0
  AreWorksOf g [] works = works ≡ []
  AreWorksOf g (child ∷ children) works = ArePut (AreWorksOf g children) child.head (child_of g child) works

  -- the task of the method has these objects, and its children are these works
  pub record IsSaid (plan : MethodPlan) (m : ℕ) (objects : List ℕ) (works : List Work) (values : List ℕ) : Type 0 where
    pub head : values_of values plan.schema.task_args ≡ objects
    pub children : AreWorksOf (with_values m values) plan.schema.children works
