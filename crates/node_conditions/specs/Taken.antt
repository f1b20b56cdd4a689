-- The values that a method can take: those parameters keep theirs that its task and its subtasks tell.
-- Source: this project's.
use Rattle.std.specs.Prelude.{ℕ, ◌≡◌, ◌<◌, List, [], ◌∷◌, ◌++◌, length, slice_index, slice_index_or, Option, None, MatchOption, Contains}
use Rattle.plan_model.specs.declared.terms.Term.{Term}
use Rattle.plan_model.specs.declared.terms.Term.TheVariants.{Var}
use Rattle.plan_model.specs.declared.networks.Head.{Head}
use Rattle.plan_model.specs.declared.networks.Head.TheVariants.{Task, Action, Check}
use Rattle.plan_model.specs.declared.networks.Child.{Child}
use Rattle.plan_model.specs.declared.schemas.MethodPlan.{MethodPlan}
use Rattle.plan_model.specs.plan_meaning.Truth.{AreTyped}
use Rattle.value_choices.specs.Meeting.{AreMet}

-- the terms of a subtask that is no check
abbrev pub said_of : Head → List Term → List Term
said_of (Task t) args = args
said_of (Action a) args = args
said_of Check args = []

abbrev pub said_by : List Child → List Term
said_by [] = []
said_by (child ∷ children) = said_of child.head child.args ++ said_by children

-- those of the task and of the subtasks, without the check
abbrev pub said : MethodPlan → List Term
said plan = plan.schema.task_args ++ said_by plan.schema.children

-- of the declared types, they meet the constraints, and each parameter that is said keeps its value
pub record CanTake (InType : ℕ → ℕ → Type 0) (plan : MethodPlan) (old values : List ℕ) : Type 0 where
  pub typed : AreTyped InType plan.schema.params values
  pub met : AreMet plan.schema.constraints values
  pub same : (k : ℕ) → k < length plan.schema.params → Contains (said plan) (Var k) → slice_index values k ≡ slice_index old k

-- the old value, where the variable is among the terms, and nothing for the others
abbrev pub IsKnownAt : List ℕ → List Term → ℕ → Option ℕ → Type 0
IsKnownAt old terms k known = MatchOption known (Contains terms (Var k) → ⊥) (λ x. (x ≡ slice_index old k) × Contains terms (Var k))

abbrev pub IsKnown : List ℕ → List Term → List (Option ℕ) → Type 0
IsKnown old terms known = (k : ℕ) → k < length known → IsKnownAt old terms k (slice_index_or known k None)
