-- The network of a compiled problem's schemas: tasks, actions, checks and methods without their objects.
-- Source: Höller et al., "HDDL", AAAI 2020, lifted HTN planning.
use Rattle.std.specs.Prelude.{ℕ, ◌≡◌, MatchOption, List, [], map, slice_get, Some, Contains}
use Rattle.std.specs.Option.{option_map_or, option_and_then}
use Rattle.plan_model.specs.declared.networks.Head.{Head}
use Rattle.plan_model.specs.declared.networks.Head.TheVariants.{Task, Action, Check}
use Rattle.plan_model.specs.declared.networks.Child.{Child}
use Rattle.plan_model.specs.declared.schemas.MethodPlan.{MethodPlan}
use Rattle.plan_model.specs.declared.values.Compiled.{Compiled}
use Rattle.plan_model.specs.Pairs.{Pairs}
use Rattle.plan_model.specs.task_networks.Net.{Net}

pub data Schema : Type 0 where
  action : (number : ℕ) → Schema
  check : (method : ℕ) → Schema
  task : (number : ℕ) → Schema

abbrev pub IsPrimitive : Schema → Type 0
IsPrimitive (action a) = Unit {0}
IsPrimitive (check m) = Unit {0}
IsPrimitive (task t) = ⊥

-- what a child of method m stands for
abbrev pub schema_of : ℕ → Head → Schema
schema_of m (Task t) = task t
schema_of m (Action a) = action a
schema_of m Check = check m

abbrev pub subschemas_of : ℕ → MethodPlan → List Schema
subschemas_of m plan = map (λ (child : Child). schema_of m child.head) plan.schema.children

-- a method is its place in the compiled list, and each by its plan, as in the ground network
abbrev pub schemas : Compiled → Net
schemas c = record {
  Work = Schema;
  Method = ℕ;
  head = λ m. option_map_or (λ (plan : MethodPlan). task plan.schema.task) (slice_get c.methods m) (task 0);
  works = λ m. option_map_or (subschemas_of m) (slice_get c.methods m) [];
  IsSimple = IsPrimitive;
  IsGround = λ m. (plan : MethodPlan) × (slice_get c.methods m ≡ Some plan);
  Pair = λ m i j. MatchOption (slice_get c.methods m) ⊥ (λ plan. Pairs plan.schema.pairs i j);
  heir = λ m. option_and_then (λ plan. plan.heir) (slice_get c.methods m);
  IsCopier = λ m i. MatchOption (slice_get c.methods m) ⊥ (λ plan. Contains plan.copiers i);
}
