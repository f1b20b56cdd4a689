-- What the networks of a compiled problem say of a method, as functions of its plan, if it has one.
use Rattle.std.specs.Prelude.{ℕ, MatchOption, List, [], Option, Contains}
use Rattle.std.specs.Option.{option_map_or, option_and_then}
use Rattle.plan_model.specs.declared.schemas.MethodPlan.{MethodPlan}
use Rattle.plan_model.specs.Pairs.{Pairs}
use Rattle.plan_model.specs.plan_meaning.Network.{Work, GroundMethod, task, decomposed, subtasks_of}
use Rattle.plan_model.specs.plan_meaning.Schemas.{Schema, subschemas_of}
use Rattle.plan_model.specs.plan_meaning.Schemas as Schemas

abbrev pub head_by : GroundMethod → Option MethodPlan → Work
head_by g o = option_map_or (decomposed g) o (task 0 [])

abbrev pub works_by : GroundMethod → Option MethodPlan → List Work
works_by g o = option_map_or (subtasks_of g) o []

abbrev pub heir_by : Option MethodPlan → Option ℕ
heir_by o = option_and_then (λ plan. plan.heir) o

abbrev pub IsPairBy : Option MethodPlan → ℕ → ℕ → Type 0
IsPairBy o i j = MatchOption o ⊥ (λ plan. Pairs plan.schema.pairs i j)

abbrev pub IsCopierBy : Option MethodPlan → ℕ → Type 0
IsCopierBy o i = MatchOption o ⊥ (λ plan. Contains plan.copiers i)

abbrev pub head_schema_by : Option MethodPlan → Schema
head_schema_by o = option_map_or (λ (plan : MethodPlan). Schemas.task plan.schema.task) o (Schemas.task 0)

abbrev pub schemas_by : ℕ → Option MethodPlan → List Schema
schemas_by m o = option_map_or (subschemas_of m) o []
