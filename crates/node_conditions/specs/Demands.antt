-- What is asked where a node is to stand in a gap.
-- Source: this project's.
use Rattle.std.specs.Prelude.{ℕ, ◌≡◌, List, length, Option, Some, None}
use Rattle.std.specs.Borrow.{Bor}
use Rattle.plan_model.specs.declared.formulas.Formula.{Formula}
use Rattle.plan_model.specs.declared.schemas.MethodPlan.{MethodPlan}
use Rattle.plan_model.specs.plan_meaning.Truth.{State, IsTrueIn}
use Rattle.value_choices.specs.Choices.{CanBe}
use Rattle.value_choices.specs.Meeting.{AreMet}
use Rattle.node_conditions.specs.declared.demand.Demand.{Demand}
use Rattle.node_conditions.specs.declared.demand.Demand.TheVariants.{Nothing, Never, Action, Method}

-- what is known is so of each parameter, or not
abbrev pub IsAskable : Demand → Type 0
IsAskable Nothing = Unit {0}
IsAskable Never = Unit {0}
IsAskable (Action pre args) = Unit {0}
IsAskable (Method plan known condition) = length known.items ≡ length plan.now.schema.params

-- it is met with all values or with none
abbrev pub IsFree : Demand → Type 0
IsFree Nothing = Unit {0}
IsFree Never = Unit {0}
IsFree (Action pre args) = Unit {0}
IsFree (Method plan known condition) = ⊥

module _ (InType : ℕ → ℕ → Type 0) (S : State) where
  abbrev pub IsAsked : Option (Bor Formula) → List ℕ → Type 0
  IsAsked None values = Unit {0}
  IsAsked (Some f) values = IsTrueIn InType S f.now values

  -- the values meet the constraints, and the condition is true with them
  pub record IsMetBy (plan : MethodPlan) (condition : Option (Bor Formula)) (values : List ℕ) : Type 0 where
    pub met : AreMet plan.schema.constraints values
    pub asked : IsAsked condition values

  -- and the parameters can have them
  pub record Suit (plan : MethodPlan) (known : List (Option ℕ)) (condition : Option (Bor Formula)) (values : List ℕ) : Type 0 where
    pub can : CanBe InType plan.schema.params known values
    pub by : IsMetBy plan condition values

  -- the demand is met in this state with these values
  abbrev pub IsMet : Demand → List ℕ → Type 0
  IsMet Nothing values = Unit {0}
  IsMet Never values = ⊥
  IsMet (Action pre args) values = IsTrueIn InType S pre.now args.now
  IsMet (Method plan known condition) values = Suit plan.now known.items condition values
