-- Values that parameters can have, and that meet constraints.
-- Source: this project's.
use Rattle.std.specs.Prelude.{ℕ, List, Option, MatchOption, Contains}
use Rattle.plan_model.specs.declared.networks.Constraint.{Constraint}
use Rattle.plan_model.specs.declared.terms.Param.{Param}
use Rattle.plan_model.specs.plan_meaning.Network.{Meets}
use Rattle.value_choices.specs.Choices.{CanBe, IsFirst}

abbrev pub AreMet : List Constraint → List ℕ → Type 0
AreMet constraints values = (con : Constraint) → Contains constraints con → Meets values con

module _ (InType : ℕ → ℕ → Type 0) (params : List Param) (constraints : List Constraint) (known : List (Option ℕ)) where
  -- the parameters can have the values, and these meet the constraints
  pub record CanMeet (values : List ℕ) : Type 0 where
    pub can : CanBe InType params known values
    pub meets : AreMet constraints values

  -- the first such values, or there are none
  abbrev pub AreTheFirst : Option (List ℕ) → Type 0
  AreTheFirst found = MatchOption found ((values : List ℕ) → CanMeet values → ⊥) (IsFirst CanMeet)
