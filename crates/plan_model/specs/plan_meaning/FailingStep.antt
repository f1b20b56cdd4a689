-- Where a list of ground actions fails to be a plan of a PDDL value: the first step that can't be taken, or the end, where the goal is false; and why, by the first cause.
-- Source: this project's; a plan as in ClassicalPlan.
use Rattle.std.specs.Prelude.{ℕ, ◌+◌, ◌≡◌, ◌⊎◌, ◌++◌, List, [], ◌∷◌, length, Contains, slice_get, Some}
use Rattle.plan_model.specs.declared.causes.FailWhy.{FailWhy}
use Rattle.plan_model.specs.declared.causes.FailWhy.TheVariants.{UnknownAction, Arguments, Condition, GoalFalse}
use Rattle.plan_model.specs.declared.schemas.ActionSchema.{ActionSchema}
use Rattle.plan_model.specs.declared.steps.GroundAction.{GroundAction}
use Rattle.plan_model.specs.declared.values.Pddl.{Pddl}
use Rattle.plan_model.specs.plan_meaning.Truth.{State, AreTyped, IsTrueIn}
use Rattle.plan_model.specs.plan_meaning.ClassicalPlan.{HasWord, AreObjects, InTypeOf, IsApplicable, EndsIn}

module _ (c : Pddl) where
  -- the step names the action
  pub record IsNamed (step : GroundAction) (a : ActionSchema) : Type 0 where
    pub action : Contains c.actions a
    pub name : slice_get c.names a.name.number ≡ Some step.name

  -- the step is the action with these objects, each in its parameter's type
  pub record IsInstance (step : GroundAction) (a : ActionSchema) (objects : List ℕ) : Type 0 where
    pub named : IsNamed step a
    pub objects_are : AreObjects c objects step.args
    pub typed : AreTyped (InTypeOf c) a.params objects

  abbrev pub NamesAction : GroundAction → Type 0
  NamesAction step = (a : ActionSchema) × IsNamed step a

  abbrev pub HasArguments : GroundAction → Type 0
  HasArguments step = (a : ActionSchema) × (objects : List ℕ) × IsInstance step a objects

  abbrev pub IsAllowed : State → GroundAction → Type 0
  IsAllowed S step = (a : ActionSchema) × (objects : List ℕ) × IsApplicable c S step a objects

  -- the step can't be taken in the state, and this is the first cause
  abbrev pub FailsIn : GroundAction → FailWhy → State → Type 0
  FailsIn step UnknownAction S = NamesAction step → ⊥
  FailsIn step Arguments S = NamesAction step × (HasArguments step → ⊥)
  FailsIn step Condition S = HasArguments step × (IsAllowed S step → ⊥)
  FailsIn step GoalFalse S = ⊥

  -- from S on step n, counted from 1, is the first that can't be taken
  abbrev pub StepFails : State → List GroundAction → ℕ → FailWhy → Type 0
  StepFails S steps n why = (before rest : List GroundAction) × (step : GroundAction) × (steps ≡ before ++ step ∷ rest) × (n ≡ length before + 1) × EndsIn c (FailsIn step why) S before

  -- from S on each step can be taken, and the goal is false at the end: that counts as a further step
  abbrev pub GoalFails : State → List GroundAction → ℕ → FailWhy → Type 0
  GoalFails S steps n why = (n ≡ length steps + 1) × (why ≡ GoalFalse) × EndsIn c (λ T. IsTrueIn (InTypeOf c) T c.goal [] → ⊥) S steps

  abbrev pub FailsFrom : State → List GroundAction → ℕ → FailWhy → Type 0
  FailsFrom S steps n why = StepFails S steps n why ⊎ GoalFails S steps n why

  -- the list fails at step n for this cause
  abbrev pub Fails : List GroundAction → ℕ → FailWhy → Type 0
  Fails = FailsFrom (Contains c.init)

  -- no two actions have one word, and no two objects
  pub record AreNamedApart : Type 0 where
    pub actions : (a b : ActionSchema) (step : GroundAction) → IsNamed step a → IsNamed step b → a ≡ b
    pub objects : (x y : ℕ) (word : List ℕ) → HasWord c x word → HasWord c y word → x ≡ y
