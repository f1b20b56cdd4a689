-- Executable lists of ground actions and plans of a PDDL value. Nothing here knows of slots.
-- Source: this project's reading of Fox and Long, "PDDL2.1", JAIR 20, 2003, level 1, without times: a plan is a list of ground actions, each applicable in the state
-- before it, after which the goal is true.
use Rattle.std.specs.Prelude.{ℕ, ◌≡◌, List, [], ◌∷◌, Contains, slice_get, Some}
use Rattle.plan_model.specs.declared.types.Object.{Object}
use Rattle.plan_model.specs.declared.schemas.ActionSchema.{ActionSchema}
use Rattle.plan_model.specs.declared.steps.GroundAction.{GroundAction}
use Rattle.plan_model.specs.declared.values.Pddl.{Pddl}
use Rattle.plan_model.specs.Typing.{InType}
use Rattle.plan_model.specs.plan_meaning.Truth.{State, AreTyped, IsTrueIn, after}

module _ (c : Pddl) where
  -- object o has this word
  abbrev pub HasWord : ℕ → List ℕ → Type 0
  HasWord o word = (x : Object) × (slice_get c.objects o ≡ Some x) × (slice_get c.names x.name.number ≡ Some word)

  abbrev pub AreObjects : List ℕ → List (List ℕ) → Type 0
  AreObjects [] [] = Unit {0}
  AreObjects (o ∷ os) (w ∷ ws) = HasWord o w × AreObjects os ws
  AreObjects [] (w ∷ ws) = ⊥
  AreObjects (o ∷ os) [] = ⊥

  abbrev pub InTypeOf : ℕ → ℕ → Type 0
  InTypeOf = InType c.types c.objects

  -- the step is the action with these objects, each in its parameter's type, and its condition is true
  pub record IsApplicable (S : State) (step : GroundAction) (a : ActionSchema) (objects : List ℕ) : Type 0 where
    pub action : Contains c.actions a
    pub name : slice_get c.names a.name.number ≡ Some step.name
    pub objects_are : AreObjects objects step.args
    pub typed : AreTyped InTypeOf a.params objects
    pub condition : IsTrueIn InTypeOf S a.pre objects

  -- from S on each step is applicable in the state before it, and the state at the end is one of P
  abbrev pub EndsIn : (State → Type 0) → State → List GroundAction → Type 0
  EndsIn P S [] = P S
  EndsIn P S (step ∷ steps) = (a : ActionSchema) × (objects : List ℕ) × IsApplicable S step a objects × EndsIn P (after InTypeOf S a.eff objects) steps

  abbrev pub IsExecutable : List GroundAction → Type 0
  IsExecutable steps = EndsIn (λ S. Unit {0}) (Contains c.init) steps

  abbrev pub IsPlan : List GroundAction → Type 0
  IsPlan steps = EndsIn (λ S. IsTrueIn InTypeOf S c.goal []) (Contains c.init) steps
