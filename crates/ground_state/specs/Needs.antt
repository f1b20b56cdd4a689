-- The room that is enough for a formula, an effect, an action, and a whole problem: an environment with at least that much has room.
-- Source: this project's.
use Rattle.std.specs.Prelude.{ℕ, ◌≤◌, List, length, Contains}
use Rattle.plan_model.specs.declared.formulas.Formula.{Formula}
use Rattle.plan_model.specs.declared.effects.Effect.{Effect}
use Rattle.plan_model.specs.declared.terms.Param.{Param}
use Rattle.plan_model.specs.declared.schemas.ActionSchema.{ActionSchema}
use Rattle.plan_model.specs.declared.schemas.MethodPlan.{MethodPlan}
use Rattle.plan_model.specs.declared.values.Compiled.{Compiled}
use Rattle.plan_model.specs.declared.values.Pddl.{Pddl}
use Rattle.ground_state.specs.declared.need.Need.{Need}
use Rattle.ground_state.specs.Room.{fits, effect_fits}

abbrev pub IsWithin : Need → Need → Type 0
IsWithin less more = (less.depth ≤ more.depth) × (less.arity ≤ more.arity)

-- P is true of each room of at least this much
abbrev pub Allows : (ℕ → ℕ → Type 0) → Need → Type 0
Allows P need = (room arity : ℕ) → need.depth ≤ room → need.arity ≤ arity → P room arity

-- enough for the formula, or for the effect, where n variables are in force
abbrev pub IsEnough : ℕ → Formula → Need → Type 0
IsEnough n f = Allows (λ room arity. fits room arity f n)

abbrev pub IsEnoughForEffect : ℕ → Effect → Need → Type 0
IsEnoughForEffect n e = Allows (λ room arity. effect_fits room arity e n)

-- an action has room: for its parameters, its condition and its effect
pub record HasRoom (room arity : ℕ) (a : ActionSchema) : Type 0 where
  pub params : length a.params ≤ room
  pub pre : fits room arity a.pre (length a.params)
  pub eff : effect_fits room arity a.eff (length a.params)

-- a condition has room: for the parameters that it is on, and for itself
pub record HasRoomWithin (room arity : ℕ) (params : List Param) (f : Formula) : Type 0 where
  pub depth : length params ≤ room
  pub condition : fits room arity f (length params)

abbrev pub IsEnoughForAction : ActionSchema → Need → Type 0
IsEnoughForAction a = Allows (λ room arity. HasRoom room arity a)

abbrev pub IsEnoughWithin : List Param → Formula → Need → Type 0
IsEnoughWithin params f = Allows (λ room arity. HasRoomWithin room arity params f)

-- enough for each of the actions, or for the precondition of each of the methods
abbrev pub IsEnoughForEachAction : List ActionSchema → Need → Type 0
IsEnoughForEachAction actions = Allows (λ room arity. (a : ActionSchema) → Contains actions a → HasRoom room arity a)

abbrev pub IsEnoughForEachMethod : List MethodPlan → Need → Type 0
IsEnoughForEachMethod methods = Allows (λ room arity. (m : MethodPlan) → Contains methods m → HasRoomWithin room arity m.schema.params m.schema.pre)

-- each action of the problem and its goal have room
pub record HasRoomForAll (p : Pddl) (room arity : ℕ) : Type 0 where
  pub goal : fits room arity p.goal 0
  pub actions : (a : ActionSchema) → Contains p.actions a → HasRoom room arity a

abbrev pub IsEnoughForAll : Pddl → Need → Type 0
IsEnoughForAll p = Allows (HasRoomForAll p)

-- each action of the compiled problem, the precondition of each of its methods, and its goal have room
pub record HasRoomForCompiled (c : Compiled) (room arity : ℕ) : Type 0 where
  pub goal : fits room arity c.hddl.goal 0
  pub actions : (a : ActionSchema) → Contains c.hddl.actions a → HasRoom room arity a
  pub methods : (m : MethodPlan) → Contains c.methods m → HasRoomWithin room arity m.schema.params m.schema.pre

abbrev pub IsEnoughForCompiled : Compiled → Need → Type 0
IsEnoughForCompiled c = Allows (HasRoomForCompiled c)
