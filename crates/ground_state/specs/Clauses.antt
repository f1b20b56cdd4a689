-- What the calls answer, where an environment has the objects of the variables in force.
-- Source: this project's; truth and the state after an effect as in plan_meaning.
use Rattle.std.specs.Prelude.{ℕ, Bool, List}
use Rattle.plan_model.specs.declared.types.Types.{Types}
use Rattle.plan_model.specs.declared.types.Object.{Object}
use Rattle.plan_model.specs.declared.terms.Param.{Param}
use Rattle.plan_model.specs.declared.formulas.Formula.{Formula}
use Rattle.plan_model.specs.declared.effects.Effect.{Effect}
use Rattle.plan_model.specs.Typing.{InType}
use Rattle.plan_model.specs.plan_meaning.Truth.{IsTrueIn, after}
use Rattle.problem_index.specs.declared.domain.Domain.{Domain}
use Rattle.problem_index.specs.declared.world.World.{World}
use Rattle.problem_index.specs.Domains.{IsDomainOf}
use Rattle.ground_state.specs.declared.env.Env.{Env}
use Rattle.ground_state.specs.declared.atom_list.AtomLists.{AtomLists}
use Rattle.ground_state.specs.declared.state.State.{State}
use Rattle.ground_state.specs.declared.passes.Pass.{Pass}
use Rattle.ground_state.specs.Frames.{frame}
use Rattle.ground_state.specs.Passes.{of_adds, Passes}
use Rattle.ground_state.specs.States.{atoms, Has}
use Rattle.ground_state.specs.Search.{IsAmongParts, IsFound, Gathers, Touches, OneTouches, TouchesWithin, side}

module _ (types : Types) (objects : List Object) where
  -- the formula is true in the state
  abbrev pub IsTrueBy : State → Formula → Env → Type 0
  IsTrueBy s f env = IsTrueIn (InType types objects) (atoms s) f (frame env).objects

  -- the new state is the one after the effect
  abbrev pub After : State → Effect → Env → State → Type 0
  After old e env new = Has new (after (InType types objects) (atoms old) e (frame env).objects)

module _ (world : World) where
  abbrev pub IsInType : ℕ → ℕ → Type 0
  IsInType = InType world.types.now world.objects.now

  abbrev pub IsTrueInWorld : State → Formula → Env → Type 0
  IsTrueInWorld = IsTrueBy world.types.now world.objects.now

  abbrev pub AfterInWorld : State → Effect → Env → State → Type 0
  AfterInWorld = After world.types.now world.objects.now

  -- the domain has the objects of the type
  abbrev pub IsDomainIn : ℕ → Domain → Type 0
  IsDomainIn = IsDomainOf world.types.now world.objects.now

  -- one of the formulas is as wanted, or each is not
  abbrev pub IsAmong : State → Bool → Bool → List Formula → Env → Type 0
  IsAmong s wanted found fs env = IsAmongParts IsInType (atoms s) wanted found fs (frame env).objects

  -- for some objects of the types the formula is as wanted, or for each it is not
  abbrev pub Finds : State → Bool → Bool → List Param → Formula → Env → Type 0
  Finds s wanted found ps f env = IsFound IsInType (atoms s) wanted found ps f (frame env).objects

  -- the pass has been made over what an effect touches, over what effects touch, and over what one does with more variables;
  -- no condition is tested, so that any state will do
  abbrev pub HasPassed : Pass → Effect → Env → State → State → Type 0
  HasPassed pass e env old new = (s : State) → Passes pass (Touches IsInType (atoms s) (of_adds pass) e (frame env).objects) old new

  abbrev pub HasPassedEach : Pass → List Effect → Env → State → State → Type 0
  HasPassedEach pass es env old new = (s : State) → Passes pass (OneTouches IsInType (atoms s) (of_adds pass) es (frame env).objects) old new

  abbrev pub HasPassedWithin : Pass → List Param → Effect → Env → State → State → Type 0
  HasPassedWithin pass ps e env old new = (s : State) → Passes pass (TouchesWithin IsInType (atoms s) (of_adds pass) ps e (frame env).objects) old new

  -- what is added, and what is deleted, by an effect, by effects, and by one with more variables, stands behind the old lists
  abbrev pub Gets : State → Effect → Env → AtomLists → AtomLists → Type 0
  Gets s e env old new = (adds : Bool) → Gathers (Touches IsInType (atoms s) adds e (frame env).objects) (side adds old) (side adds new)

  abbrev pub GetsEach : State → List Effect → Env → AtomLists → AtomLists → Type 0
  GetsEach s es env old new = (adds : Bool) → Gathers (OneTouches IsInType (atoms s) adds es (frame env).objects) (side adds old) (side adds new)

  abbrev pub GetsWithin : State → List Param → Effect → Env → AtomLists → AtomLists → Type 0
  GetsWithin s ps e env old new = (adds : Bool) → Gathers (TouchesWithin IsInType (atoms s) adds ps e (frame env).objects) (side adds old) (side adds new)
