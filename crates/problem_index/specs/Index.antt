-- Where the actions and objects of a problem stand, and what is found for a word.
-- Source: this project's; a plan and a failing step as in plan_meaning.
use Rattle.std.specs.Prelude.{ℕ, ◌≡◌, MatchOption, List, map, length, Option}
use Rattle.plan_model.specs.declared.types.Object.{Object}
use Rattle.plan_model.specs.declared.types.Types.{Types}
use Rattle.plan_model.specs.declared.schemas.ActionSchema.{ActionSchema}
use Rattle.plan_model.specs.declared.steps.GroundAction.{GroundAction}
use Rattle.plan_model.specs.declared.values.Pddl.{Pddl}
use Rattle.plan_model.specs.plan_meaning.ClassicalPlan.{HasWord, InTypeOf}
use Rattle.plan_model.specs.plan_meaning.FailingStep.{IsNamed, NamesAction, AreNamedApart}
use Rattle.problem_index.specs.declared.index.Index.{Index}
use Rattle.problem_index.specs.declared.places.Places.{Places}
use Rattle.problem_index.specs.declared.world.World.{World}
use Rattle.problem_index.specs.Kinds.{AreKinds}
use Rattle.problem_index.specs.Places.{ArePlaces}

-- where these things stand, by the numbers of their names, of which there are as many as words
abbrev pub AreActionPlaces : List (List ℕ) → List ActionSchema → Places → Type 0
AreActionPlaces names actions places = ArePlaces (length names) (map (λ (a : ActionSchema). a.name) actions) places.by_name.items

abbrev pub AreObjectPlaces : List (List ℕ) → List Object → Places → Type 0
AreObjectPlaces names objects places = ArePlaces (length names) (map (λ (x : Object). x.name) objects) places.by_name.items

pub record IsIndexOf (names : List (List ℕ)) (types : Types) (objects : List Object) (actions : List ActionSchema) (index : Index) : Type 0 where
  pub words : index.words ≡ names
  pub actions_stand : AreActionPlaces names actions index.actions
  pub objects_stand : AreObjectPlaces names objects index.objects
  pub kinds : AreKinds types objects index.kinds

abbrev pub IsIndex : Pddl → Index → Type 0
IsIndex p = IsIndexOf p.names p.types p.objects p.actions

-- the index and the world are those of the problem, in which no two actions have one word, and no two objects
pub record AreOf (p : Pddl) (index : Index) (world : World) : Type 0 where
  pub apart : AreNamedApart p
  pub indexed : IsIndex p index
  pub types : world.types.now ≡ p.types
  pub objects : world.objects.now ≡ p.objects

-- the action that the step names, or that it names none
abbrev pub IsTheAction : Pddl → GroundAction → Option ActionSchema → Type 0
IsTheAction p step found = MatchOption found (NamesAction p step → ⊥) (IsNamed p step)

-- the same of each step with the name
abbrev pub HasTheName : Pddl → List ℕ → Option ActionSchema → Type 0
HasTheName p name found = (args : List (List ℕ)) → IsTheAction p (record { name = name; args = args }) found

-- the object has the word, and is in the type
abbrev pub IsArgument : Pddl → List ℕ → ℕ → ℕ → Type 0
IsArgument p word ty x = HasWord p x word × InTypeOf p x ty

abbrev pub IsTheArgument : Pddl → List ℕ → ℕ → Option ℕ → Type 0
IsTheArgument p word ty found = MatchOption found ((x : ℕ) → IsArgument p word ty x → ⊥) (IsArgument p word ty)
