-- The atoms that are true in a computed state.
-- Source: this project's; a state as in Truth.
use Rattle.std.specs.Prelude.{ℕ, ◌≡◌, ◌≢◌, ◌⊎◌, ◌↔◌, Bool, false, IsTrue, IsSome, List, Contains, slice_get, Option, unwrap_or}
use Rattle.std.specs.Option.{option_map, option_and_then}
use Rattle.plan_model.specs.declared.terms.GroundAtom.{GroundAtom}
use Rattle.plan_model.specs.plan_meaning.Truth as truth
use Rattle.ground_state.specs.declared.state.State.{State}
use Rattle.ground_state.specs.Notes as notes

-- what is noted of the predicate and these objects
abbrev pub note : State → ℕ → List ℕ → Option Bool
note s predicate args = option_and_then (λ lists. notes.noted lists args) (slice_get s.facts.items predicate)

-- the predicate and these objects
abbrev pub atom : ℕ → List ℕ → GroundAtom
atom predicate args = record { predicate = predicate; args = args }

abbrev pub note_of : State → GroundAtom → Option Bool
note_of s g = note s g.predicate g.args

-- whether the predicate is true of these objects
abbrev pub has : State → ℕ → List ℕ → Bool
has s predicate args = unwrap_or (note s predicate args) false

abbrev pub has_ground : State → GroundAtom → Bool
has_ground s g = has s g.predicate g.args

-- the atoms that the set has
abbrev pub atoms : State → truth.State
atoms s g = IsTrue (has_ground s g)

-- the atoms of the set are those that are as P says
abbrev pub Has : State → truth.State → Type 0
Has s P = (g : GroundAtom) → atoms s g ↔ P g

-- two sets have the same atoms
abbrev pub IsSame : State → State → Type 0
IsSame s t = Has t (atoms s)

-- the same is noted of each atom
abbrev pub HasSameNotes : State → State → Type 0
HasSameNotes old new = (predicate : ℕ) (args : List ℕ) → note new predicate args ≡ note old predicate args

-- w is noted of this atom now, and of others what was noted before
pub record IsNoted (old : State) (a : GroundAtom) (w : Option Bool) (new : State) : Type 0 where
  pub here : note_of new a ≡ w
  pub others : (g : GroundAtom) → g ≢ a → note_of new g ≡ note_of old g

-- the same, where something was noted of the atom
abbrev pub IsSet : State → GroundAtom → Bool → State → Type 0
IsSet old a truth new = IsNoted old a (option_map (λ _. truth) (note_of old a)) new

-- something is noted of each of the atoms
abbrev pub AreNoted : List GroundAtom → State → Type 0
AreNoted list s = (g : GroundAtom) → Contains list g → IsSome (note_of s g)

-- of what something was noted something still is
abbrev pub KeepsNotes : State → State → Type 0
KeepsNotes old new = (g : GroundAtom) → IsSome (note_of old g) → IsSome (note_of new g)

-- those of the set, and those of a list
abbrev pub WithAll : State → List GroundAtom → truth.State
WithAll s list g = atoms s g ⊎ Contains list g

-- those of the set that are none of a list
abbrev pub WithoutAll : State → List GroundAtom → truth.State
WithoutAll s list g = atoms s g × (Contains list g → ⊥)
