-- The states of all gaps, as the gaps in which atoms flip.
-- Source: this project's; a state as in Truth.
use Rattle.std.specs.Prelude.{ℕ, ◌≡◌, ◌≢◌, ◌<◌, ◌≤◌, ◌⊎◌, ◌↔◌, ◌∷◌, Bool, true, false, IsTrue, List}
use Rattle.plan_model.specs.declared.terms.GroundAtom.{GroundAtom}
use Rattle.plan_model.specs.plan_meaning.Truth as truth
use Rattle.state_history.specs.declared.flips.Flips.{Flips}
use Rattle.state_history.specs.Gaps.{is_true_in, flips_at}

-- the key of an atom: its predicate before its objects
abbrev pub key_of : GroundAtom → List ℕ
key_of g = g.predicate ∷ g.args

abbrev pub truth_in : Flips → ℕ → GroundAtom → Bool
truth_in flips gap g = is_true_in gap (flips_at flips.gaps (key_of g))

-- the atoms that are true in the gap
abbrev pub states : Flips → ℕ → truth.State
states flips gap g = IsTrue (truth_in flips gap g)

-- from the last gap on the atom is so; other atoms, and all before that gap, are as they were
pub record IsSet (old : Flips) (a : GroundAtom) (truth : Bool) (new : Flips) : Type 0 where
  pub last : new.last ≡ old.last
  pub here : truth_in new old.last a ≡ truth
  pub others : (j : ℕ) (g : GroundAtom) → g ≢ a → truth_in new j g ≡ truth_in old j g
  pub before : (j : ℕ) (g : GroundAtom) → j < old.last → truth_in new j g ≡ truth_in old j g

-- the state with the atoms that are as P says, or without them
abbrev pub changed : Bool → truth.State → (GroundAtom → Type 0) → truth.State
changed true S P g = S g ⊎ P g
changed false S P g = S g × (P g → ⊥)

-- in the last gap the atoms that are as P says are so, and the others as they were; before it all are as they were
pub record AreSet (old : Flips) (P : GroundAtom → Type 0) (truth : Bool) (new : Flips) : Type 0 where
  pub last : new.last ≡ old.last
  pub here : (g : GroundAtom) → states new old.last g ↔ changed truth (states old old.last) P g
  pub before : (j : ℕ) (g : GroundAtom) → j < old.last → truth_in new j g ≡ truth_in old j g

-- P is so of the state in each gap from the first to the last
abbrev pub IsSoIn : Flips → ℕ → ℕ → (truth.State → Type 0) → Type 0
IsSoIn flips first last P = (j : ℕ) → first ≤ j → j ≤ last → P (states flips j)
