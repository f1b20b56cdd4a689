-- The bound of a compiled problem at a level, and why it has none there: of its schemas, or over what is reached of it.
-- Source: this project's, after the progression bound of Alford et al., "Bound to Plan", ICAPS 2016.
use Rattle.std.specs.Prelude.{ℕ, ◌≡◌, ◌∷◌, List}
use Rattle.plan_model.specs.declared.values.Compiled.{Compiled}
use Rattle.plan_model.specs.plan_meaning.Bound.{IsBound}
use Rattle.plan_model.specs.plan_meaning.Network.{GroundMethod}
use Rattle.bound_calc.specs.NoBound.{NamesCycle, spaced}
use Rattle.slot_machine.specs.bound_laws.NetworkEdges.{Edge}
use Rattle.ground_bound.specs.GroundBound.{IsGroundBound, IsGroundCycle}
use Rattle.reached_parts.specs.HowMany.{most_reached, IsAtMost, IsMoreThan}
use Rattle.ground_bound.specs.GroundCycleWords.{ground_cycle_words}
use Rattle.command_words.specs.declared.level.Level.{Level}
use Rattle.command_words.specs.declared.level.Level.TheVariants.{Lifted, Ground}

-- n is the bound
abbrev pub IsBoundAt : Level → Compiled → ℕ → Type 0
IsBoundAt Lifted c n = IsBound c n
IsBoundAt Ground c n = IsAtMost c most_reached × IsGroundBound c n

-- the bad cycle that is named has these words, each behind a space
abbrev pub NamesCycleAt : Level → Compiled → List ℕ → Type 0
NamesCycleAt Lifted c words = NamesCycle c words
NamesCycleAt Ground c words = IsAtMost c most_reached
    × ((e : Edge GroundMethod) × (walk : List (Edge GroundMethod)) × IsGroundCycle c e walk × (words ≡ spaced (ground_cycle_words c (e ∷ walk))))

-- more is reached than is counted
abbrev pub IsPastCount : Level → Compiled → Type 0
IsPastCount Lifted c = ⊥
IsPastCount Ground c = IsMoreThan c most_reached
