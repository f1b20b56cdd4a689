-- What is promised of a cycle that was told, or of a method.
-- Source: this project's.
use Rattle.std.specs.Prelude.{ℕ, List, ◌∷◌, ◌++◌, codes}
use Rattle.outside_io.specs.Sink.{SinkState}
use Rattle.plan_model.specs.declared.options.Checks.{Checks}
use Rattle.plan_model.specs.declared.values.Compiled.{Compiled}
use Rattle.plan_model.specs.plan_meaning.Network.{GroundMethod}
use Rattle.plan_model.specs.plan_meaning.Strata.{Edge}
use Rattle.bound_calc.specs.NoBound.{spaced}
use Rattle.bound_calc.specs.stratifier.NamedCycle.{IsNamed}
use Rattle.bound_calc.specs.stratifier.CycleWords.{cycle_line}
use Rattle.slot_machine.specs.bound_laws.NetworkEdges as ground
use Rattle.ground_bound.specs.GroundBound.{IsGroundCycle}
use Rattle.ground_bound.specs.GroundCycleWords.{ground_cycle_words}
use Rattle.command_words.specs.declared.level.Level.{Level}
use Rattle.command_words.specs.declared.level.Level.TheVariants.{Lifted, Ground}
use Rattle.stack_encoding.specs.TotalOrder.{IsFirstUnordered}
use Rattle.htn_cli.specs.PrintedForms.{unordered_word}
use Rattle.htn_cli.specs.Refusal.{line_of}
use Rattle.htn_cli.specs.Sent.{Told}
use Rattle.htn_cli.specs.declared.refusal.Finding.TheVariants as finding
use Rattle.htn_cli.specs.declared.refusal.Refusal.TheVariants as refused
use Rattle.htn_cli.specs.promise.Problems.{ForEach}

-- the line that refuses a problem with this bad cycle in what is reached of it
abbrev pub ground_cycle_line : Compiled → List (ground.Edge GroundMethod) → List ℕ
ground_cycle_line c edges = codes "not tail-recursive:" ++ spaced (ground_cycle_words c edges) ++ codes "\n"

-- a problem that is not tail-recursive, or not in what is reached: the line tells its bad cycle that is named
abbrev pub TellsCycle : Level → (checks : Checks) (d p : List ℕ) → SinkState → SinkState → Type 0
TellsCycle Lifted checks d p err err' = ForEach d p checks (λ h c. (edges : List Edge) × IsNamed c edges × Told (cycle_line c edges) err err')
TellsCycle Ground checks d p err err' =
    ForEach d p checks (λ h c. (e : ground.Edge GroundMethod) × (walk : List (ground.Edge GroundMethod)) × IsGroundCycle c e walk
    × Told (ground_cycle_line c (e ∷ walk)) err err')

-- a problem that is not totally ordered: the line tells its first method that is not
abbrev pub TellsUnordered : (checks : Checks) (d p : List ℕ) → SinkState → SinkState → Type 0
TellsUnordered checks d p err err' =
    ForEach d p checks (λ h c. (m : ℕ) × IsFirstUnordered c m × Told (line_of (refused.Finding (finding.NotTotallyOrdered (unordered_word c m)))) err err')
