-- Why a compiled problem has no bound that is told.
-- Source: this project's, after the tail-recursive problems of Alford et al., "Bound to Plan", ICAPS 2016.
use Rattle.std.specs.Prelude.{ℕ, ◌≡◌, ◌≤◌, ◌^◌, ◌++◌, List, codes}
use Rattle.std.specs.List.{flat_map}
use Rattle.plan_model.specs.declared.values.Compiled.{Compiled}
use Rattle.plan_model.specs.plan_meaning.Strata.{Edge}
use Rattle.plan_model.specs.plan_meaning.Bound.{IsBound}
use Rattle.bound_calc.specs.stratifier.NamedCycle.{IsNamed}
use Rattle.bound_calc.specs.stratifier.CycleWords.{cycle_words}
use Rattle.bound_calc.specs.declared.finding.NoBound.{NoBound}
use Rattle.bound_calc.specs.declared.finding.NoBound.TheVariants.{Cycle, Past128, Memory}

-- the words, each behind a space
abbrev pub spaced : List (List ℕ) → List ℕ
spaced words = flat_map (λ word. codes " " ++ word) words

-- the bad cycle that is named has these words
abbrev pub NamesCycle : Compiled → List ℕ → Type 0
NamesCycle c words = (edges : List Edge) × IsNamed c edges × (words ≡ spaced (cycle_words c edges))

-- the cause of a refusal
abbrev pub HasNoBound : Compiled → NoBound → Type 0
HasNoBound c (Cycle words) = NamesCycle c words
HasNoBound c Past128 = (n : ℕ) × IsBound c n × (2 ^ 128 ≤ n)
HasNoBound c Memory = Unit {0}
