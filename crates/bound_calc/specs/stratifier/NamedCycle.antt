-- The bad cycle that is named, as one list of edges; numbers for the groups of tasks.
-- Source: this project's, after the tail-recursive problems of Alford et al., "Bound to Plan", ICAPS 2016.
use Rattle.std.specs.Prelude.{ℕ, ◌≡◌, ◌≤◌, ◌+◌, ◌↔◌, List, [], ◌∷◌, map, length, slice_index_or, Option, MatchOption}
use Rattle.plan_model.specs.declared.values.Compiled.{Compiled}
use Rattle.plan_model.specs.plan_meaning.Network.{top_task}
use Rattle.plan_model.specs.plan_meaning.Schemas.{task}
use Rattle.plan_model.specs.plan_meaning.Strata.{Edge, IsTailRecursive, IsNamedCycle, IsOneGroup}
use Rattle.bound_calc.specs.declared.stratifier.edge.Edge as Declared
use Rattle.bound_calc.specs.stratifier.Listed.{edge_of}

-- the bad edge first, then the walk back
abbrev pub IsNamed : Compiled → List Edge → Type 0
IsNamed c [] = ⊥
IsNamed c (e ∷ walk) = IsNamedCycle c e walk

-- the named cycle, or none in a problem that is tail-recursive
abbrev pub MayBeNamed : Compiled → Option (List Declared.Edge) → Type 0
MayBeNamed c cycle = MatchOption cycle (IsTailRecursive c) (λ edges. IsNamed c (map edge_of edges))

-- two tasks have one number exactly where each reaches the other
pub record AreGroupNumbers (c : Compiled) (groups : List ℕ) : Type 0 where
  pub room : length groups ≡ top_task c + 1
  pub one : (s t : ℕ) → s ≤ top_task c → t ≤ top_task c → (slice_index_or groups s 0 ≡ slice_index_or groups t 0) ↔ IsOneGroup c (task s) (task t)
