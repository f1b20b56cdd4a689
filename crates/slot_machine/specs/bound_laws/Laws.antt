-- Which compiled problems have a bound, and that it bounds every front.
-- Source: this project's, after the tail-recursive problems of Alford et al., "Bound to Plan", ICAPS 2016.
use Rattle.std.specs.Prelude.{ℕ, ◌≡◌, ◌⊎◌, ◌↔◌, List}
use Rattle.plan_model.specs.declared.values.Compiled.{Compiled}
use Rattle.plan_model.specs.task_networks.Tree.{Tree, Address}
use Rattle.plan_model.specs.task_networks.Pending.{IsWithin}
use Rattle.plan_model.specs.task_networks.Front.{IsFront}
use Rattle.plan_model.specs.plan_meaning.Network.{network}
use Rattle.plan_model.specs.plan_meaning.Schemas.{Schema}
use Rattle.plan_model.specs.plan_meaning.Solution.{top_work}
use Rattle.plan_model.specs.plan_meaning.Strata.{Edge, IsTailRecursive, IsNamedCycle, IsRanking}
use Rattle.plan_model.specs.plan_meaning.Bound.{IsBound}

module _ (c : Compiled) where
  -- a problem is tail-recursive, or it has the bad cycle that is named
  abbrev pub TailRecursiveOrNamedCycle : Type 0
  TailRecursiveOrNamedCycle = IsTailRecursive c ⊎ ((e : Edge) × (walk : List Edge) × IsNamedCycle c e walk)

  -- and not both
  abbrev pub TailRecursiveHasNoNamedCycle : Type 0
  TailRecursiveHasNoNamedCycle = IsTailRecursive c → (e : Edge) (walk : List Edge) → IsNamedCycle c e walk → ⊥

  -- one cycle at most is the named one
  abbrev pub NamedCycleIsTheOnlyOne : Type 0
  NamedCycleIsTheOnlyOne = (e d : Edge) (walk back : List Edge) → IsNamedCycle c e walk → IsNamedCycle c d back → (e ≡ d) × (walk ≡ back)

  -- a tail-recursive problem has exactly one bound
  abbrev pub TailRecursiveHasOneBound : Type 0
  TailRecursiveHasOneBound = IsTailRecursive c → (n : ℕ) × IsBound c n × ((other : ℕ) → IsBound c other → other ≡ n)

  -- and no other problem has one
  abbrev pub BoundedIsTailRecursive : Type 0
  BoundedIsTailRecursive = (n : ℕ) → IsBound c n → IsTailRecursive c

  -- no schedule of any front, executable or not, has more pending at any time than the bound
  abbrev pub EveryFrontIsWithinTheBound : Type 0
  EveryFrontIsWithinTheBound = (n : ℕ) → IsBound c n → (tree : Tree (network c)) (order : List Address)
      → IsFront (network c) (top_work c) tree order → IsWithin (network c) n tree order

  -- lawful rankings are of the tail-recursive problems, and each of these has one
  abbrev pub RankedExactly : Type 0
  RankedExactly = IsTailRecursive c ↔ ((rank : Schema → ℕ) × IsRanking c rank)
