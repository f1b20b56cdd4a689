-- What is proved.
use Rattle.std.specs.Prelude.{ℕ, ◌≡◌, ◌⊎◌, ◌↔◌, List, Some, take, Contains, ◌+◌, ◌≤◌, slice_get, length}
use Rattle.plan_model.specs.declared.terms.GroundAtom.{GroundAtom}
use Rattle.htn_base.specs.Different.{AreDifferent}
use Rattle.plan_model.specs.declared.schemas.ActionSchema.{ActionSchema}
use Rattle.plan_model.specs.declared.values.Compiled.{Compiled}
use Rattle.plan_model.specs.task_networks.Net.{Net}
use Rattle.plan_model.specs.task_networks.Tree.{Tree, waits, Address, work_of, at, label_at}
use Rattle.plan_model.specs.task_networks.Pending.{IsWithin}
use Rattle.plan_model.specs.task_networks.Front.{IsFront}
use Rattle.plan_model.specs.task_networks.Executable.{last_state}
use Rattle.plan_model.specs.task_networks.Bound.{AreLargeEnough}
use Rattle.plan_model.specs.plan_meaning.Network.{check, GroundMethod, network, Work, action, InTypeOf, IsGroundMethod}
use Rattle.plan_model.specs.plan_meaning.Truth.{State}
use Rattle.plan_model.specs.plan_meaning.Solution.{Allows, next, initial, IsExecutableFront, IsSolution}
use Rattle.reached_parts.specs.Restricted.{restricted, UsesOnly}
use Rattle.reached_parts.specs.Reached.{IsNoCheck, IsReachedBy, AreClosed, AreReached, AreForced, IsSize}
use Rattle.reached_parts.specs.MayBeTrue.{MayBeTrue, MayAdd}
use Rattle.slot_machine.specs.bound_laws.NetworkEdges.{Edge, IsTailRecursive, IsNamedCycle, IsRanking}
use Rattle.slot_machine.specs.bound_laws.NetworkBound.{IsBoundOf}
use Rattle.slot_machine.specs.bound_laws.Finite.{IsFinite}
use Rattle.ground_bound.specs.GroundBound.{IsGroundBound, IsGroundTailRecursive, IsGroundCycle}

-- no schedule of a front whose nodes are decomposed by these methods has more pending than a number that is large enough for these methods
abbrev pub RestrictedWidthIsBounded : Net → Type 0
RestrictedWidthIsBounded N = (methods : List N.Method) (block : N.Method → ℕ → ℕ) (number : N.Work → ℕ) (top : N.Work)
    → AreLargeEnough (restricted N methods) block number top
    → (tree : Tree N) (order : List Address) → IsFront N top tree order → UsesOnly N methods tree → IsWithin N (number top) tree order

module _ (c : Compiled) where
  -- no check stands in the tree that waits
  abbrev pub NoCheckWaits : Tree (network c) → Type 0
  NoCheckWaits tree = (p : Address) (m : ℕ) (values : List ℕ) → label_at (network c) tree p ≡ Some (waits (check m values)) → ⊥

  -- what is true in a state of an executable front is among the reached atoms
  abbrev pub StatesAreReached : Type 0
  StatesAreReached = (methods : List GroundMethod) (atoms : List GroundAtom) → AreReached c methods atoms
      → (tree : Tree (network c)) (order : List Address) (front : IsExecutableFront c tree order) (k : ℕ) (a : GroundAtom)
      → last_state (network c) State (Allows c) (next c) (initial c) (take k front.executable.labels) a → Contains atoms a

  -- what is taken in an executable front, and is no check, is reached
  abbrev pub TakenAreReached : Type 0
  TakenAreReached = (methods : List GroundMethod) (atoms : List GroundAtom) → AreReached c methods atoms
      → (tree : Tree (network c)) (order : List Address) → IsExecutableFront c tree order → (p : Address) (t : Tree (network c))
      → at (network c) tree p ≡ Some t
      → Contains order p → IsNoCheck (work_of (network c) t) → IsReachedBy c methods (work_of (network c) t)

  -- each decomposed node of an executable front in which no check waits is decomposed by a reached method
  abbrev pub NodesAreReached : Type 0
  NodesAreReached = (methods : List GroundMethod) (atoms : List GroundAtom) → AreReached c methods atoms
      → (tree : Tree (network c)) (order : List Address) → IsExecutableFront c tree order → NoCheckWaits tree
      → UsesOnly (network c) methods tree

  -- and each node of it is reached
  abbrev pub WorksAreReached : Type 0
  WorksAreReached = (methods : List GroundMethod) (atoms : List GroundAtom) → AreReached c methods atoms
      → (tree : Tree (network c)) (order : List Address) → IsExecutableFront c tree order → NoCheckWaits tree
      → (p : Address) (t : Tree (network c)) → at (network c) tree p ≡ Some t → IsReachedBy c methods (work_of (network c) t)

  -- no schedule of an executable front in which no check waits has more pending at any time than the ground bound
  abbrev pub CheckedFrontsAreWithin : Type 0
  CheckedFrontsAreWithin = (n : ℕ) → IsGroundBound c n → (tree : Tree (network c)) (order : List Address)
      → IsExecutableFront c tree order → NoCheckWaits tree → IsWithin (network c) n tree order

  -- no schedule of a solution has more pending at any time than the ground bound
  abbrev pub SolutionsAreWithin : Type 0
  SolutionsAreWithin = (n : ℕ) → IsGroundBound c n → (tree : Tree (network c)) (order : List Address) → IsSolution c tree order
      → IsWithin (network c) n tree order

  -- what is reached is tail-recursive, or has the bad cycle that is named
  abbrev pub GroundTailRecursiveOrCycle : Type 0
  GroundTailRecursiveOrCycle = IsGroundTailRecursive c
      ⊎ ((e : Edge GroundMethod) × (walk : List (Edge GroundMethod)) × IsGroundCycle c e walk)

  -- and not both
  abbrev pub GroundTailRecursiveHasNoCycle : Type 0
  GroundTailRecursiveHasNoCycle = IsGroundTailRecursive c → (e : Edge GroundMethod) (walk : List (Edge GroundMethod))
      → IsGroundCycle c e walk → ⊥

  -- one cycle at most is the named one
  abbrev pub GroundCycleIsTheOnlyOne : Type 0
  GroundCycleIsTheOnlyOne = (e d : Edge GroundMethod) (walk back : List (Edge GroundMethod)) → IsGroundCycle c e walk
      → IsGroundCycle c d back → (e ≡ d) × (walk ≡ back)

  -- where there is none, there is exactly one ground bound
  abbrev pub GroundTailRecursiveHasOneBound : Type 0
  GroundTailRecursiveHasOneBound = IsGroundTailRecursive c → (n : ℕ) × IsGroundBound c n × ((other : ℕ) → IsGroundBound c other → other ≡ n)

  -- and else none
  abbrev pub GroundBoundedIsTailRecursive : Type 0
  GroundBoundedIsTailRecursive = (n : ℕ) → IsGroundBound c n → IsGroundTailRecursive c

-- of every finite network: it is tail-recursive or has the named bad cycle, and not both; it has one bound where it is tail-recursive,
-- and else none
module _ (N : Net) (IsBefore : N.Method → N.Method → Type 0) where
  abbrev pub FiniteIsTailRecursiveOrNot : Type 0
  FiniteIsTailRecursiveOrNot = IsFinite N IsBefore → (top : N.Work)
      → (IsTailRecursive N IsBefore top ⊎ ((e : Edge N.Method) × (walk : List (Edge N.Method)) × IsNamedCycle N IsBefore top e walk))
      × (IsTailRecursive N IsBefore top → (e : Edge N.Method) (walk : List (Edge N.Method)) → IsNamedCycle N IsBefore top e walk → ⊥)
      × ((e d : Edge N.Method) (walk back : List (Edge N.Method)) → IsNamedCycle N IsBefore top e walk → IsNamedCycle N IsBefore top d back
      → (e ≡ d) × (walk ≡ back))

  abbrev pub FiniteRankedExactly : Type 0
  FiniteRankedExactly = IsFinite N IsBefore → (top : N.Work)
      → IsTailRecursive N IsBefore top ↔ ((rank : N.Work → ℕ) × IsRanking N IsBefore top rank)

  abbrev pub FiniteHasOneBound : Type 0
  FiniteHasOneBound = IsFinite N IsBefore → (top : N.Work)
      → (IsTailRecursive N IsBefore top → (n : ℕ) × IsBoundOf N IsBefore top n × ((other : ℕ) → IsBoundOf N IsBefore top other → other ≡ n))
      × ((n : ℕ) → IsBoundOf N IsBefore top n → IsTailRecursive N IsBefore top)
