-- What is proved of every network, so that the definitions are seen to fit together.
use Rattle.std.specs.Prelude.{ℕ, ◌≡◌, ◌≤◌, ◌↔◌, List, [], ◌∷◌, ◌++◌, length, Contains, Some}
use Rattle.plan_model.specs.task_networks.Order.{Precedes, IsLine}
use Rattle.plan_model.specs.task_networks.Net.{Net, count}
use Rattle.plan_model.specs.task_networks.Lawful.{IsLawful}
use Rattle.plan_model.specs.task_networks.Prepared.{IsPrepared}
use Rattle.plan_model.specs.task_networks.Tree.{Tree, used, Address, IsAbove, label_at, IsAddress, IsProcessed}
use Rattle.plan_model.specs.task_networks.Schedule.{IsSchedule}
use Rattle.htn_base.specs.Different.{AreDifferent}
use Rattle.plan_model.specs.task_networks.Pending.{IsPending, IsWithin}
use Rattle.plan_model.specs.task_networks.PendingComputed.{pending}
use Rattle.plan_model.specs.task_networks.Front.{IsFinished}
use Rattle.plan_model.specs.task_networks.Bound.{AreBlocks, AreLargeEnough, IsTheBound}
use Rattle.plan_model.specs.task_networks.Lifted.{IsLifted}
use Rattle.plan_model.specs.task_networks.Strata.{IsLawfulRanking, IsTailRecursive, IsNamedCycle}

module _ (N : Net) where
  -- a method has one line at most
  abbrev pub LineIsTheOnlyOne : Type 0
  LineIsTheOnlyOne = (m : N.Method) (line other : List ℕ)
      → IsLine (N.Pair m) (count N m) line → IsLine (N.Pair m) (count N m) other → line ≡ other

  -- where heirs and copiers are those of the orders, the network is lawful
  abbrev pub PreparedIsLawful : Type 0
  PreparedIsLawful = IsPrepared N → IsLawful N

  -- in a schedule the root stands first
  abbrev pub RootStandsFirst : Type 0
  RootStandsFirst = (tree : Tree N) (order : List Address) (p : Address) (rest : List Address)
      → IsSchedule N tree order → order ≡ p ∷ rest → p ≡ []

  -- nothing is pending after the last step of a front without open leaves
  abbrev pub NothingIsPendingAtTheEnd : Type 0
  NothingIsPendingAtTheEnd = (top : N.Work) (tree : Tree N) (order : List Address) (p : Address)
      → IsFinished N top tree order → IsPending N tree order p → ⊥

  -- where child i must precede child j, the whole subtree of i is processed and stands before each scheduled node of the subtree of j
  abbrev pub EarlierSubtreesStandBefore : Type 0
  EarlierSubtreesStandBefore = (tree : Tree N) (order taken rest : List Address) (q : Address) (m : N.Method) (i j : ℕ) (u v : Address)
      → IsSchedule N tree order → order ≡ taken ++ v ∷ rest
      → label_at N tree q ≡ Some (used m) → Precedes (N.Pair m) i j → IsAbove (i ∷ q) u → IsAddress N tree u → IsAbove (j ∷ q) v
      → IsProcessed N tree u × Contains taken u

  -- the computed list of what is pending has the pending nodes
  abbrev pub PendingIsComputed : Type 0
  PendingIsComputed = (tree : Tree N) (taken : List Address) (p : Address) → Contains (pending N tree taken) p ↔ IsPending N tree taken p

  -- and its length says whether more than b are pending
  abbrev pub WidthIsComputed : Type 0
  WidthIsComputed = (b : ℕ) (tree : Tree N) (order : List Address)
      → IsWithin N b tree order ↔ ((taken rest : List Address) → order ≡ taken ++ rest → length (pending N tree taken) ≤ b)

  -- where the blocks are the lines cut at every cut, the bound is large enough
  abbrev pub TheBoundIsLargeEnough : Type 0
  TheBoundIsLargeEnough = (top : N.Work) (block : N.Method → ℕ → ℕ) (number group : N.Work → ℕ)
      → ((m : N.Method) → (line : List ℕ) × IsLine (N.Pair m) (count N m) line × AreBlocks (N.Pair m) line (block m))
      → IsTheBound N block number group top → AreLargeEnough N block number top

-- numbers of schemas that are large enough are so for the ground works
abbrev pub LiftedBoundIsBound : (N L : Net) → (N.Work → L.Work) → (N.Method → L.Method) → Type 0
LiftedBoundIsBound N L work method = IsLifted N L work method → (top : N.Work) (block : L.Method → ℕ → ℕ) (number : L.Work → ℕ)
    → AreLargeEnough L block number (work top) → AreLargeEnough N (λ m. block (method m)) (λ w. number (work w)) top

-- a problem with a lawful ranking is tail-recursive
abbrev pub RankedIsTailRecursive : {Task Edge : Type 0} → (source target : Edge → Task) → List Edge → (Edge → Type 0) → Type 0
RankedIsTailRecursive {Task = Task} source target edges IsBad = (rank : Task → ℕ)
    → IsLawfulRanking source target edges IsBad rank → IsTailRecursive source target edges IsBad

-- where each edge is listed once, one bad cycle at most is the named one
abbrev pub NamedCycleIsTheOnlyOne : {Task Edge : Type 0} → (source target : Edge → Task) → List Edge → (Edge → Type 0) → Type 0
NamedCycleIsTheOnlyOne {Edge = Edge} source target edges IsBad = AreDifferent edges → (e d : Edge) (walk back : List Edge)
    → IsNamedCycle source target edges IsBad e walk → IsNamedCycle source target edges IsBad d back → (e ≡ d) × (walk ≡ back)
