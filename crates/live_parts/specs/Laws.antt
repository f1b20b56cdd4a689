-- What is proved of live parts, of what is kept, and of the solutions of the pruned problem.
-- Source: this project's.
use Rattle.std.specs.Prelude.{ℕ, zero, suc, ◌≡◌, ◌⊎◌, ◌↔◌, List, Some, slice_get, Contains}
use Rattle.plan_model.specs.declared.terms.GroundAtom.{GroundAtom}
use Rattle.plan_model.specs.declared.networks.Head.TheVariants.{Task, Action}
use Rattle.plan_model.specs.declared.networks.Head.{Head}
use Rattle.plan_model.specs.declared.networks.Child.{Child}
use Rattle.plan_model.specs.declared.schemas.ActionSchema.{ActionSchema}
use Rattle.plan_model.specs.declared.schemas.MethodSchema.{MethodSchema}
use Rattle.plan_model.specs.declared.steps.GroundAction.{GroundAction}
use Rattle.plan_model.specs.declared.values.Hddl.{Hddl}
use Rattle.plan_model.specs.declared.values.Compiled.{Compiled}
use Rattle.plan_model.specs.task_networks.Tree.{Tree, Label, waits, ran, used, Address, label_at}
use Rattle.plan_model.specs.task_networks.Pending.{IsWidth}
use Rattle.plan_model.specs.plan_meaning.Network.{action, check, task, network}
use Rattle.plan_model.specs.plan_meaning.Solution.{IsSolution}
use Rattle.plan_model.specs.plan_meaning.SpelledPlan.{IsSpelling}
use Rattle.live_parts.specs.Live.{Parts, AddsOf, MayHold, IsLiveMethod, AreClosed, AreLive, AreAmong, MayBeSolved}
use Rattle.live_parts.specs.Kept.{Kept, IsReached, IsKeptMethod, AreKept}
use Rattle.live_parts.specs.SameSchemas.{SameTree}

module _ (h : Hddl) (c : Compiled) where
  -- compiled method k + 1 is method k of the problem, and the top method comes first
  abbrev pub IsKeptPlace : Parts → ℕ → Type 0
  IsKeptPlace live zero = Unit {0}
  IsKeptPlace live (suc n) = IsKeptMethod h live n

  -- a node that is kept: its method or its action is live, and the top method reaches it
  abbrev pub IsKeptNode : Parts → Label (network c) → Type 0
  IsKeptNode live (waits w) = ⊥
  IsKeptNode live (ran (action a args)) = Contains live.actions a × IsReached h live (Action a)
  IsKeptNode live (ran (check m values)) = IsKeptPlace live m
  IsKeptNode live (ran (task t args)) = ⊥
  IsKeptNode live (used g) = IsKeptPlace live g.number

  -- each node of a solution is kept
  abbrev pub NodesAreKept : Type 0
  NodesAreKept = (live : Parts) → AreLive h live → (tree : Tree (network c)) (order : List Address) → IsSolution c tree order
      → (p : Address) (l : Label (network c)) → label_at (network c) tree p ≡ Some l → IsKeptNode live l

  -- where there is a solution, the top method is live and the goal may be so
  abbrev pub SolvedMayBeSolved : Type 0
  SolvedMayBeSolved = (live : Parts) → AreLive h live → (tree : Tree (network c)) (order : List Address)
      → IsSolution c tree order → MayBeSolved h live

-- what the parts ask for at once: predicates of the first atoms and of what their actions add, actions and methods that may be used,
-- tasks of their methods
module _ (h : Hddl) where
  pub record TakesSteps (some others : Parts) : Type 0 where
    pub initial : (a : GroundAtom) → Contains h.init a → Contains others.predicates a.predicate
    pub added : (n : ℕ) (a : ActionSchema) → slice_get h.actions n ≡ Some a → Contains some.actions n
        → (p : ℕ) → AddsOf a.eff p → Contains others.predicates p
    pub action : (n : ℕ) (a : ActionSchema) → slice_get h.actions n ≡ Some a → MayHold h some a.pre → Contains others.actions n
    pub method : (n : ℕ) (s : MethodSchema) → slice_get h.methods n ≡ Some s → IsLiveMethod h some s → Contains others.methods n
    pub task : (n : ℕ) (s : MethodSchema) → slice_get h.methods n ≡ Some s → Contains some.methods n → Contains others.tasks s.task

  -- what parts among closed ones ask for is among these too
  abbrev pub StepsAreForced : Type 0
  StepsAreForced = (some others : Parts) → AreAmong some others → AreClosed h others → TakesSteps some others

  -- it can be told whether the top method is live and the goal may be so
  abbrev pub SolvedIsTold : Type 0
  SolvedIsTold = (parts : Parts) → MayBeSolved h parts ⊎ (MayBeSolved h parts → ⊥)

-- there are least parts, and no others
abbrev pub LiveExactly : Hddl → Type 0
LiveExactly h = ((live : Parts) × AreLive h live)
    × ((live others : Parts) → AreLive h live → AreLive h others → AreAmong live others × AreAmong others live)

module _ (h : Hddl) (live : Parts) where
  -- subtasks to which nothing is to be added: those of the top method, and of the live methods of tasks among them
  pub record AreClosedHeads (heads : List Head) : Type 0 where
    pub top : (child : Child) → Contains h.top.children child → Contains heads child.head
    pub methods : (n : ℕ) (s : MethodSchema) → slice_get h.methods n ≡ Some s → Contains live.methods n → Contains heads (Task s.task)
        → (child : Child) → Contains s.children child → Contains heads child.head

  -- subtasks that are all reached, and to which nothing is to be added, are those that are reached
  abbrev pub HeadsAreReached : Type 0
  HeadsAreReached = (heads : List Head) → AreClosedHeads heads → ((x : Head) → Contains heads x → IsReached h live x)
      → (x : Head) → Contains heads x ↔ IsReached h live x

  -- there are lists of what is kept, and no others
  abbrev pub KeptExactly : Type 0
  KeptExactly = ((kept : Kept) × AreKept h live kept)
      × ((kept others : Kept) → AreKept h live kept → AreKept h live others → kept ≡ others)

module _ (h : Hddl) where
  -- an atom of the predicate is true at the beginning, or a live action adds one
  abbrev pub IsFirstOrAdded : Parts → ℕ → Type 0
  IsFirstOrAdded live p = ((a : GroundAtom) × Contains h.init a × (a.predicate ≡ p))
      ⊎ ((n : ℕ) × (a : ActionSchema) × (slice_get h.actions n ≡ Some a) × Contains live.actions n × AddsOf a.eff p)

  -- each part has a reason to be live
  pub record AreSupported (live : Parts) : Type 0 where
    pub predicates : (p : ℕ) → Contains live.predicates p → IsFirstOrAdded live p
    pub actions : (n : ℕ) → Contains live.actions n → (a : ActionSchema) × (slice_get h.actions n ≡ Some a) × MayHold h live a.pre
    pub methods : (n : ℕ) → Contains live.methods n → (s : MethodSchema) × (slice_get h.methods n ≡ Some s) × IsLiveMethod h live s
    pub tasks : (t : ℕ) → Contains live.tasks t
        → (n : ℕ) × (s : MethodSchema) × (slice_get h.methods n ≡ Some s) × Contains live.methods n × (s.task ≡ t)

  -- the least parts have nothing without a reason
  abbrev pub LiveAreSupported : Type 0
  LiveAreSupported = (live : Parts) → AreLive h live → AreSupported live

  -- each kept task is live and has a kept method; each kept action is live
  pub record IsLiveKept (live : Parts) (kept : Kept) : Type 0 where
    pub tasks : (t : ℕ) → Contains kept.tasks t
        → Contains live.tasks t × ((n : ℕ) × (s : MethodSchema) × (slice_get h.methods n ≡ Some s) × Contains kept.methods n × (s.task ≡ t))
    pub actions : (a : ℕ) → Contains kept.actions a → Contains live.actions a

  -- what is kept is live, where the problem may be solved
  abbrev pub KeptAreLive : Type 0
  KeptAreLive = (live : Parts) (kept : Kept) → AreLive h live → AreKept h live kept → MayBeSolved h live → IsLiveKept live kept

module _ (h : Hddl) (kept : Kept) (new old : Compiled) where
  -- what is the same tree is a solution of both, or of none, with each order
  abbrev pub SameTreesSolve : Type 0
  SameTreesSolve = (tree : Tree (network new)) (other : Tree (network old)) (order : List Address) → SameTree h kept new old tree other
      → IsSolution new tree order ↔ IsSolution old other order

  -- and has the same width with each order
  abbrev pub SameTreesAreAsWide : Type 0
  SameTreesAreAsWide = (tree : Tree (network new)) (other : Tree (network old)) (order : List Address) (b : ℕ)
      → SameTree h kept new old tree other
      → IsWidth (network new) b tree order ↔ IsWidth (network old) b other order

  -- each solution of the pruned problem is one of the problem
  abbrev pub SolutionsStay : Type 0
  SolutionsStay = (tree : Tree (network new)) (order : List Address) → IsSolution new tree order
      → (other : Tree (network old)) × SameTree h kept new old tree other × IsSolution old other order

  -- and each of the problem is one of the pruned problem
  abbrev pub SolutionsComeBack : Type 0
  SolutionsComeBack = (other : Tree (network old)) (order : List Address) → IsSolution old other order
      → (tree : Tree (network new)) × SameTree h kept new old tree other × IsSolution new tree order

  -- a tree is the same as one tree at most
  abbrev pub SameTreeIsOne : Type 0
  SameTreeIsOne = (tree next : Tree (network new)) (other second : Tree (network old))
      → (SameTree h kept new old tree other → SameTree h kept new old tree second → other ≡ second)
      × (SameTree h kept new old tree other → SameTree h kept new old next other → tree ≡ next)

  -- the list spells a solution, with b slots
  abbrev pub SpellsSolution : Compiled → ℕ → List GroundAction → Type 0
  SpellsSolution c b steps = (tree : Tree (network c)) × (order : List Address) × (slot : Address → ℕ)
      × IsSpelling c b steps tree order slot × IsSolution c tree order

  -- for each number of slots the same lists of ground actions, word by word, spell a solution
  abbrev pub SpelledAreSame : Type 0
  SpelledAreSame = (b : ℕ) (steps : List GroundAction) → SpellsSolution new b steps ↔ SpellsSolution old b steps
