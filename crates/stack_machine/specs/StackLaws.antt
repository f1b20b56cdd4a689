-- What is proved of stacks, over every lawful network whose methods are totally ordered.
use Rattle.std.specs.Prelude.{ℕ, ◌≡◌, ◌≤◌, ◌+◌, ◌↔◌, List, ◌++◌, length, map, reverse}
use Rattle.plan_model.specs.task_networks.Order.{IsLine}
use Rattle.plan_model.specs.task_networks.Net.{Net, count}
use Rattle.plan_model.specs.task_networks.Prepared.{IsPrepared}
use Rattle.plan_model.specs.task_networks.Tree.{Tree, Label, Address, IsAddress, IsOpen, IsGrown}
use Rattle.plan_model.specs.task_networks.Schedule.{IsSchedule}
use Rattle.plan_model.specs.task_networks.Pending.{IsPending, IsWithin}
use Rattle.plan_model.specs.task_networks.PendingComputed.{pending}
use Rattle.plan_model.specs.task_networks.Front.{IsFront}
use Rattle.plan_model.specs.task_networks.Executable.{AreAllowed, last_state, IsSolution}
use Rattle.plan_model.specs.task_networks.Spelling.{Act, label_of, numbers}
use Rattle.slot_machine.specs.Causes.{IsWaiting}
use Rattle.slot_machine.specs.Machine.{May}
use Rattle.slot_machine.specs.OtherMachine.{TakesAll}
use Rattle.slot_machine.specs.Reached.{HasLeaf}
use Rattle.schedules.specs.ruled.Narrowed.{after}
use Rattle.schedules.specs.ruled.SlotRule.{PicksBy}
use Rattle.stack_machine.specs.Stack.{IsTotallyOrdered, IsTotal, StackRule, behind, AreCells, TellsTip}
use Rattle.stack_machine.specs.StackMachine.{StackState, first_stack, StackRuns, end_of_stack, MayAtTip, AreSameStacks, SpellsCells, AgreesWithStack}

module _ (N : Net) where
  -- where heirs are those of the lines, a network whose methods are totally ordered is total
  abbrev pub PreparedIsTotal : Type 0
  PreparedIsTotal = IsPrepared N → ((m : N.Method) → IsTotallyOrdered N m) → IsTotal N

  -- the order of a front is that of its tree
  abbrev pub OneSchedule : Type 0
  OneSchedule = (tree : Tree N) (order other : List Address) → IsGrown N tree → IsSchedule N tree order → IsSchedule N tree other → order ≡ other

  -- and a finished tree has one
  abbrev pub SomeSchedule : Type 0
  SomeSchedule = (tree : Tree N) → IsGrown N tree → ((p : Address) → IsOpen N tree p → ⊥) → (order : List Address) × IsSchedule N tree order

  -- the cells of a front's open leaves are 1 to tip, which is their number, and what is at the tip waits for none
  pub record TipIsTold (tree : Tree N) (order : List Address) (cell : Address → ℕ) (tip : ℕ) : Type 0 where
    pub tells : TellsTip N tree cell tip
    pub number : length (pending N tree order) ≡ tip
    pub unblocked : (p : Address) → IsOpen N tree p → (IsWaiting N tree p → ⊥) ↔ (cell p ≡ tip)

  abbrev pub CellsTellTip : Type 0
  CellsTellTip = (top : N.Work) (tree : Tree N) (order : List Address) (cell : Address → ℕ) → IsFront N top tree order → AreCells N tree cell
      → (tip : ℕ) × TipIsTold tree order cell tip

  -- at each time what is pending has the cells 1 to the number of what is pending, each one of its own
  pub record ArePendingCells (tree : Tree N) (taken : List Address) (cell : Address → ℕ) (tip : ℕ) : Type 0 where
    pub range : (p : Address) → IsPending N tree taken p → (1 ≤ cell p) × (cell p ≤ tip)
    pub full : (x : ℕ) → 1 ≤ x → x ≤ tip → (p : Address) × IsPending N tree taken p × (cell p ≡ x)
    pub apart : (u v : Address) → IsPending N tree taken u → IsPending N tree taken v → cell u ≡ cell v → u ≡ v
    pub number : length (pending N tree taken) ≡ tip

  abbrev pub PendingAreInARow : Type 0
  PendingAreInARow = (top : N.Work) (tree : Tree N) (order : List Address) (cell : Address → ℕ) (taken rest : List Address) → IsFront N top tree order → AreCells N tree cell
      → order ≡ taken ++ rest → (tip : ℕ) × ArePendingCells tree taken cell tip

  -- each tree has cells
  abbrev pub CellsExist : Type 0
  CellsExist = (tree : Tree N) → (cell : Address → ℕ) × AreCells N tree cell

  -- cells are the only ones, on the nodes
  abbrev pub CellsAreTheOnlyOnes : Type 0
  CellsAreTheOnlyOnes = (top : N.Work) (tree : Tree N) (order : List Address) (cell other : Address → ℕ) → IsFront N top tree order → AreCells N tree cell → AreCells N tree other
      → (p : Address) → IsAddress N tree p → cell p ≡ other p

  -- they are at most b exactly where never more than b nodes are pending
  abbrev pub CellsFitExactlyWhereWithin : Type 0
  CellsFitExactlyWhereWithin = (b : ℕ) (top : N.Work) (tree : Tree N) (order : List Address) (cell : Address → ℕ) → IsFront N top tree order → AreCells N tree cell
      → ((p : Address) → IsAddress N tree p → cell p ≤ b) ↔ IsWithin N b tree order

  -- and then a list spells the front with them
  abbrev pub CellsExactlyWhereWithin : Type 0
  CellsExactlyWhereWithin = (b : ℕ) (top : N.Work) (tree : Tree N) (order : List Address) → IsFront N top tree order
      → IsWithin N b tree order ↔ ((acts : List (Act N)) × (cell : Address → ℕ) × SpellsCells N b top acts tree order cell)

  -- which is the only one of its tree
  abbrev pub OneCellsList : Type 0
  OneCellsList = (b : ℕ) (top : N.Work) (tree : Tree N) (order other_order : List Address) (acts other : List (Act N)) (cell other_cell : Address → ℕ)
      → SpellsCells N b top acts tree order cell → SpellsCells N b top other tree other_order other_cell → (acts ≡ other) × (order ≡ other_order)

  -- the acts spell some front with its cells
  abbrev pub SpellsSomeCells : ℕ → N.Work → List (Act N) → Type 0
  SpellsSomeCells b top acts = (tree : Tree N) × (order : List Address) × (cell : Address → ℕ) × SpellsCells N b top acts tree order cell

  -- runs of the stack are the fronts that are spelled with their cells
  abbrev pub StackRunsAreCells : Type 0
  StackRunsAreCells = (b : ℕ) (top : N.Work) (acts : List (Act N)) → 1 ≤ b → StackRuns N b (first_stack N top) acts ↔ SpellsSomeCells b top acts

  -- the tip test is the wait test, and the room is what the machine of slots asks of the cells
  abbrev pub TipTestIsWaitTest : Type 0
  TipTestIsWaitTest = (b : ℕ) (top : N.Work) (acts : List (Act N)) (tree : Tree N) (order : List Address) (cell : Address → ℕ) (a : Act N) → SpellsCells N b top acts tree order cell
      → MayAtTip N b (end_of_stack N (first_stack N top) acts) a ↔ (May N (after N b top acts) a × PicksBy N (StackRule N) b top acts a)

  -- the cells of a method's children from the line's last to its first are those from its own on, one after the other
  abbrev pub CellsAreInARow : Type 0
  CellsAreInARow = (m : N.Method) (line : List ℕ) (h : ℕ) → IsLine (N.Pair m) (count N m) line → map (λ i. h + behind line i) (reverse line) ≡ numbers h (count N m)

  -- after the run the stack's state tells the front
  abbrev pub StackTellsFront : Type 0
  StackTellsFront = (b : ℕ) (top : N.Work) (acts : List (Act N)) (tree : Tree N) (order : List Address) (cell : Address → ℕ) → SpellsCells N b top acts tree order cell
      → (tip : ℕ) × TellsTip N tree cell tip × ((x : ℕ) → (end_of_stack N (first_stack N top) acts).tip x ↔ (x ≡ tip))
      × ((x : ℕ) (w : N.Work) → (end_of_stack N (first_stack N top) acts).holds x w ↔ HasLeaf N tree cell x w)

  -- another machine that agrees with the stack at fronts takes these
  abbrev pub OtherTakesCells : (List (Act N) → StackState N) → (List (Act N) → Act N → Type 0) → Type 0
  OtherTakesCells read Takes = (b : ℕ) (top : N.Work) → 1 ≤ b → AgreesWithStack N read Takes b top
      → (acts : List (Act N)) → (TakesAll N Takes acts ↔ SpellsSomeCells b top acts)
      × (SpellsSomeCells b top acts → AreSameStacks N (read acts) (end_of_stack N (first_stack N top) acts))

module _ (N : Net) (State : Type 1) (Allows : State → Label N → Type 0) (next : State → Label N → State) (first : State) (Goal : State → Type 0) where
  -- a plan of the stack: a run that its states allow, after which the tip is 0, and the goal is true
  pub record IsStackPlan (b : ℕ) (top : N.Work) (acts : List (Act N)) : Type 0 where
    pub run : StackRuns N b (first_stack N top) acts
    pub allowed : AreAllowed N State Allows next first (map (label_of N) acts)
    pub empty : (end_of_stack N (first_stack N top) acts).tip 0
    pub goal : Goal (last_state N State Allows next first (map (label_of N) acts))

  -- these are the spellings of solutions with their cells
  abbrev pub StackPlansAreSolutions : Type 0
  StackPlansAreSolutions = (b : ℕ) (top : N.Work) (acts : List (Act N)) → 1 ≤ b
      → IsStackPlan b top acts ↔ ((tree : Tree N) × (order : List Address) × (cell : Address → ℕ)
      × SpellsCells N b top acts tree order cell × IsSolution N State Allows next top first Goal tree order)

  -- each solution tree with never more than b pending has exactly one
  abbrev pub OneStackPlan : Type 0
  OneStackPlan = (b : ℕ) (top : N.Work) (tree : Tree N) (order : List Address) → IsSolution N State Allows next top first Goal tree order → IsWithin N b tree order
      → (acts : List (Act N)) × (cell : Address → ℕ) × SpellsCells N b top acts tree order cell × IsStackPlan b top acts
      × ((other : List (Act N)) (other_order : List Address) (other_cell : Address → ℕ) → SpellsCells N b top other tree other_order other_cell → other ≡ acts)
