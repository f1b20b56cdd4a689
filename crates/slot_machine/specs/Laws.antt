-- What is proved of the machine of slots, for every lawful network, number of slots and top work.
use Rattle.std.specs.Prelude.{ℕ, ◌≡◌, ◌≤◌, ◌↔◌, List, map}
use Rattle.plan_model.specs.task_networks.Net.{Net}
use Rattle.plan_model.specs.task_networks.Tree.{Tree, Label, Address, IsOpen}
use Rattle.plan_model.specs.task_networks.Schedule.{IsSchedule}
use Rattle.plan_model.specs.task_networks.Pending.{IsPending, IsWithin}
use Rattle.plan_model.specs.task_networks.Front.{IsFront}
use Rattle.plan_model.specs.task_networks.Executable.{AreLabels, AreAllowed, last_state, IsExecutableOrder, IsSolution}
use Rattle.plan_model.specs.task_networks.Spelling.{Act, label_of, Spells}
use Rattle.plan_model.specs.task_networks.Bound.{AreLargeEnough}
use Rattle.slot_machine.specs.Machine.{SlotState, start, IsUnblocked, May, Runs, end_of}
use Rattle.slot_machine.specs.Reached.{SameSlots, HasLeaf, IsLeft, Tells}
use Rattle.slot_machine.specs.Causes.{IsWaiting, Can}
use Rattle.slot_machine.specs.OtherMachine.{AreSame, TakesAll, AgreesAtFronts}

module _ (N : Net) where
  -- the acts spell some front
  abbrev pub SpellsFront : ℕ → N.Work → List (Act N) → Type 0
  SpellsFront b top acts = (tree : Tree N) × (order : List Address) × (slot : Address → ℕ) × Spells N b top acts tree order slot

  -- a list of acts is a run from the start exactly where it spells a front
  abbrev pub RunsAreSpelledFronts : Type 0
  RunsAreSpelledFronts = (b : ℕ) (top : N.Work) (acts : List (Act N)) → 1 ≤ b → Runs N (start N b top) acts ↔ SpellsFront b top acts

  -- tree and order are the only ones, and so are the slots on all addresses
  abbrev pub FrontIsTheOnlyOne : Type 0
  FrontIsTheOnlyOne = (b : ℕ) (top : N.Work) (acts : List (Act N)) (tree : Tree N) (order : List Address) (slot : Address → ℕ)
      (other_tree : Tree N) (other_order : List Address) (other_slot : Address → ℕ)
      → Spells N b top acts tree order slot → Spells N b top acts other_tree other_order other_slot
      → (other_tree ≡ tree) × (other_order ≡ order) × SameSlots N tree slot other_slot

  -- after the run the state tells the front
  abbrev pub StateTellsFront : Type 0
  StateTellsFront = (b : ℕ) (top : N.Work) (acts : List (Act N)) (tree : Tree N) (order : List Address) (slot : Address → ℕ)
      → Spells N b top acts tree order slot → Tells N tree slot b (end_of N (start N b top) acts)

  -- after a whole schedule what is pending are the open leaves
  abbrev pub PendingAreOpenLeaves : Type 0
  PendingAreOpenLeaves = (tree : Tree N) (order : List Address) (p : Address) → IsSchedule N tree order → IsPending N tree order p ↔ IsOpen N tree p

  -- a front has a spelling exactly where never more than b nodes are pending
  abbrev pub FewPendingHaveSpellings : Type 0
  FewPendingHaveSpellings = (b : ℕ) (top : N.Work) (tree : Tree N) (order : List Address) → IsFront N top tree order
      → IsWithin N b tree order ↔ ((acts : List (Act N)) × (slot : Address → ℕ) × Spells N b top acts tree order slot)

  -- what the machine tests, said of the front: that a slot holds a work; that a pending work stands before it;
  -- that a new slot is left; and of an act all that it asks, with the constraints and types of a method
  pub record TestsTellCauses (b : ℕ) (s : SlotState N) (tree : Tree N) (slot : Address → ℕ) : Type 0 where
    pub holds : (x : ℕ) (w : N.Work) → s.holds x w ↔ HasLeaf N tree slot x w
    pub unblocked : (p : Address) → IsOpen N tree p → IsUnblocked N s (slot p) ↔ (IsWaiting N tree p → ⊥)
    pub left : (x : ℕ) → s.free x ↔ IsLeft N tree slot b x
    pub may : (a : Act N) → May N s a ↔ Can N tree slot b a

  abbrev pub CausesAreSentences : Type 0
  CausesAreSentences = (b : ℕ) (top : N.Work) (acts : List (Act N)) (tree : Tree N) (order : List Address) (slot : Address → ℕ)
      → Spells N b top acts tree order slot → TestsTellCauses b (end_of N (start N b top) acts) tree slot

  -- the labels in order are those of the acts, so whatever is asked of them can be asked of either
  abbrev pub LabelsAreOfActs : Type 0
  LabelsAreOfActs = (b : ℕ) (top : N.Work) (acts : List (Act N)) (tree : Tree N) (order : List Address) (slot : Address → ℕ) (labels : List (Label N))
      → Spells N b top acts tree order slot → AreLabels N tree order labels ↔ (labels ≡ map (label_of N) acts)

  -- another machine that agrees at fronts takes exactly the spelled fronts, and its state says the same then
  abbrev pub OtherTakesFronts : (List (Act N) → SlotState N) → (List (Act N) → Act N → Type 0) → Type 0
  OtherTakesFronts read Takes = (b : ℕ) (top : N.Work) → 1 ≤ b → AgreesAtFronts N read Takes b top
      → (acts : List (Act N)) → (TakesAll N Takes acts ↔ SpellsFront b top acts)
      × (SpellsFront b top acts → AreSame N (read acts) (end_of N (start N b top) acts))

  -- no schedule of any front has more pending than the top work's number
  abbrev pub WidthIsBounded : Type 0
  WidthIsBounded = (block : N.Method → ℕ → ℕ) (number : N.Work → ℕ) (top : N.Work) → AreLargeEnough N block number top
      → (tree : Tree N) (order : List Address) → IsFront N top tree order → IsWithin N (number top) tree order

-- an execution: what a label asks of the state before it, and the state after it
module _ (N : Net) (SlotState : Type 1) (Allows : SlotState → Label N → Type 0) (next : SlotState → Label N → SlotState) (first : SlotState) (Goal : SlotState → Type 0) where
  abbrev pub labels : List (Act N) → List (Label N)
  labels acts = map (label_of N) acts

  -- a run of acts each of which its state allows
  abbrev pub IsExecutableRun : ℕ → N.Work → List (Act N) → Type 0
  IsExecutableRun b top acts = Runs N (start N b top) acts × AreAllowed N SlotState Allows next first (labels acts)

  -- executable runs are the spelled fronts that are executable
  abbrev pub RunsAreExecutableFronts : Type 0
  RunsAreExecutableFronts = (b : ℕ) (top : N.Work) (acts : List (Act N)) → 1 ≤ b
      → IsExecutableRun b top acts ↔ ((tree : Tree N) × (order : List Address) × (slot : Address → ℕ) × Spells N b top acts tree order slot
      × IsExecutableOrder N SlotState Allows next first tree order)

  -- a plan: an executable run after which all slots are free, and the goal is true
  pub record IsSolutionRun (b : ℕ) (top : N.Work) (acts : List (Act N)) : Type 0 where
    pub run : IsExecutableRun b top acts
    pub free : (x : ℕ) → 1 ≤ x → x ≤ b → (end_of N (start N b top) acts).free x
    pub goal : Goal (last_state N SlotState Allows next first (labels acts))

  -- plans are the spelled solutions
  abbrev pub PlansAreSpelledSolutions : Type 0
  PlansAreSpelledSolutions = (b : ℕ) (top : N.Work) (acts : List (Act N)) → 1 ≤ b
      → IsSolutionRun b top acts ↔ ((tree : Tree N) × (order : List Address) × (slot : Address → ℕ) × Spells N b top acts tree order slot
      × IsSolution N SlotState Allows next top first Goal tree order)
