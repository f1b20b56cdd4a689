-- What is proved of narrowed machines, over every lawful network.
-- Source: this project's.
use Rattle.std.specs.Prelude.{ℕ, ◌≡◌, ◌≤◌, ◌↔◌, List}
use Rattle.plan_model.specs.task_networks.Net.{Net}
use Rattle.plan_model.specs.task_networks.Tree.{Tree, Label, Address}
use Rattle.plan_model.specs.task_networks.Pending.{IsWithin}
use Rattle.plan_model.specs.task_networks.Front.{IsFront}
use Rattle.plan_model.specs.task_networks.Executable.{IsSolution}
use Rattle.plan_model.specs.task_networks.Spelling.{Act}
use Rattle.slot_machine.specs.Reached.{SameSlots}
use Rattle.slot_machine.specs.OtherMachine.{TakesAll}
use Rattle.slot_machine.specs.Laws.{IsSolutionRun}
use Rattle.schedules.specs.ruled.Narrowed.{SpellsPicked, SpellsPickedFront, AgreesWherePicked, AlwaysPicks, PicksOne}

-- `Picks b top` is the rule for b slots and a top work
module _ (N : Net) (Picks : ℕ → N.Work → List (Act N) → Act N → Type 0) where
  -- the narrowed machine takes exactly the lists that spell a front and are picked, and its state fits then
  abbrev pub TakesPickedFronts : (List (Act N) → Type 0) → (List (Act N) → Act N → Type 0) → Type 0
  TakesPickedFronts Fits Takes = (b : ℕ) (top : N.Work) → 1 ≤ b → AgreesWherePicked N (Picks b top) b top Fits Takes
      → (acts : List (Act N)) → (TakesAll N Takes acts ↔ SpellsPickedFront N (Picks b top) b top acts)
      × (SpellsPickedFront N (Picks b top) b top acts → Fits acts)

  -- a front has at most one picked list, and at most one picked choice of slots
  abbrev pub PickedIsTheOnlyOne : Type 0
  PickedIsTheOnlyOne = (b : ℕ) (top : N.Work) → PicksOne N (Picks b top) b top
      → (tree : Tree N) (order : List Address) (acts other : List (Act N)) (slot other_slot : Address → ℕ)
      → SpellsPicked N (Picks b top) b top acts tree order slot → SpellsPicked N (Picks b top) b top other tree order other_slot
      → (acts ≡ other) × SameSlots N tree slot other_slot

  -- a front has a picked list exactly where never more than b nodes are pending
  abbrev pub FewPendingHavePicked : Type 0
  FewPendingHavePicked = (b : ℕ) (top : N.Work) → AlwaysPicks N (Picks b top) b top
      → (tree : Tree N) (order : List Address) → IsFront N top tree order
      → IsWithin N b tree order ↔ ((acts : List (Act N)) × (slot : Address → ℕ) × SpellsPicked N (Picks b top) b top acts tree order slot)

-- with an execution
module _ (N : Net) (Picks : ℕ → N.Work → List (Act N) → Act N → Type 0) (State : Type 1)
    (Allows : State → Label N → Type 0) (next : State → Label N → State) (first : State) (Goal : State → Type 0) where
  -- a plan of the machine of slots each of whose acts is picked
  pub record IsPickedPlan (b : ℕ) (top : N.Work) (acts : List (Act N)) : Type 0 where
    pub plan : IsSolutionRun N State Allows next first Goal b top acts
    pub picked : TakesAll N (Picks b top) acts

  -- these are the picked lists of solutions
  abbrev pub PickedPlansAreSolutions : Type 0
  PickedPlansAreSolutions = (b : ℕ) (top : N.Work) (acts : List (Act N)) → 1 ≤ b
      → IsPickedPlan b top acts ↔ ((tree : Tree N) × (order : List Address) × (slot : Address → ℕ)
      × SpellsPicked N (Picks b top) b top acts tree order slot × IsSolution N State Allows next top first Goal tree order)

  -- each solution schedule with never more than b pending has exactly one plan
  abbrev pub OnePlanForEachSchedule : Type 0
  OnePlanForEachSchedule = (b : ℕ) (top : N.Work) → AlwaysPicks N (Picks b top) b top → PicksOne N (Picks b top) b top
      → (tree : Tree N) (order : List Address) → IsSolution N State Allows next top first Goal tree order → IsWithin N b tree order
      → (acts : List (Act N)) × (slot : Address → ℕ) × SpellsPicked N (Picks b top) b top acts tree order slot × IsPickedPlan b top acts
      × ((other : List (Act N)) (other_slot : Address → ℕ) → SpellsPicked N (Picks b top) b top other tree order other_slot → other ≡ acts)
