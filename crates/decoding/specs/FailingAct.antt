-- Where a list of steps fails to be a spelled solution: the first step that can't be taken, or the end, where a leaf is left or the goal is
-- false; and why, by the first cause.
-- Source: this project's, laid over the fronts of Alford et al., "Bound to Plan", ICAPS 2016.
use Rattle.std.specs.Prelude.{ℕ, ◌≡◌, ◌≤◌, ◌<◌, ◌+◌, ◌⊎◌, List, [], ◌∷◌, ◌++◌, length, Contains}
use Rattle.plan_model.specs.task_networks.Net.{Net}
use Rattle.plan_model.specs.task_networks.Tree.{Tree, Label, Address, IsOpen}
use Rattle.plan_model.specs.task_networks.Executable.{last_state, IsExecutableOrder, IsSolution}
use Rattle.plan_model.specs.task_networks.Spelling.{Act, run, apply, label_of, others, Spells}
use Rattle.htn_base.specs.Different.{AreDifferent}
use Rattle.decoding.specs.declared.causes.Why.{Why}
use Rattle.decoding.specs.declared.causes.Why.TheVariants.{UnknownAction, Arguments, SlotHolds, Waiting, SlotTaken, Constraint}
use Rattle.decoding.specs.declared.causes.Why.TheVariants.{Precondition, Unfinished, GoalFalse}
use Rattle.slot_machine.specs.Reached.{HasLeaf}
use Rattle.slot_machine.specs.Causes.{IsWaiting}

-- the causes, in the order in which they are looked at
abbrev pub place : Why → ℕ
place UnknownAction = 0
place Arguments = 1
place SlotHolds = 2
place Waiting = 3
place SlotTaken = 4
place Constraint = 5
place Precondition = 6
place Unfinished = 7
place GoalFalse = 8

module _ (N : Net) where
  -- what an act names: its slot, what must be there, and its new slots
  abbrev pub slot_in : Act N → ℕ
  slot_in (run h w) = h
  slot_in (apply h new m) = h

  abbrev pub work_in : Act N → N.Work
  work_in (run h w) = w
  work_in (apply h new m) = N.head m

  abbrev pub new_in : Act N → List ℕ
  new_in (run h w) = []
  new_in (apply h new m) = new

  abbrev pub HasForm : Act N → Type 0
  HasForm (run h w) = N.IsSimple w
  HasForm (apply h new m) = length new ≡ length (others N m)

  -- what is asked of an act wherever it stands: slots are from 1 to b, and as many as are due
  pub record IsFormed (b : ℕ) (a : Act N) : Type 0 where
    pub slot : (1 ≤ slot_in a) × (slot_in a ≤ b)
    pub new : (x : ℕ) → Contains (new_in a) x → (1 ≤ x) × (x ≤ b)
    pub form : HasForm a

  module _ (tree : Tree N) (slot : Address → ℕ) where
    -- what slot h holds waits for another open leaf
    abbrev pub WaitsAt : ℕ → Type 0
    WaitsAt h = (p : Address) × IsOpen N tree p × (slot p ≡ h) × IsWaiting N tree p

    -- a new slot is an open leaf's, or stands twice among the new slots
    abbrev pub IsSlotTaken : List ℕ → Type 0
    IsSlotTaken new = ((p : Address) × IsOpen N tree p × Contains new (slot p)) ⊎ (AreDifferent new → ⊥)

  -- the constraints are true, and the children's arguments are of their declared types
  abbrev pub IsMet : Act N → Type 0
  IsMet (run h w) = Unit {0}
  IsMet (apply h new m) = N.IsGround m

  -- a constraint is false, or a child's argument isn't of its declared type; that the method's own values are of their types belongs to its
  -- arguments
  abbrev pub IsUnmet : Act N → Type 0
  IsUnmet (run h w) = ⊥
  IsUnmet (apply h new m) = N.IsGround m → ⊥

-- an execution: what a label asks of the state before it, and the state after it
module _ (N : Net) (State : Type 1) (Allows : State → Label N → Type 0) (next : State → Label N → State) where
  -- the sentences on an act at a front, in a state
  abbrev pub ActSentence : Tree N → (Address → ℕ) → State → Act N → Why → Type 0
  ActSentence tree slot S a UnknownAction = ⊥
  ActSentence tree slot S a Arguments = ⊥
  ActSentence tree slot S a SlotHolds = HasLeaf N tree slot (slot_in N a) (work_in N a) → ⊥
  ActSentence tree slot S a Waiting = WaitsAt N tree slot (slot_in N a)
  ActSentence tree slot S a SlotTaken = IsSlotTaken N tree slot (new_in N a)
  ActSentence tree slot S a Constraint = IsUnmet N a
  ActSentence tree slot S a Precondition = Allows S (label_of N a) → ⊥
  ActSentence tree slot S a Unfinished = ⊥
  ActSentence tree slot S a GoalFalse = ⊥

  -- Steps are words: some name an action, and some of these are read as an act with slots from 1 to b.
  -- Where steps are the acts themselves, each names one and is read as itself.
  module _ (Step : Type 0) (Named : Step → Type 0) (Reads : ℕ → Step → Act N → Type 0) where
    -- what readings owe
    pub record IsReading (b : ℕ) : Type 0 where
      pub named : (s : Step) (a : Act N) → Reads b s a → Named s
      pub formed : (s : Step) (a : Act N) → Reads b s a → IsFormed N b a
      pub one : (s : Step) (a other : Act N) → Reads b s a → Reads b s other → a ≡ other

    abbrev pub AreRead : ℕ → List Step → List (Act N) → Type 0
    AreRead b [] [] = Unit {0}
    AreRead b (s ∷ steps) (a ∷ acts) = Reads b s a × AreRead b steps acts
    AreRead b [] (a ∷ acts) = ⊥
    AreRead b (s ∷ steps) [] = ⊥

    -- the sentences on a step
    abbrev pub Sentence : ℕ → Tree N → (Address → ℕ) → State → Step → Why → Type 0
    Sentence b tree slot S s UnknownAction = Named s → ⊥
    Sentence b tree slot S s Arguments = (a : Act N) → Reads b s a → ⊥
    Sentence b tree slot S s why = (a : Act N) × Reads b s a × ActSentence tree slot S a why

    -- this is the first that is true
    abbrev pub FailsBy : ℕ → Tree N → (Address → ℕ) → State → Step → Why → Type 0
    FailsBy b tree slot S s why = Sentence b tree slot S s why × ((c : Why) → place c < place why → Sentence b tree slot S s c → ⊥)

    module _ (top : N.Work) (first : State) where
      -- the steps spell an executable front, with b slots
      pub record SpellsExecutable (b : ℕ) (steps : List Step) (tree : Tree N) (order : List Address) (slot : Address → ℕ) : Type 0 where
        pub acts : List (Act N)
        pub read : AreRead b steps acts
        pub spells : Spells N b top acts tree order slot
        pub executable : IsExecutableOrder N State Allows next first tree order

      -- step n, counted from 1, is the first that can't be taken
      pub record StepFails (b : ℕ) (steps : List Step) (n : ℕ) (why : Why) : Type 0 where
        pub before : List Step
        pub step : Step
        pub rest : List Step
        pub parts : steps ≡ before ++ step ∷ rest
        pub place : n ≡ length before + 1
        pub tree : Tree N
        pub order : List Address
        pub slot : Address → ℕ
        pub reached : SpellsExecutable b before tree order slot
        pub fails : FailsBy b tree slot (last_state N State Allows next first reached.executable.labels) step why

      module _ (Goal : State → Type 0) where
        -- the sentences on the end
        abbrev pub EndSentence : Tree N → State → Why → Type 0
        EndSentence tree S Unfinished = (p : Address) × IsOpen N tree p
        EndSentence tree S GoalFalse = ((p : Address) → IsOpen N tree p → ⊥) × (Goal S → ⊥)
        EndSentence tree S why = ⊥

        -- each step can be taken, and something is left: that counts as a further step
        pub record EndFails (b : ℕ) (steps : List Step) (n : ℕ) (why : Why) : Type 0 where
          pub place : n ≡ length steps + 1
          pub tree : Tree N
          pub order : List Address
          pub slot : Address → ℕ
          pub reached : SpellsExecutable b steps tree order slot
          pub fails : EndSentence tree (last_state N State Allows next first reached.executable.labels) why

        -- the list fails at step n for this cause
        abbrev pub Fails : ℕ → List Step → ℕ → Why → Type 0
        Fails b steps n why = StepFails b steps n why ⊎ EndFails b steps n why

        -- the list spells a solution, with b slots
        abbrev pub SpellsSolution : ℕ → List Step → Type 0
        SpellsSolution b steps = (acts : List (Act N)) × (tree : Tree N) × (order : List Address) × (slot : Address → ℕ)
            × AreRead b steps acts × Spells N b top acts tree order slot × IsSolution N State Allows next top first Goal tree order
