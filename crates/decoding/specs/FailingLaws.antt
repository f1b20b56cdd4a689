-- What is proved of failing steps.
use Rattle.std.specs.Prelude.{ℕ, ◌≡◌, ◌≤◌, ◌⊎◌, ◌↔◌, List, [], ◌∷◌, ◌++◌, map}
use Rattle.plan_model.specs.task_networks.Order.{Precedes}
use Rattle.plan_model.specs.task_networks.Net.{Net}
use Rattle.plan_model.specs.task_networks.Tree.{Tree, Label, Address}
use Rattle.plan_model.specs.task_networks.Executable.{last_state, IsExecutableOrder}
use Rattle.plan_model.specs.task_networks.Spelling.{Act, label_of, Spells}
use Rattle.slot_machine.specs.Reached.{HasLeaf}
use Rattle.slot_machine.specs.Causes.{Can}
use Rattle.decoding.specs.declared.causes.Why.{Why}
use Rattle.decoding.specs.declared.causes.Why.TheVariants.{UnknownAction, Arguments, SlotHolds, Waiting, SlotTaken, Constraint}
use Rattle.decoding.specs.declared.causes.Why.TheVariants.{Precondition}
use Rattle.decoding.specs.FailingAct.{slot_in, work_in, new_in, IsFormed, WaitsAt, IsSlotTaken, IsMet, IsUnmet, IsReading, FailsBy, Fails}
use Rattle.decoding.specs.FailingAct.{SpellsSolution}

abbrev pub Decided : Type 0 → Type 0
Decided P = P ⊎ (P → ⊥)

module _ (N : Net) where
  -- what is spelled is formed, so that nothing is lost by readings that ask for the form
  abbrev pub SpelledIsFormed : Type 0
  SpelledIsFormed = (b : ℕ) (top : N.Work) (before rest : List (Act N)) (a : Act N) (tree : Tree N) (order : List Address) (slot : Address
      → ℕ)
      → Spells N b top (before ++ a ∷ rest) tree order slot → IsFormed N b a

module _ (N : Net) (State : Type 1) (Allows : State → Label N → Type 0) (next : State → Label N → State) (first : State) (Goal : State
    → Type 0) where
  -- an act can be taken, by the sentences on the front and in its state, exactly where the longer list spells an executable front
  abbrev pub TakenWhereItCan : Type 0
  TakenWhereItCan = (b : ℕ) (top : N.Work) (acts : List (Act N)) (a : Act N) (tree : Tree N) (order : List Address) (slot : Address → ℕ)
      → 1 ≤ b
      → Spells N b top acts tree order slot → (reached : IsExecutableOrder N State Allows next first tree order)
      → (Can N tree slot b a × Allows (last_state N State Allows next first reached.labels) (label_of N a))
      ↔ ((grown : Tree N) × (longer : List Address) × (slots : Address → ℕ) × Spells N b top (acts ++ a ∷ []) grown longer slots
      × IsExecutableOrder N State Allows next first grown longer)

  module _ (Step : Type 0) (Named : Step → Type 0) (Reads : ℕ → Step → Act N → Type 0) where
    -- what the tests of a step say, done in the order of the causes, each where those before it found nothing
    pub record TestsTell (b : ℕ) (tree : Tree N) (slot : Address → ℕ) (S : State) (s : Step) : Type 0 where
      pub unnamed : (Named s → ⊥) → FailsBy N State Allows next Step Named Reads b tree slot S s UnknownAction
      pub unread : Named s → ((a : Act N) → Reads b s a → ⊥) → FailsBy N State Allows next Step Named Reads b tree slot S s Arguments
      pub not_held : (a : Act N) → Reads b s a → (HasLeaf N tree slot (slot_in N a) (work_in N a) → ⊥)
          → FailsBy N State Allows next Step Named Reads b tree slot S s SlotHolds
      pub waits : (a : Act N) → Reads b s a → HasLeaf N tree slot (slot_in N a) (work_in N a) → WaitsAt N tree slot (slot_in N a)
          → FailsBy N State Allows next Step Named Reads b tree slot S s Waiting
      pub taken : (a : Act N) → Reads b s a → HasLeaf N tree slot (slot_in N a) (work_in N a) → (WaitsAt N tree slot (slot_in N a) → ⊥)
          → IsSlotTaken N tree slot (new_in N a)
          → FailsBy N State Allows next Step Named Reads b tree slot S s SlotTaken
      pub unmet : (a : Act N) → Reads b s a → HasLeaf N tree slot (slot_in N a) (work_in N a) → (WaitsAt N tree slot (slot_in N a) → ⊥)
          → (IsSlotTaken N tree slot (new_in N a) → ⊥) → IsUnmet N a
          → FailsBy N State Allows next Step Named Reads b tree slot S s Constraint
      pub not_allowed : (a : Act N) → Reads b s a → HasLeaf N tree slot (slot_in N a) (work_in N a)
          → (WaitsAt N tree slot (slot_in N a) → ⊥) → (IsSlotTaken N tree slot (new_in N a) → ⊥) → IsMet N a → (Allows S (label_of N a) → ⊥)
          → FailsBy N State Allows next Step Named Reads b tree slot S s Precondition
      -- where none finds anything, and the condition is true, the act can be taken
      pub can : (a : Act N) → Reads b s a → HasLeaf N tree slot (slot_in N a) (work_in N a) → (WaitsAt N tree slot (slot_in N a) → ⊥)
          → (IsSlotTaken N tree slot (new_in N a) → ⊥) → IsMet N a → Can N tree slot b a

    abbrev pub TestsTellCauses : Type 0
    TestsTellCauses = (b : ℕ) (top : N.Work) (acts : List (Act N)) (tree : Tree N) (order : List Address) (slot : Address → ℕ) (s : Step)
        → IsReading N State Allows next Step Named Reads b
        → Spells N b top acts tree order slot → TestsTell b tree slot (last_state N State Allows next first (map (label_of N) acts)) s

    -- a list spells a solution, or it fails at one step for one first cause, and not both
    pub record IsSolutionOrFails (b : ℕ) (top : N.Work) (steps : List Step) : Type 0 where
      pub one_of : (SpellsSolution N State Allows next Step Named Reads top first Goal b steps → ⊥)
          → ((n : ℕ) (why : Why) → Fails N State Allows next Step Named Reads top first Goal b steps n why → ⊥) → ⊥
      pub not_both : (n : ℕ) (why : Why) → SpellsSolution N State Allows next Step Named Reads top first Goal b steps
          → Fails N State Allows next Step Named Reads top first Goal b steps n why → ⊥
      pub step : (n m : ℕ) (why because : Why) → Fails N State Allows next Step Named Reads top first Goal b steps n why
          → Fails N State Allows next Step Named Reads top first Goal b steps m because → n ≡ m
      pub cause : (n m : ℕ) (why because : Why) → Fails N State Allows next Step Named Reads top first Goal b steps n why
          → Fails N State Allows next Step Named Reads top first Goal b steps m because → why ≡ because

    abbrev pub EachIsSolutionOrFails : Type 0
    EachIsSolutionOrFails = (b : ℕ) (top : N.Work) (steps : List Step) → 1 ≤ b → IsReading N State Allows next Step Named Reads b
        → IsSolutionOrFails b top steps

    -- what must be decided to find out which: the states are those that lists of labels lead to
    pub record AreDecided : Type 0 where
      pub named : (s : Step) → Decided (Named s)
      pub reads : (b : ℕ) (s : Step) → Decided ((a : Act N) × Reads b s a)
      pub works : (w v : N.Work) → Decided (w ≡ v)
      pub precedes : (m : N.Method) (i j : ℕ) → Decided (Precedes (N.Pair m) i j)
      pub ground : (m : N.Method) → Decided (N.IsGround m)
      pub allows : (labels : List (Label N)) (l : Label N) → Decided (Allows (last_state N State Allows next first labels) l)
      pub goal : (labels : List (Label N)) → Decided (Goal (last_state N State Allows next first labels))

    -- and then it is found out
    abbrev pub EachIsDecided : Type 0
    EachIsDecided = (b : ℕ) (top : N.Work) (steps : List Step) → 1 ≤ b → IsReading N State Allows next Step Named Reads b → AreDecided
        → SpellsSolution N State Allows next Step Named Reads top first Goal b steps
        ⊎ ((n : ℕ) × (why : Why) × Fails N State Allows next Step Named Reads top first Goal b steps n why)
