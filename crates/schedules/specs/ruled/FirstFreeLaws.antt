-- What is proved of rules for new slots, and of the lowest free slots.
-- Source: this project's.
use Rattle.std.specs.Prelude.{ℕ, ◌≡◌, ◌≤◌, ◌↔◌, List, map}
use Rattle.plan_model.specs.task_networks.Net.{Net}
use Rattle.plan_model.specs.task_networks.Tree.{Tree, Label, Address, IsAddress}
use Rattle.plan_model.specs.task_networks.Pending.{IsWithin}
use Rattle.plan_model.specs.task_networks.Front.{IsFront}
use Rattle.plan_model.specs.task_networks.Executable.{AreAllowed, last_state, IsSolution}
use Rattle.plan_model.specs.task_networks.Spelling.{Act, label_of, Spells}
use Rattle.slot_machine.specs.Machine.{SlotState, start}
use Rattle.slot_machine.specs.Reached.{SameSlots}
use Rattle.slot_machine.specs.OtherMachine.{TakesAll, AgreesAtFronts}
use Rattle.schedules.specs.ruled.Narrowed.{after, SpellsPickedFront, AlwaysPicks, PicksOne}
use Rattle.schedules.specs.ruled.SlotRule.{IsRuled, PicksBy, RuledRuns, Follows}
use Rattle.schedules.specs.ruled.LowestSlots.{LowestRule, AreLowest}
use Rattle.schedules.specs.ruled.Laws.{IsPickedPlan}

module _ (N : Net) (Rule : (ℕ → Type 0) → ℕ → N.Method → List ℕ → Type 0) where
  -- the acts that follow the rule are those of fronts whose slots follow it
  abbrev pub PickedAreFollowing : Type 0
  PickedAreFollowing = (b : ℕ) (top : N.Work) (acts : List (Act N)) (tree : Tree N) (order : List Address) (slot : Address → ℕ)
      → Spells N b top acts tree order slot → TakesAll N (PicksBy N Rule b top) acts ↔ Follows N Rule b tree order slot

  -- ruled runs are the picked fronts
  abbrev pub RuledRunsArePicked : Type 0
  RuledRunsArePicked = (b : ℕ) (top : N.Work) (acts : List (Act N)) → 1 ≤ b
      → RuledRuns N Rule (start N b top) acts ↔ SpellsPickedFront N (PicksBy N Rule b top) b top acts

  -- where a machine agrees with that of slots at fronts, with the rule as a further condition it takes the picked fronts
  abbrev pub RuledTakesPicked : (List (Act N) → SlotState N) → (List (Act N) → Act N → Type 0) → Type 0
  RuledTakesPicked read Takes = (b : ℕ) (top : N.Work) → 1 ≤ b → AgreesAtFronts N read Takes b top
      → (acts : List (Act N))
      → TakesAll N (λ taken a. Takes taken a × IsRuled N Rule (read taken) a) acts ↔ SpellsPickedFront N (PicksBy N Rule b top) b top acts

module _ (N : Net) where
  -- the acts spell the front with the lowest slots
  pub record SpellsLowest (b : ℕ) (top : N.Work) (acts : List (Act N)) (tree : Tree N) (order : List Address) (slot : Address
      → ℕ) : Type 0 where
    pub spells : Spells N b top acts tree order slot
    pub lowest : AreLowest N tree slot order

  -- lowest slots are found wherever there are any, and are the only ones
  pub record LowestIsARule (b : ℕ) (top : N.Work) : Type 0 where
    pub always : AlwaysPicks N (PicksBy N (LowestRule N) b top) b top
    pub one : PicksOne N (PicksBy N (LowestRule N) b top) b top

  -- what the rule picks are the lowest slots
  abbrev pub LowestArePicked : Type 0
  LowestArePicked = (b : ℕ) (top : N.Work) (acts : List (Act N)) (tree : Tree N) (order : List Address) (slot : Address → ℕ)
      → Spells N b top acts tree order slot → TakesAll N (PicksBy N (LowestRule N) b top) acts ↔ AreLowest N tree slot order

  -- a front has one choice of lowest slots, on its nodes
  abbrev pub LowestAreTheOnlyOnes : Type 0
  LowestAreTheOnlyOnes = (top : N.Work) (tree : Tree N) (order : List Address) (slot other : Address → ℕ) → IsFront N top tree order
      → AreLowest N tree slot order → AreLowest N tree other order → (p : Address) → IsAddress N tree p → slot p ≡ other p

  -- which spells it with b slots, where never more than b nodes are pending
  abbrev pub LowestSpell : Type 0
  LowestSpell = (b : ℕ) (top : N.Work) (tree : Tree N) (order : List Address) (slot : Address → ℕ) → IsFront N top tree order
      → AreLowest N tree slot order → IsWithin N b tree order → (acts : List (Act N)) × Spells N b top acts tree order slot

  -- a front is spelled with the lowest of b slots exactly where never more than b nodes are pending
  abbrev pub LowestExactlyWhereWithin : Type 0
  LowestExactlyWhereWithin = (b : ℕ) (top : N.Work) (tree : Tree N) (order : List Address) → IsFront N top tree order
      → IsWithin N b tree order ↔ ((acts : List (Act N)) × (slot : Address → ℕ) × SpellsLowest b top acts tree order slot)

  -- and by one list
  abbrev pub OneLowestList : Type 0
  OneLowestList = (b : ℕ) (top : N.Work) (tree : Tree N) (order : List Address) (acts other : List (Act N)) (slot other_slot : Address → ℕ)
      → SpellsLowest b top acts tree order slot → SpellsLowest b top other tree order other_slot
      → (acts ≡ other) × SameSlots N tree slot other_slot

module _ (N : Net) (Rule : (ℕ → Type 0) → ℕ → N.Method → List ℕ → Type 0) (State : Type 1)
    (Allows : State → Label N → Type 0) (next : State → Label N → State) (first : State) (Goal : State → Type 0) where
  -- a plan of the machine of slots with the rule: a ruled run that its states allow, after which all slots are free, and the goal is true
  pub record IsRuledPlan (b : ℕ) (top : N.Work) (acts : List (Act N)) : Type 0 where
    pub run : RuledRuns N Rule (start N b top) acts
    pub allowed : AreAllowed N State Allows next first (map (label_of N) acts)
    pub free : (x : ℕ) → 1 ≤ x → x ≤ b → (after N b top acts).free x
    pub goal : Goal (last_state N State Allows next first (map (label_of N) acts))

  -- it is a plan that is picked
  abbrev pub RuledPlansArePicked : Type 0
  RuledPlansArePicked = (b : ℕ) (top : N.Work) (acts : List (Act N))
      → IsRuledPlan b top acts ↔ IsPickedPlan N (PicksBy N Rule) State Allows next first Goal b top acts

module _ (N : Net) (State : Type 1) (Allows : State → Label N → Type 0) (next : State → Label N → State) (first : State) (Goal : State
    → Type 0) where
  -- a plan with first-free slots
  abbrev pub IsFirstFreePlan : ℕ → N.Work → List (Act N) → Type 0
  IsFirstFreePlan = IsRuledPlan N (LowestRule N) State Allows next first Goal

  -- these are the spellings of solutions with the lowest slots
  abbrev pub FirstFreePlansAreSolutions : Type 0
  FirstFreePlansAreSolutions = (b : ℕ) (top : N.Work) (acts : List (Act N)) → 1 ≤ b
      → IsFirstFreePlan b top acts ↔ ((tree : Tree N) × (order : List Address) × (slot : Address → ℕ)
      × SpellsLowest N b top acts tree order slot × IsSolution N State Allows next top first Goal tree order)

  -- each solution with never more than b pending has exactly one
  abbrev pub OneFirstFreePlan : Type 0
  OneFirstFreePlan = (b : ℕ) (top : N.Work) (tree : Tree N) (order : List Address)
      → IsSolution N State Allows next top first Goal tree order → IsWithin N b tree order
      → (acts : List (Act N)) × (slot : Address → ℕ) × SpellsLowest N b top acts tree order slot × IsFirstFreePlan b top acts
      × ((other : List (Act N)) (other_slot : Address → ℕ) → SpellsLowest N b top other tree order other_slot → other ≡ acts)
