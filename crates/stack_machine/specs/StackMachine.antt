-- The machine of a stack of cells 1 to b: which cell holds which work, and which is the tip. Only what is at the tip is taken.
-- Source: this project's.
use Rattle.std.specs.Prelude.{ℕ, suc, ◌≡◌, ◌+◌, ◌≤◌, ◌⊎◌, ◌↔◌, List, [], ◌∷◌, ◌++◌, Some, slice_get}
use Rattle.plan_model.specs.task_networks.Net.{Net, count}
use Rattle.plan_model.specs.task_networks.Tree.{Tree, Address}
use Rattle.plan_model.specs.task_networks.Spelling.{Act, run, apply, Spells}
use Rattle.slot_machine.specs.Machine.{IsSlotOf}
use Rattle.stack_machine.specs.Stack.{AreCellsFrom, AreCells}

module _ (N : Net) where
  pub record StackState : Type 1 where
    -- cell x holds the work
    pub holds : ℕ → N.Work → Type 0
    -- cell x is the highest that holds one; 0, where none does
    pub tip : ℕ → Type 0

  -- cell 1 holds the top work
  abbrev pub first_stack : N.Work → StackState
  first_stack top = record { holds = λ x w. (x ≡ 1) × (w ≡ top); tip = λ x. x ≡ 1 }

  pub record MayRunAtTip (s : StackState) (h : ℕ) (w : N.Work) : Type 0 where
    pub holds : s.holds h w
    pub simple : N.IsSimple w
    pub tip : s.tip h

  pub record MayApplyAtTip (b : ℕ) (s : StackState) (h : ℕ) (new : List ℕ) (m : N.Method) : Type 0 where
    pub holds : s.holds h (N.head m)
    pub ground : N.IsGround m
    pub tip : s.tip h
    pub cells : AreCellsFrom N h m new
    -- the cell of the line's first child is one of b
    pub room : h + count N m ≤ suc b

  abbrev pub MayAtTip : ℕ → StackState → Act N → Type 0
  MayAtTip b s (run h w) = MayRunAtTip s h w
  MayAtTip b s (apply h new m) = MayApplyAtTip b s h new m

  -- what was at h is gone, the children are in their cells, and the tip is that of the line's first child
  abbrev pub after_tip : StackState → Act N → StackState
  after_tip s (run h w) = record {
    holds = λ x v. s.holds x v × ((x ≡ h) × (v ≡ w) → ⊥);
    tip = λ x. (s.tip x × (x ≡ h → ⊥)) ⊎ (suc x ≡ h);
  }
  after_tip s (apply h new m) = record {
    holds = λ x v. (s.holds x v × ((x ≡ h) × (v ≡ N.head m) → ⊥)) ⊎ ((i : ℕ) × IsSlotOf N h new m i x × (slice_get (N.works m) i ≡ Some v));
    tip = λ x. (s.tip x × (x ≡ h → ⊥)) ⊎ (suc x ≡ h + count N m);
  }

  abbrev pub StackRuns : ℕ → StackState → List (Act N) → Type 0
  StackRuns b s [] = Unit {0}
  StackRuns b s (a ∷ acts) = MayAtTip b s a × StackRuns b (after_tip s a) acts

  abbrev pub end_of_stack : StackState → List (Act N) → StackState
  end_of_stack s [] = s
  end_of_stack s (a ∷ acts) = end_of_stack (after_tip s a) acts

  -- two states say the same
  pub record AreSameStacks (s t : StackState) : Type 0 where
    pub holds : (x : ℕ) (w : N.Work) → s.holds x w ↔ t.holds x w
    pub tip : (x : ℕ) → s.tip x ↔ t.tip x

  -- the acts spell the front with its cells
  pub record SpellsCells (b : ℕ) (top : N.Work) (acts : List (Act N)) (tree : Tree N) (order : List Address) (cell : Address → ℕ) : Type 0 where
    pub spells : Spells N b top acts tree order cell
    pub cells : AreCells N tree cell

  -- another machine, whose state after these acts says `read acts` of the cells, agrees with the stack at fronts
  pub record AgreesWithStack (read : List (Act N) → StackState) (Takes : List (Act N) → Act N → Type 0) (b : ℕ) (top : N.Work) : Type 0 where
    pub first : AreSameStacks (read []) (first_stack top)
    pub may : (acts : List (Act N)) (tree : Tree N) (order : List Address) (cell : Address → ℕ) (a : Act N)
        → SpellsCells b top acts tree order cell → AreSameStacks (read acts) (end_of_stack (first_stack top) acts)
        → Takes acts a ↔ MayAtTip b (end_of_stack (first_stack top) acts) a
    pub step : (acts : List (Act N)) (tree : Tree N) (order : List Address) (cell : Address → ℕ) (a : Act N)
        → SpellsCells b top acts tree order cell → AreSameStacks (read acts) (end_of_stack (first_stack top) acts) → MayAtTip b (end_of_stack (first_stack top) acts) a
        → AreSameStacks (read (acts ++ a ∷ [])) (after_tip (end_of_stack (first_stack top) acts) a)
