-- What is proved of all that a decoder keeps.
use Rattle.std.specs.Prelude.{ℕ, ◌≡◌, ◌<◌, ◌≤◌, ◌⊎◌, ◌↔◌, List, [], ◌∷◌, ◌++◌, length, Some, None, slice_get, Contains}
use Rattle.htn_base.specs.Different.{AreDifferent}
use Rattle.plan_model.specs.task_networks.Net.{Net, count}
use Rattle.plan_model.specs.task_networks.Tree.{used}
use Rattle.plan_model.specs.task_networks.Spelling.{Act, label_of}
use Rattle.slot_machine.specs.Reached.{HasLeaf}
use Rattle.tree_core.specs.Growths.{Growth}
use Rattle.decoding.specs.FailingAct.{WaitsAt, IsSlotTaken}
use Rattle.decoding.specs.Waiting.{works_below}
use Rattle.decoding.specs.HeldLeaves.{Leaf}
use Rattle.decoding.specs.Counted.{AreNumberedNew, AreNumberedNone}
use Rattle.decoding.specs.Keeping.{Kept, Keeps, KeepsWhole, MayTake, IsGrownBy, IsLoweredBy}

module _ (N : Net) where
  -- at first slot 1 holds the top work, which waits for none
  pub record IsFirst (top : N.Work) (kept : Kept N) : Type 0 where
    pub growths : kept.growths ≡ []
    pub root : kept.held 1 ≡ Some (record { parent = None; child = 0; work = top })
    pub others : (x : ℕ) → (x ≡ 1 → ⊥) → kept.held x ≡ None
    pub unblocked : kept.blocked 1 ≡ 0

  abbrev pub KeptAtFirst : Type 0
  KeptAtFirst = (b : ℕ) (top : N.Work) (kept : Kept N) → 1 ≤ b → IsFirst top kept → Keeps N b top kept []

  -- what is kept answers the tests of an act
  pub record KeptTells (b : ℕ) (top : N.Work) (kept : Kept N) (acts : List (Act N)) (keeps : Keeps N b top kept acts) : Type 0 where
    pub holds : (x : ℕ) (w : N.Work) → HasLeaf N keeps.tree keeps.slot x w ↔ ((leaf : Leaf N) × (kept.held x ≡ Some leaf) × (leaf.work ≡ w))
    pub waits : (x : ℕ) (leaf : Leaf N) → kept.held x ≡ Some leaf → WaitsAt N keeps.tree keeps.slot x ↔ (1 ≤ kept.blocked x)
    pub taken : (new : List ℕ) → IsSlotTaken N keeps.tree keeps.slot new
        ↔ (((x : ℕ) × (leaf : Leaf N) × Contains new x × (kept.held x ≡ Some leaf)) ⊎ (AreDifferent new → ⊥))

  abbrev pub KeepingTells : Type 0
  KeepingTells = (b : ℕ) (top : N.Work) (kept : Kept N) (acts : List (Act N)) (keeps : Keeps N b top kept acts)
      → KeptTells b top kept acts keeps

  -- an act with children
  abbrev pub KeepsWithChildren : Type 0
  KeepsWithChildren = (b : ℕ) (top : N.Work) (old new : Kept N) (acts : List (Act N)) (a : Act N) (leaf : Leaf N) (m : N.Method) → 1 ≤ b
      → Keeps N b top old acts → MayTake N b top old a leaf
      → IsGrownBy N old new a leaf → label_of N a ≡ used m → 0 < count N m
      → AreNumberedNew N a m (length old.growths) old.blocked old.open_at new.blocked new.open_at
      → Keeps N b top new (acts ++ a ∷ [])

  -- an act without children: its growth is whole
  abbrev pub KeepsWithout : Type 0
  KeepsWithout = (b : ℕ) (top : N.Work) (old new : Kept N) (acts : List (Act N)) (a : Act N) (leaf : Leaf N) → 1 ≤ b
      → Keeps N b top old acts → MayTake N b top old a leaf
      → IsGrownBy N old new a leaf → works_below N (label_of N a) ≡ []
      → AreNumberedNone N a (length old.growths) old.blocked old.open_at new.blocked new.open_at
      → KeepsWhole N b top new acts a (length old.growths)

  -- from a whole growth to its parent
  pub record WalkGoes (b : ℕ) (top : N.Work) (kept : Kept N) (acts : List (Act N)) (a : Act N) (i x : ℕ) (m : N.Method) : Type 0 where
    -- what it comes right before is open, and has a number that isn't 0
    pub waiting : (j : ℕ) → N.Pair m i j → (1 ≤ kept.blocked (kept.child_slot x j))
        × ((leaf : Leaf N) × (kept.held (kept.child_slot x j) ≡ Some leaf))
    pub apart : (j k : ℕ) → N.Pair m i j → N.Pair m i k → kept.child_slot x j ≡ kept.child_slot x k → j ≡ k
    pub parent : 1 ≤ kept.open_at x
    -- when the numbers are lowered, the parent's says whether it is whole
    pub whole : (new : Kept N) → IsLoweredBy N kept new m i x → new.open_at x ≡ 0 → KeepsWhole N b top new acts a x
    pub done : (new : Kept N) → IsLoweredBy N kept new m i x → 1 ≤ new.open_at x → Keeps N b top new (acts ++ a ∷ [])

  abbrev pub WalkGoesUp : Type 0
  WalkGoesUp = (b : ℕ) (top : N.Work) (kept : Kept N) (acts : List (Act N)) (a : Act N) (k x : ℕ) (g up : Growth N) (m : N.Method)
      → KeepsWhole N b top kept acts a k → slice_get kept.growths k ≡ Some g
      → g.parent ≡ Some x → slice_get kept.growths x ≡ Some up → up.label ≡ used m → WalkGoes b top kept acts a g.child x m

  -- the root is whole
  abbrev pub WalkIsOver : Type 0
  WalkIsOver = (b : ℕ) (top : N.Work) (kept : Kept N) (acts : List (Act N)) (a : Act N) (k : ℕ) (g : Growth N)
      → KeepsWhole N b top kept acts a k → slice_get kept.growths k ≡ Some g → g.parent ≡ None
      → Keeps N b top kept (acts ++ a ∷ [])
