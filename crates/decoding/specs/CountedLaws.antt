-- What is proved of the numbers that a decoder keeps.
use Rattle.std.specs.Prelude.{ℕ, ◌≡◌, ◌<◌, ◌≤◌, ◌↔◌, List, [], ◌∷◌, ◌++◌, length, slice_get, Some}
use Rattle.plan_model.specs.task_networks.Net.{Net, count}
use Rattle.plan_model.specs.task_networks.Tree.{Tree, open_leaf, waits, used, Address, label_at, IsOpen}
use Rattle.plan_model.specs.task_networks.Spelling.{Act, label_of, Spells}
use Rattle.decoding.specs.FailingAct.{slot_in, work_in, WaitsAt}
use Rattle.decoding.specs.Waiting.{works_below}
use Rattle.decoding.specs.Counted.{AreCounted, IsWhole, IsToldTo, AreLowered, AreNumberedNew, AreNumberedNone}

module _ (N : Net) where
  abbrev pub CountedAtFirst : Type 0
  CountedAtFirst = (top : N.Work) (slot : Address → ℕ) (blocked open_at : ℕ → ℕ) → blocked (slot []) ≡ 0
      → AreCounted N (open_leaf top) [] slot blocked open_at

  -- what a slot holds waits exactly where the number at it isn't 0
  abbrev pub CountTellsWaiting : Type 0
  CountTellsWaiting = (b : ℕ) (top : N.Work) (acts : List (Act N)) (tree : Tree N) (order : List Address) (slot : Address
      → ℕ) (blocked open_at : ℕ → ℕ)
      → Spells N b top acts tree order slot → AreCounted N tree order slot blocked open_at → (p : Address) → IsOpen N tree p
      → WaitsAt N tree slot (slot p) ↔ (1 ≤ blocked (slot p))

  -- a front and the next one, by one more act
  module _ (b : ℕ) (top : N.Work) (acts : List (Act N)) (a : Act N) (tree grown : Tree N) (order longer : List Address)
      (slot slots : Address → ℕ) where
    abbrev pub CountedWithChildren : Type 0
    CountedWithChildren = (m : N.Method) (blocked open_at blocked' open_at' : ℕ → ℕ) → label_of N a ≡ used m → 0 < count N m
        → AreCounted N tree order slot blocked open_at
        → AreNumberedNew N a m (length order) blocked open_at blocked' open_at' → AreCounted N grown longer slots blocked' open_at'

    -- the leaf of an act without children is whole
    abbrev pub WalkBegins : Type 0
    WalkBegins = (p : Address) (blocked open_at blocked' open_at' : ℕ → ℕ) → works_below N (label_of N a) ≡ []
        → label_at N tree p ≡ Some (waits (work_in N a)) → slot p ≡ slot_in N a
        → AreCounted N tree order slot blocked open_at → AreNumberedNone N a (length order) blocked open_at blocked' open_at'
        → IsWhole N tree grown longer slots blocked' open_at' p

    -- where a child is whole, what it comes right before is an open leaf with a number that isn't 0; and when these are lowered, it has
    -- been told to its parent
    pub record WalkTells (q : Address) (i k : ℕ) (m : N.Method) (blocked open_at : ℕ → ℕ) : Type 0 where
      pub waiting : (j : ℕ) → N.Pair m i j → IsOpen N grown (j ∷ q) × (1 ≤ blocked (slots (j ∷ q)))
      pub parent : 1 ≤ open_at k
      pub told : (blocked' open_at' : ℕ → ℕ) → AreLowered N m slots q i k blocked open_at blocked' open_at'
          → IsToldTo N tree grown longer slots blocked' open_at' q

    abbrev pub WalkGoesOn : Type 0
    WalkGoesOn = (q : Address) (i k : ℕ) (m : N.Method) (blocked open_at : ℕ → ℕ)
        → IsWhole N tree grown longer slots blocked open_at (i ∷ q) → slice_get longer k ≡ Some q
        → label_at N grown q ≡ Some (used m) → WalkTells q i k m blocked open_at

    -- and then its number says whether the parent is whole too; where it isn't, or where the root is whole, all numbers are those of the
    -- new tree
    pub record WalkEnds (q : Address) (k : ℕ) (m : N.Method) (blocked open_at : ℕ → ℕ) : Type 0 where
      pub whole : open_at k ≡ 0 → IsWhole N tree grown longer slots blocked open_at q
      pub counted : 1 ≤ open_at k → AreCounted N grown longer slots blocked open_at

    abbrev pub WalkIsDecided : Type 0
    WalkIsDecided = (q : Address) (k : ℕ) (m : N.Method) (blocked open_at : ℕ → ℕ) → IsToldTo N tree grown longer slots blocked open_at q
        → slice_get longer k ≡ Some q
        → label_at N grown q ≡ Some (used m) → WalkEnds q k m blocked open_at

    abbrev pub WalkEndsAtRoot : Type 0
    WalkEndsAtRoot = (blocked open_at : ℕ → ℕ) → IsWhole N tree grown longer slots blocked open_at []
        → AreCounted N grown longer slots blocked open_at

  -- how the numbers follow a step
  pub record CountsFollow (b : ℕ) (top : N.Work) (acts : List (Act N)) (a : Act N) (tree grown : Tree N) (order longer : List Address)
      (slot slots : Address → ℕ) : Type 0 where
    pub with_children : CountedWithChildren b top acts a tree grown order longer slot slots
    pub begins : WalkBegins b top acts a tree grown order longer slot slots
    pub goes_on : WalkGoesOn b top acts a tree grown order longer slot slots
    pub is_decided : WalkIsDecided b top acts a tree grown order longer slot slots
    pub ends_at_root : WalkEndsAtRoot b top acts a tree grown order longer slot slots

  abbrev pub StepCounts : Type 0
  StepCounts = (b : ℕ) (top : N.Work) (acts : List (Act N)) (a : Act N) (tree grown : Tree N) (order longer : List Address)
      (slot slots : Address → ℕ)
      → Spells N b top acts tree order slot → Spells N b top (acts ++ a ∷ []) grown longer slots
      → CountsFollow b top acts a tree grown order longer slot slots
