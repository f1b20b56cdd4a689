-- All that a decoder keeps of a front, and what it does at a step, in its own words: growths, slots and numbers.
-- Source: this project's.
use Rattle.std.specs.Prelude.{ℕ, suc, ◌≡◌, ◌≢◌, ◌<◌, List, [], ◌∷◌, ◌++◌, length, Option, Some, None, slice_get, Contains}
use Rattle.htn_base.specs.Different.{AreDifferent}
use Rattle.plan_model.specs.task_networks.Net.{Net, count}
use Rattle.plan_model.specs.task_networks.Tree.{Tree, used, Address, label_at}
use Rattle.plan_model.specs.task_networks.Spelling.{Act, label_of, Spells}
use Rattle.slot_machine.specs.Machine.{with_heir}
use Rattle.tree_core.specs.Growths.{Growth}
use Rattle.decoding.specs.FailingAct.{slot_in, work_in, new_in, IsFormed, IsMet}
use Rattle.decoding.specs.HeldLeaves.{Leaf, Fits, growth_of, AreHeldAfter}
use Rattle.decoding.specs.Counted.{AreCounted, IsWhole}

pub record Kept (N : Net) : Type 0 where
  pub growths : List (Growth N)
  -- by slot: the open leaf that it holds, and how many direct predecessors of it aren't whole
  pub held : ℕ → Option (Leaf N)
  pub blocked : ℕ → ℕ
  -- by the place of a growth: how many of its children aren't whole, and the slot of each of them
  pub open_at : ℕ → ℕ
  pub child_slot : ℕ → ℕ → ℕ

module _ (N : Net) where
  -- the slots of the children of what is decomposed
  abbrev pub AreChildSlots : Tree N → List Address → (Address → ℕ) → (ℕ → ℕ → ℕ) → Type 0
  AreChildSlots tree order slot child_slot = (k : ℕ) (q : Address) (m : N.Method) (j : ℕ) → slice_get order k ≡ Some q
      → label_at N tree q ≡ Some (used m) → j < count N m
      → child_slot k j ≡ slot (j ∷ q)

  module _ (b : ℕ) (top : N.Work) where
    -- the acts spell a front, and this is kept of it
    pub record Keeps (kept : Kept N) (acts : List (Act N)) : Type 0 where
      pub tree : Tree N
      pub order : List Address
      pub slot : Address → ℕ
      pub spells : Spells N b top acts tree order slot
      pub fits : Fits N kept.growths kept.held tree order slot
      pub counted : AreCounted N tree order slot kept.blocked kept.open_at
      pub child_slots : AreChildSlots tree order slot kept.child_slot

    -- the acts and one more spell a front, and this is kept of it but for the numbers: what stands at growth k has become whole
    pub record KeepsWhole (kept : Kept N) (acts : List (Act N)) (a : Act N) (k : ℕ) : Type 0 where
      pub tree : Tree N
      pub order : List Address
      pub slot : Address → ℕ
      pub before : Spells N b top acts tree order slot
      pub grown : Tree N
      pub longer : List Address
      pub slots : Address → ℕ
      pub spells : Spells N b top (acts ++ a ∷ []) grown longer slots
      pub fits : Fits N kept.growths kept.held grown longer slots
      pub child_slots : AreChildSlots grown longer slots kept.child_slot
      pub node : Address
      pub is_at : slice_get longer k ≡ Some node
      pub whole : IsWhole N tree grown longer slots kept.blocked kept.open_at node

    -- what the tests of an act find: its slot holds its work, which waits for none; its new slots hold nothing and differ; what its method
    -- asks is met
    pub record MayTake (kept : Kept N) (a : Act N) (leaf : Leaf N) : Type 0 where
      pub formed : IsFormed N b a
      pub held : kept.held (slot_in N a) ≡ Some leaf
      pub work : leaf.work ≡ work_in N a
      pub unblocked : kept.blocked (slot_in N a) ≡ 0
      pub free : (x : ℕ) → Contains (new_in N a) x → kept.held x ≡ None
      pub different : AreDifferent (new_in N a)
      pub met : IsMet N a

  -- the leaf has grown by the act: its growth is the last, the slots hold its children, and these are noted as its children's slots
  pub record IsGrownBy (old new : Kept N) (a : Act N) (leaf : Leaf N) : Type 0 where
    pub growths : new.growths ≡ old.growths ++ growth_of N leaf a ∷ []
    pub held : AreHeldAfter N old.held new.held a (length old.growths)
    pub new_slots : (m : N.Method) (j x : ℕ) → label_of N a ≡ used m
        → slice_get (with_heir (N.heir m) (slot_in N a) (new_in N a)) j ≡ Some x → new.child_slot (length old.growths) j ≡ x
    pub other_slots : (k j : ℕ) → k < length old.growths → new.child_slot k j ≡ old.child_slot k j

  -- child i of growth x, which is decomposed by m, has become whole: one less at each child that it comes right before, and one less at its
  -- parent
  pub record IsLoweredBy (old new : Kept N) (m : N.Method) (i x : ℕ) : Type 0 where
    pub growths : new.growths ≡ old.growths
    pub held : (y : ℕ) → new.held y ≡ old.held y
    pub slots : (k j : ℕ) → k < length old.growths → new.child_slot k j ≡ old.child_slot k j
    pub blocked_falls : (j : ℕ) → N.Pair m i j → old.blocked (old.child_slot x j) ≡ suc (new.blocked (old.child_slot x j))
    pub blocked_stays : (y : ℕ) → ((j : ℕ) → N.Pair m i j → y ≢ old.child_slot x j) → new.blocked y ≡ old.blocked y
    pub open_falls : old.open_at x ≡ suc (new.open_at x)
    pub open_stays : (k : ℕ) → k ≢ x → new.open_at k ≡ old.open_at k
