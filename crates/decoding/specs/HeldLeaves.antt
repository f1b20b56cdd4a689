-- What a decoder keeps of a front: the growths so far, and for each slot the open leaf that it holds.
-- Source: this project's.
use Rattle.std.specs.Prelude.{ℕ, ◌≡◌, ◌≢◌, List, length, Option, Some, None, slice_get}
use Rattle.plan_model.specs.task_networks.Net.{Net}
use Rattle.plan_model.specs.task_networks.Tree.{Tree, waits, used, Address, label_at, IsOpen}
use Rattle.plan_model.specs.task_networks.Spelling.{Act, label_of}
use Rattle.slot_machine.specs.Machine.{with_heir}
use Rattle.tree_core.specs.Growths.{Growth, IsUnder, AreGrowths}
use Rattle.decoding.specs.FailingAct.{slot_in, new_in}

-- an open leaf, by its parent's place among the growths and its child number; the root has no parent
pub record Leaf (N : Net) : Type 0 where
  pub parent : Option ℕ
  pub child : ℕ
  pub work : N.Work

module _ (N : Net) where
  -- slot x is that of this open leaf
  abbrev pub IsLeafAt : Tree N → List Address → (Address → ℕ) → ℕ → Leaf N → Type 0
  IsLeafAt tree order slot x leaf = (p : Address) × (label_at N tree p ≡ Some (waits leaf.work)) × (slot p ≡ x)
      × IsUnder N order (length order) leaf.parent leaf.child p

  -- what is kept tells the front
  pub record Fits (growths : List (Growth N)) (held : ℕ → Option (Leaf N)) (tree : Tree N) (order : List Address) (slot : Address
      → ℕ) : Type 0 where
    pub growths_are : AreGrowths N growths tree order
    pub held_are : (x : ℕ) (leaf : Leaf N) → held x ≡ Some leaf → IsLeafAt tree order slot x leaf
    pub all : (p : Address) → IsOpen N tree p → (leaf : Leaf N) × (held (slot p) ≡ Some leaf)

  -- the growth of an act at the leaf that its slot holds
  abbrev pub growth_of : Leaf N → Act N → Growth N
  growth_of leaf a = record { parent = leaf.parent; child = leaf.child; label = label_of N a }

  -- child i of the act's method has slot x
  abbrev pub IsChildSlot : Act N → ℕ → ℕ → Type 0
  IsChildSlot a i x = (m : N.Method) × (label_of N a ≡ used m) × (slice_get (with_heir (N.heir m) (slot_in N a) (new_in N a)) i ≡ Some x)

  -- what the slots hold after the act, which is growth number k: its children hang under it, its own slot is free, or the heir's, and the
  -- others stay
  pub record AreHeldAfter (held held' : ℕ → Option (Leaf N)) (a : Act N) (k : ℕ) : Type 0 where
    pub children : (i x : ℕ) (m : N.Method) (w : N.Work) → label_of N a ≡ used m
        → slice_get (with_heir (N.heir m) (slot_in N a) (new_in N a)) i ≡ Some x → slice_get (N.works m) i ≡ Some w
        → held' x ≡ Some (record { parent = Some k; child = i; work = w })
    pub freed : (x : ℕ) → x ≡ slot_in N a → ((i : ℕ) → IsChildSlot a i x → ⊥) → held' x ≡ None
    pub others : (x : ℕ) → x ≢ slot_in N a → ((i : ℕ) → IsChildSlot a i x → ⊥) → held' x ≡ held x
