-- What the machine's state says of a front.
use Rattle.std.specs.Prelude.{ℕ, ◌≡◌, ◌≤◌, ◌↔◌, Some}
use Rattle.plan_model.specs.task_networks.Order.{Precedes}
use Rattle.plan_model.specs.task_networks.Net.{Net}
use Rattle.plan_model.specs.task_networks.Tree.{Tree, waits, Address, label_at, IsAddress, IsOpen}
use Rattle.plan_model.specs.task_networks.Schedule.{MustPrecede}
use Rattle.slot_machine.specs.Machine.{SlotState}

-- two functions give each address of the tree the same slot
abbrev pub SameSlots : (N : Net) → Tree N → (f g : Address → ℕ) → Type 0
SameSlots N tree f g = (p : Address) → IsAddress N tree p → g p ≡ f p

module _ (N : Net) (tree : Tree N) (slot : Address → ℕ) where
  -- slot x is that of an open leaf with this work
  abbrev pub HasLeaf : ℕ → N.Work → Type 0
  HasLeaf x w = (p : Address) × (label_at N tree p ≡ Some (waits w)) × (slot p ≡ x)

  -- slot x is one of b, and no open leaf's
  abbrev pub IsLeft : ℕ → ℕ → Type 0
  IsLeft b x = (1 ≤ x) × (x ≤ b) × ((p : Address) → IsOpen N tree p → slot p ≡ x → ⊥)

  -- the state tells the front's open leaves, their slots, and what must precede what
  pub record Tells (b : ℕ) (s : SlotState N) : Type 0 where
    pub holds : (x : ℕ) (w : N.Work) → s.holds x w ↔ HasLeaf x w
    pub free : (x : ℕ) → s.free x ↔ IsLeft b x
    -- no order pair touches a free slot
    pub untouched : (x y : ℕ) → s.before x y → (s.free x → ⊥) × (s.free y → ⊥)
    -- the closure of the order pairs
    pub order : (u v : Address) → IsOpen N tree u → IsOpen N tree v → Precedes s.before (slot u) (slot v) ↔ MustPrecede N tree u v
