-- The children of a growth in their slots.
-- Source: this project's.
use Rattle.std.specs.Prelude.{ℕ, ◌≡◌, ◌≢◌, ◌<◌, List, Option, Some, None, slice_get}
use Rattle.kept_front.specs.declared.leaves.Leaves.{Leaves}
use Rattle.kept_front.specs.declared.later.Later.{Later}
use Rattle.kept_front.specs.Leaves.{leaf_at}
use Rattle.kept_front.specs.Later.{before}

-- the first n of the slots hold the children, each with the number of those that come right before it; other slots hold what they held
pub record ArePlanted (growth : ℕ) (slots : List ℕ) (later : Later) (old new : Leaves) (n : ℕ) : Type 0 where
  pub children : (i x : ℕ) → i < n → slice_get slots i ≡ Some x
      → leaf_at new x ≡ Some (record { parent = Some growth; child = i; blocked = before later i })
  pub others : (x : ℕ) → ((i : ℕ) → i < n → slice_get slots i ≡ Some x → ⊥) → leaf_at new x ≡ leaf_at old x

-- the leaf of a slot has grown: its slot is given up, and its children stand in these slots, where it is known what comes right before them
pub record AreRegrown (slot growth : ℕ) (slots : List ℕ) (later : Option Later) (old new : Leaves) : Type 0 where
  pub children : (l : Later) (i x : ℕ) → later ≡ Some l → slice_get slots i ≡ Some x
      → leaf_at new x ≡ Some (record { parent = Some growth; child = i; blocked = before l i })
  pub freed : (x : ℕ) → x ≡ slot → ((i : ℕ) → slice_get slots i ≡ Some x → ⊥) → leaf_at new x ≡ None
  pub others : (x : ℕ) → x ≢ slot → ((i : ℕ) → slice_get slots i ≡ Some x → ⊥) → leaf_at new x ≡ leaf_at old x
