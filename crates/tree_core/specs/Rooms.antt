-- Where the children of growths are noted: those of one parent in rooms side by side, as far as they reach.
-- Source: this project's.
use Rattle.std.specs.Prelude.{ℕ, suc, ◌≡◌, ◌+◌, ◌<◌, ◌≤◌, ◌⊎◌, nat_lt, cond, List, length, slice_index, slice_index_or, Option, Some, None}
use Rattle.std.specs.Ordering.{nat_cmp, ordering_then}
use Rattle.std.specs.declared.cmp.Ordering.{Ordering}
use Rattle.std.specs.BTreeMap.{get}
use Rattle.tree_core.specs.declared.children.Children.{Children}

-- places and child numbers, in their order
abbrev pub pair_cmp : ℕ × ℕ → ℕ × ℕ → Ordering
pair_cmp p q = ordering_then (nat_cmp p.0 q.0) (nat_cmp p.1 q.1)

-- the room of child i of growth x, before that of the next growth's children begins
abbrev pub room : List ℕ → ℕ → ℕ → Option ℕ
room starts x i = cond (nat_lt (slice_index starts x + i) (slice_index starts (suc x))) (Some (slice_index starts x + i)) None

-- what is noted in the room, or of a child that has none
abbrev pub found_by : Children → ℕ → ℕ → Option ℕ → Option ℕ
found_by children x i (Some r) = slice_index_or children.near.items r None
found_by children x i None = get pair_cmp children.far (x, i)

-- what is noted of child i of growth x
abbrev pub found : Children → ℕ → ℕ → Option ℕ
found children x i = found_by children x i (room children.starts.items x i)

-- the rooms lie one behind another, n in all at most
pub record AreStarts (n : ℕ) (starts : List ℕ) : Type 0 where
  pub ordered : (k l : ℕ) → k ≤ l → l < length starts → slice_index starts k ≤ slice_index starts l
  pub within : (k : ℕ) → slice_index starts k ≤ n

abbrev pub AreRooms : Children → Type 0
AreRooms children = AreStarts (length children.near.items) children.starts.items

-- place n stands for child i of growth x, and what stands for other children is as it was
abbrev pub IsPutAt : Children → Children → ℕ → ℕ → ℕ → ℕ → ℕ → Type 0
IsPutAt old new x i n y j = ((x ≡ y) × (i ≡ j) × (found new y j ≡ Some n)) ⊎ (((x ≡ y) × (i ≡ j) → ⊥) × (found new y j ≡ found old y j))

-- where none was noted of it; else all is as it was
pub record IsNoted (old new : Children) (x i n : ℕ) : Type 0 where
  pub fresh : found old x i ≡ None → (y j : ℕ) → IsPutAt old new x i n y j
  pub again : (k : ℕ) → found old x i ≡ Some k → (y j : ℕ) → found new y j ≡ found old y j
