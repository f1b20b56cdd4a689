-- What the list of what is kept of growths says.
-- Source: this project's.
use Rattle.std.specs.Prelude.{ℕ, ◌≡◌, ◌+◌, ◌<◌, List, length, slice_get, slice_index}
use Rattle.std.specs.Option.{option_map_or}
use Rattle.kept_front.specs.declared.nodes.Node.{Node}
use Rattle.kept_front.specs.declared.nodes.Nodes.{Nodes}

abbrev pub count : Nodes → ℕ
count nodes = length nodes.by_growth.items

-- how many children of a growth aren't whole
abbrev pub unfinished_in : List Node → ℕ → ℕ
unfinished_in items k = option_map_or (λ (n : Node). n.unfinished) (slice_get items k) 0

abbrev pub unfinished_at : Nodes → ℕ → ℕ
unfinished_at nodes = unfinished_in nodes.by_growth.items

-- the slot of child j of growth k
abbrev pub slot_in : List Node → ℕ → ℕ → ℕ
slot_in items k j = option_map_or (λ (n : Node). slice_index n.slots.items j) (slice_get items k) 0

abbrev pub child_slot : Nodes → ℕ → ℕ → ℕ
child_slot nodes = slot_in nodes.by_growth.items

-- one more growth, whose children have these slots, and none of them is whole
pub record IsPushed (added : List ℕ) (old new : Nodes) : Type 0 where
  pub more : count new ≡ count old + 1
  pub last_slots : (j : ℕ) → child_slot new (count old) j ≡ slice_index added j
  pub last_unfinished : unfinished_at new (count old) ≡ length added
  pub slots : (k j : ℕ) → k < count old → child_slot new k j ≡ child_slot old k j
  pub unfinished : (k : ℕ) → k < count old → unfinished_at new k ≡ unfinished_at old k
