-- What the lists of leaves and of nodes say: slots count from 1, places from 0.
-- Source: this project's.
use Rattle.std.specs.Prelude.{ℕ, zero, suc, List, length, slice_index_or, Option, None}
use Rattle.std.specs.Option.{option_map, option_map_or}
use Rattle.kept_front.specs.declared.leaves.Leaf.{Leaf}
use Rattle.kept_front.specs.declared.leaves.Leaves.{Leaves}

abbrev pub room : Leaves → ℕ
room leaves = length leaves.by_slot.items

abbrev pub leaf_in : List (Option Leaf) → ℕ → Option Leaf
leaf_in items zero = None
leaf_in items (suc k) = slice_index_or items k None

-- what a slot holds
abbrev pub leaf_at : Leaves → ℕ → Option Leaf
leaf_at leaves = leaf_in leaves.by_slot.items

-- how many that come right before it aren't whole
abbrev pub blocked_in : Option Leaf → ℕ
blocked_in leaf = option_map_or (λ (l : Leaf). l.blocked) leaf 0

abbrev pub blocked_at : Leaves → ℕ → ℕ
blocked_at leaves x = blocked_in (leaf_at leaves x)

-- where a leaf stands: its parent among the growths, and its number among the children
abbrev pub Place : Type 0
Place = Option ℕ × ℕ

abbrev pub place_of : Leaf → Place
place_of leaf = (leaf.parent, leaf.child)

abbrev pub place_at : Leaves → ℕ → Option Place
place_at leaves x = option_map place_of (leaf_at leaves x)
