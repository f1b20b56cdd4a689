-- Sets of children as bits: child i is bit i % 64 of word i / 64.
use Rattle.std.specs.Prelude.{ℕ, ◌≡◌, ◌+◌, ◌/◌, ◌%◌, ◌≤◌, ◌==◌, Bool, false, List, length, map, slice_index}
use Rattle.std.specs.List.{range_with_len}
use Rattle.std.specs.Int.{bit_at}

abbrev pub is_set : List ℕ → ℕ → Bool
is_set words i = bit_at (slice_index words (i / 64)) (i % 64) == 1

-- the mark of each child
unfoldable pub marks_of : ℕ → List ℕ → List Bool
marks_of count words = map (is_set words) (range_with_len 0 count)

-- a bit for each child, and none past the last child
pub record AreWords (count : ℕ) (words : List ℕ) : Type 0 where
  pub room : length words ≡ count / 64 + 1
  pub none_past : (i : ℕ) → count ≤ i → is_set words i ≡ false
