-- Numbers in as few bytes as they take, and rows of such numbers in three lists.
-- Source: this project's.
use Rattle.std.specs.Prelude.{ℕ, ◌≡◌, ◌≤◌, List, [], ◌∷◌, length, slice_range, Option, Some, None}
use Rattle.std.specs.declared.alloc.Global.{Global}
use Rattle.std.specs.declared.boxed.Box.{Box}
use Rattle.htn_base.specs.declared.packed.Numbers.{Numbers}
use Rattle.htn_base.specs.declared.packed.Numbers.TheVariants.{Bytes, Halves, Words}

-- the numbers, however many bytes each takes
abbrev pub numbers_of : Numbers → List ℕ
numbers_of (Bytes numbers) = numbers.items
numbers_of (Halves numbers) = numbers.items
numbers_of (Words numbers) = numbers.items

-- A head and further numbers.
pub record Row : Type 0 where
  pub head : ℕ
  pub rest : List ℕ

abbrev pub row_of : ℕ → List ℕ → Row
row_of head rest = record { head = head; rest = rest }

-- the parts of a list that end at these places: the first goes from the start to the first end, each further one from the end before
abbrev pub parts_from : ℕ → List ℕ → List ℕ → List (List ℕ)
parts_from start [] items = []
parts_from start (end ∷ ends) items = slice_range items start end ∷ parts_from end ends items

-- the rows of these heads, each with its further numbers
abbrev pub rows_of : List ℕ → List (List ℕ) → List Row
rows_of [] rests = []
rows_of (head ∷ heads) [] = []
rows_of (head ∷ heads) (rest ∷ rests) = row_of head rest ∷ rows_of heads rests

-- the ends ascend from the start, and the last of them is the length
abbrev pub EndsFrom : ℕ → List ℕ → ℕ → Type 0
EndsFrom start [] length = start ≡ length
EndsFrom start (end ∷ ends) length = (start ≤ end) × EndsFrom end ends length

-- the rows, where there are any
abbrev pub rows_or_none : Option (Box (List Row) Global) → List Row
rows_or_none None = []
rows_or_none (Some rows) = rows.value

-- What holds of the three lists of rows: an end for each head, and no number in no row.
pub record AreRows (heads ends numbers : List ℕ) : Type 0 where
  pub paired : length heads ≡ length ends
  pub rising : EndsFrom 0 ends (length numbers)
