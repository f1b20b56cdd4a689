-- Sets of children as lists of marks: the mark at place i says whether child i is in the set.
use Rattle.std.specs.Prelude.{ℕ, ◌<◌, ◌≡◌, ◌≢◌, ◌≤◌, Bool, false, IsTrue, List, [], length, slice_index, Contains, Option, MatchOption, ◌⊎◌, ◌↔◌}
use Rattle.std.specs.List.{slice_index_or}

abbrev pub has : List Bool → ℕ → Bool
has set i = slice_index_or set i false

-- a set for each child, of those that precede it: whether i is in the set of j
abbrev pub marked : List (List Bool) → ℕ → ℕ → Bool
marked before i j = has (slice_index_or before j []) i

abbrev pub Marked : List (List Bool) → ℕ → ℕ → Type 0
Marked before i j = IsTrue (marked before i j)

-- as many sets as children, each with a mark for each child
pub record IsSquare (count : ℕ) (before : List (List Bool)) : Type 0 where
  pub sets : length before ≡ count
  pub marks : (j : ℕ) → j < count → length (slice_index_or before j []) ≡ count

-- nothing is marked in the sets of so many children
abbrev pub AreEmpty : ℕ → List (List Bool) → Type 0
AreEmpty count before = (i j : ℕ) → j < count → marked before i j ≡ false

-- the marked predecessors of the child are all in the set
abbrev pub IsPreceded : List (List Bool) → List Bool → ℕ → Type 0
IsPreceded before set i = (j : ℕ) → Marked before j i → IsTrue (has set j)

-- all other children are marked as those that precede it
abbrev pub IsMarkedLast : List (List Bool) → ℕ → Type 0
IsMarkedLast before i = (i < length before) × ((j : ℕ) → j < length before → j ≢ i → Marked before j i)

-- the last child by the marks; none where there is none
abbrev pub IsMarkedLastOrNone : List (List Bool) → Option ℕ → Type 0
IsMarkedLastOrNone before last = MatchOption last ((i : ℕ) → IsMarkedLast before i → ⊥) (IsMarkedLast before)

-- each of the first k of the line is marked as one that precedes each of the rest
abbrev pub IsMarkedCut : List (List Bool) → List ℕ → ℕ → Type 0
IsMarkedCut before line k = (p q : ℕ) → p < k → k ≤ q → q < length line → Marked before (slice_index line p) (slice_index line q)

-- the set has the places at which the line is cut
abbrev pub AreMarkedCuts : List (List Bool) → List ℕ → List Bool → Type 0
AreMarkedCuts before line set = (k : ℕ) → k < length line → IsTrue (has set k) ↔ IsMarkedCut before line k

-- what precedes a member of one of these children's sets is in that set too
abbrev pub IsClosedOn : List (List Bool) → List ℕ → Type 0
IsClosedOn before children = (a i k : ℕ) → Contains children k → Marked before i k → Marked before a i → Marked before a k

-- those of the earlier ones that are in the set of this child, and what precedes them
abbrev pub IsGathered : List (List Bool) → List ℕ → ℕ → List Bool → Type 0
IsGathered before earlier child set = (a : ℕ) → IsTrue (has set a) ↔ ((i : ℕ) × Contains earlier i × Marked before i child × ((a ≡ i) ⊎ Marked before a i))

-- each child of the set is in the other one
abbrev pub IsWithin : List Bool → List Bool → Type 0
IsWithin set other = (i : ℕ) → IsTrue (has set i) → IsTrue (has other i)

-- each child of the set below this number is in the other one
abbrev pub IsWithinBelow : ℕ → List Bool → List Bool → Type 0
IsWithinBelow low set other = (i : ℕ) → i < low → IsTrue (has set i) → IsTrue (has other i)

-- the least child of the set that isn't in the other one
pub record IsLeastOutside (set other : List Bool) (i : ℕ) : Type 0 where
  pub child : i < length set
  pub inside : IsTrue (has set i)
  pub outside : IsTrue (has other i) → ⊥
  pub least : IsWithinBelow i set other

-- that child; none where there is none
abbrev pub IsLeastOutsideOrNone : List Bool → List Bool → Option ℕ → Type 0
IsLeastOutsideOrNone set other least = MatchOption least (IsWithin set other) (IsLeastOutside set other)
