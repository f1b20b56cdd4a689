-- The gaps in which atoms flip: an atom is false before the first gap in which it flips.
-- Source: this project's.
use Rattle.std.specs.Prelude.{ℕ, ◌≡◌, ◌≢◌, ◌<◌, ◌≤◌, ◌%◌, ◌^◌, Bool, nat_eq, nat_le, count_by, All, List, [], Option, Some, None, Vec}
use Rattle.std.specs.List.Sorted.{IsNonDecreasing}
use Rattle.std.specs.BTreeMap as tree
use Rattle.std.specs.Cmp.Lexicographic.{slice_cmp}
use Rattle.std.specs.Ordering.{nat_cmp}
use Rattle.std.specs.declared.alloc.Global.{Global}
use Rattle.plan_model.specs.Numbers.{number}
use Rattle.state_history.specs.declared.gaps.Gaps.{Gaps}

-- how often an atom that flips in these gaps has flipped up to the gap
abbrev pub flips_until : ℕ → List ℕ → ℕ
flips_until gap flips = count_by (λ flip. nat_le flip gap) flips

-- whether it is true in the gap: it has flipped an odd number of times
abbrev pub is_true_in : ℕ → List ℕ → Bool
is_true_in gap flips = nat_eq (flips_until gap flips % 2) 1

-- the gaps stand in order, and none is past the last one
pub record AreWithin (last : ℕ) (flips : List ℕ) : Type 0 where
  pub ordered : IsNonDecreasing flips
  pub within : All (λ flip. flip ≤ last) flips

-- from the gap on, the last one, it is so, and before that it is as it was
pub record IsTurned (gap : ℕ) (truth : Bool) (old new : List ℕ) : Type 0 where
  pub sound : AreWithin gap new
  pub here : is_true_in gap new ≡ truth
  pub before : (j : ℕ) → j < gap → is_true_in j new ≡ is_true_in j old

-- the number of a key, where it is less than 2^64
abbrev pub number_of : ℕ → List ℕ → Option ℕ
number_of most key = number most (2 ^ 64) key

-- the gaps that are kept, or none
abbrev pub items_of : Option (Vec ℕ Global) → List ℕ
items_of (Some gaps) = gaps.items
items_of None = []

-- the gaps that are kept at the number, or for a key that has none
abbrev pub flips_by : Gaps → List ℕ → Option ℕ → List ℕ
flips_by gaps key (Some n) = items_of (tree.get nat_cmp gaps.near n)
flips_by gaps key None = items_of (tree.get_by (λ kept. slice_cmp nat_cmp key kept.items) gaps.far)

-- the gaps that are kept for the key
abbrev pub flips_at : Gaps → List ℕ → List ℕ
flips_at gaps key = flips_by gaps key (number_of gaps.most key)

-- those of each key stand in order, and none is past the last one
abbrev pub AreAllWithin : ℕ → Gaps → Type 0
AreAllWithin last gaps = (key : List ℕ) → AreWithin last (flips_at gaps key)

-- those of each key are as they were
abbrev pub AreSame : Gaps → Gaps → Type 0
AreSame old new = (key : List ℕ) → flips_at new key ≡ flips_at old key

-- those of one key are turned, and those of others are as they were
pub record AreTurned (gap : ℕ) (truth : Bool) (old : Gaps) (key : List ℕ) (new : Gaps) : Type 0 where
  pub here : IsTurned gap truth (flips_at old key) (flips_at new key)
  pub others : (other : List ℕ) → other ≢ key → flips_at new other ≡ flips_at old other
