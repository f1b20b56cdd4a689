-- The last of some children that is in one set and not in another.
use Rattle.std.specs.Prelude.{ℕ, ◌<◌, ◌≤◌, ◌+◌, IsTrue, Bool, List, length, slice_index, Option, MatchOption}
use Rattle.plan_model.specs.net_order.Marks.{has}

-- from this place on, each child that is in the set is in the other one
abbrev pub AreWithinFrom : ℕ → List ℕ → List Bool → List Bool → Type 0
AreWithinFrom n children set other = (r : ℕ) → n ≤ r → r < length children → IsTrue (has set (slice_index children r)) → IsTrue (has other (slice_index children r))

-- the last place whose child is in the set and not in the other one
pub record IsLastOutside (set other : List Bool) (children : List ℕ) (p : ℕ) : Type 0 where
  pub place : p < length children
  pub inside : IsTrue (has set (slice_index children p))
  pub outside : IsTrue (has other (slice_index children p)) → ⊥
  pub later : AreWithinFrom (p + 1) children set other

-- that place; none where there is none
abbrev pub IsLastOutsideOrNone : List Bool → List Bool → List ℕ → Option ℕ → Type 0
IsLastOutsideOrNone set other children last = MatchOption last (AreWithinFrom 0 children set other) (IsLastOutside set other children)
