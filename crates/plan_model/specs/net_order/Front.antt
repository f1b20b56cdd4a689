-- Children that are to be listed: some are ready, each other one waits for a predecessor that isn't listed.
use Rattle.std.specs.Prelude.{ℕ, ◌≡◌, ◌<◌, ◌⊎◌, IsTrue, Bool, true, List, [], ◌∷◌, ◌++◌, length, Contains, slice_set}
use Rattle.std.specs.List.{slice_index_or}
use Rattle.plan_model.specs.net_order.Marks.{has, Marked, IsPreceded, IsWithinBelow, IsLeastOutside}

-- the child waits for a predecessor that isn't listed
abbrev pub Waits : List (List Bool) → List Bool → List (List ℕ) → ℕ → Type 0
Waits before listed waiting i = (j : ℕ) × Contains (slice_index_or waiting j []) i × Marked before j i × (IsTrue (has listed j) → ⊥)

-- the children that are left have still to be placed; each other one is ready or waits
pub record IsFront (before : List (List Bool)) (Left : ℕ → Type 0) (listed ready : List Bool) (waiting : List (List ℕ)) : Type 0 where
  pub listed_room : length listed ≡ length before
  pub ready_room : length ready ≡ length before
  pub waiting_room : length waiting ≡ length before
  pub preceded : (i : ℕ) → IsTrue (has ready i) → IsPreceded before listed i
  pub children : (j i : ℕ) → Contains (slice_index_or waiting j []) i → i < length before
  -- those who wait for a child have no unlisted predecessor below it
  pub low : (j i : ℕ) → Contains (slice_index_or waiting j []) i → IsWithinBelow j (slice_index_or before i []) listed
  pub each : (i : ℕ) → i < length before → Left i ⊎ (IsTrue (has ready i) ⊎ Waits before listed waiting i)

-- the child became ready, or waits for its least predecessor that isn't listed
pub data IsPlaced (before : List (List Bool)) (listed : List Bool) (i : ℕ) (ready : List Bool) (waiting : List (List ℕ)) (ready' : List Bool) (waiting' : List (List ℕ)) : Type 0 where
  is_ready : IsPreceded before listed i → ready' ≡ slice_set ready i true → waiting' ≡ waiting → IsPlaced before listed i ready waiting ready' waiting'
  waits : (j : ℕ) → IsLeastOutside (slice_index_or before i []) listed j → ready' ≡ ready → waiting' ≡ slice_set waiting j (slice_index_or waiting j [] ++ i ∷ []) → IsPlaced before listed i ready waiting ready' waiting'
