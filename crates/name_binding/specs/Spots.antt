-- Faults at their places, and the least of them.
-- Source: this project's; offsets are in bytes from 0.
use Rattle.std.specs.Prelude.{ℕ, ◌≡◌, ◌<◌, ◌==◌, ◌&&◌, ◌||◌, nat_lt, Bool, false, cond, List, [], ◌∷◌, Option, Some, None, All, Any, AllPairs}
use Rattle.name_binding.specs.declared.faults.Spot.{Spot}

abbrev pub spot : ℕ → ℕ → Spot
spot at code = record { at = at; code = code }

-- by offset, then code
abbrev pub is_in_front : Spot → Spot → Bool
is_in_front s t = nat_lt s.at t.at || ((s.at == t.at) && nat_lt s.code t.code)

-- the one in front; of two at one place with one code the earlier is kept
abbrev pub sooner : Option Spot → Spot → Option Spot
sooner None s = Some s
sooner (Some t) s = cond (is_in_front s t) (Some s) (Some t)

-- the least of these and of one that was noted before
abbrev pub noted : Option Spot → List Spot → Option Spot
noted least [] = least
noted least (s ∷ ss) = noted (sooner least s) ss

-- each of these spots is a fault, and no fault stands in front of all of them
pub record AreLeastOf (IsFault : Spot → Type 0) (spots : List Spot) : Type 0 where
  pub sound : All IsFault spots
  pub least : (s : Spot) → IsFault s → Any (λ t. is_in_front s t ≡ false) spots

-- offsets rise, as those of words do in the order of the text
abbrev pub IsInTextOrder : List ℕ → Type 0
IsInTextOrder offsets = AllPairs (λ x y. x < y) offsets
