-- The order of ground methods.
-- Source: this project's.
use Rattle.std.specs.Prelude.{ℕ, ◌≡◌, ◌<◌, ◌⊎◌, List, [], ◌∷◌}
use Rattle.plan_model.specs.plan_meaning.Network.{GroundMethod}

-- at the first place in which they differ, this list has the smaller number
abbrev pub AreBefore : List ℕ → List ℕ → Type 0
AreBefore [] ys = ⊥
AreBefore (x ∷ xs) [] = ⊥
AreBefore (x ∷ xs) (y ∷ ys) = (x < y) ⊎ ((x ≡ y) × AreBefore xs ys)

-- by the method's place, then its arguments by number
abbrev pub IsBefore : GroundMethod → GroundMethod → Type 0
IsBefore g h = (g.number < h.number) ⊎ ((g.number ≡ h.number) × AreBefore g.values h.values)
