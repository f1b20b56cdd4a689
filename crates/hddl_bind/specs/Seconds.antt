-- Names that are declared for the second time (10).
-- Source: this project's.
use Rattle.std.specs.Prelude.{ℕ, List, [], ◌∷◌, ◌++◌, Option, Some, None}
use Rattle.name_binding.specs.Places.{first_place}
use Rattle.name_binding.specs.Spots.{spot}
use Rattle.name_binding.specs.declared.faults.Spot.{Spot}

-- 10: the name stands in front already
abbrev pub if_known : Option ℕ → ℕ → List Spot
if_known None at = []
if_known (Some k) at = spot at 10 ∷ []

-- 10: each declaration whose name is one of these, or that of a declaration in front of it
abbrev pub seconds : {X : Type 0} → (X → ℕ) → (X → ℕ) → List ℕ → List X → List Spot
seconds number at before [] = []
seconds number at before (x ∷ xs) = if_known (first_place (number x) before) (at x) ++ seconds number at (before ++ number x ∷ []) xs
