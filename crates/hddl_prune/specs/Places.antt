-- The places at which a list has marks.
-- Source: this project's.
use Rattle.std.specs.Prelude.{ℕ, suc, ◌⊎◌, ◌↔◌, Bool, if◌then◌else◌, List, [], ◌∷◌, Contains}

-- counted from a number
abbrev pub places_from : ℕ → List Bool → List ℕ
places_from k [] = []
places_from k (b ∷ bs) = if b then k ∷ places_from (suc k) bs else places_from (suc k) bs

-- the numbers of the new list are those of the old one and those that are so
abbrev pub HasAlso : List ℕ → (ℕ → Type 0) → List ℕ → Type 0
HasAlso old IsMore new = (k : ℕ) → Contains new k ↔ (Contains old k ⊎ IsMore k)
