-- The least of some numbers.
-- Source: this project's.
use Rattle.std.specs.Prelude.{ℕ, ◌≤◌, ◌↔◌, List, get_or}

-- the least of a number and of those at the places that are P
abbrev pub IsLeast : List ℕ → ℕ → (ℕ → Type 0) → ℕ → Type 0
IsLeast numbers most P least = (k : ℕ) → (k ≤ least) ↔ ((k ≤ most) × ((x : ℕ) → P x → k ≤ get_or numbers x 0))
