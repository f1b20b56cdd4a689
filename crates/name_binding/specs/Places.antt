-- The first and the last place of a number in a list.
use Rattle.std.specs.Prelude.{ℕ, suc, ◌≡◌, ◌==◌, Bool, true, false, cond, List, [], ◌∷◌, Option, Some, None, option_map, slice_index_or}

abbrev pub first_place : ℕ → List ℕ → Option ℕ
first_place n [] = None
first_place n (x ∷ xs) = cond (n == x) (Some 0) (option_map suc (first_place n xs))

abbrev pub later : Option ℕ → Bool → Option ℕ
later (Some k) here = Some (suc k)
later None true = Some 0
later None false = None

abbrev pub last_place : ℕ → List ℕ → Option ℕ
last_place n [] = None
last_place n (x ∷ xs) = later (last_place n xs) (n == x)

-- the cell of a number; past the end there is none
abbrev pub cell : List (Option ℕ) → ℕ → Option ℕ
cell cells n = slice_index_or cells n None

-- the cell of each number has its first place in the list
abbrev pub AreFirst : List (Option ℕ) → List ℕ → Type 0
AreFirst cells numbers = (n : ℕ) → cell cells n ≡ first_place n numbers

-- the cell of each number has its last place in the list
abbrev pub AreLast : List (Option ℕ) → List ℕ → Type 0
AreLast cells numbers = (n : ℕ) → cell cells n ≡ last_place n numbers
