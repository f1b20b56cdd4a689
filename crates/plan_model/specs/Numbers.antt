-- Numbers of lists of numbers: the items are the digits, the first one the last, and a 1 stands before them all.
-- Source: this project's.
use Rattle.std.specs.Prelude.{ℕ, ◌+◌, ◌*◌, nat_lt, ◌&&◌, cond, List, [], ◌∷◌, Option, Some, None}
use Rattle.std.specs.Option.{option_and_then}

-- the number with one digit behind it, where the digit is small enough and the number then is less than the room
abbrev pub with_digit : ℕ → ℕ → ℕ → ℕ → Option ℕ
with_digit most room x n = cond (nat_lt x (most + 1) && nat_lt (n * (most + 2) + x) room) (Some (n * (most + 2) + x)) None

abbrev pub number : ℕ → ℕ → List ℕ → Option ℕ
number most room [] = Some 1
number most room (x ∷ xs) = option_and_then (with_digit most room x) (number most room xs)
