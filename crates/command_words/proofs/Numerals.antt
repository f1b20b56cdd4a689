-- What std reads as a number of 128 bits, of decimal digits alone.
use Rattle.std.proofs.Common.{rules, ℕ, ◌≡◌, ◌<◌, ◌≤◌, ◌^◌, IsTrue, List, length, Result, Ok, Err, arith}
use Rattle.std.specs.List.{list_all}
use Rattle.std.specs.Char.{is_ascii_digit}
use Rattle.std.specs.Str.Parse.{digits_value, ParsesUnsigned}
use Rattle.std.proofs.lemmas.Str.Parse.{IsDigitsTest, IsNumeralModel, numerals_by_value, digits_value_short, parse_digits, parse_gives}
use Rattle.command_words.specs.Bounds.{IsCount}

abbrev AreDigits : List ℕ → Type 0
AreDigits ds = IsTrue (list_all is_ascii_digit ds)

tells : IsDigitsTest AreDigits
tells = search rules

own : IsNumeralModel AreDigits (digits_value 10)
own = numerals_by_value AreDigits tells

-- digits that std refuses are a number past 128 bits
pub past_all : (word : List ℕ) → ParsesUnsigned {E = ℕ} 128 10 word (Err 0) → IsTrue (list_all is_ascii_digit word) → 1 ≤ length word → 2 ^ 128 ≤ digits_value 10 word
past_all word parses digits some =
    let none = parse_digits own {E = ℕ} 128 word (Err 0) parses digits in
    let refused : digits_value 10 word < 2 ^ 128 → ⊥ = λ h. none (omega arith, h) in
    omega (arith, refused)

-- a count is a number of 32 bits
count_small : (word : List ℕ) → IsCount word → digits_value 10 word < 2 ^ 32
count_small word is = let small = digits_value_short own word 9 is.digits is.few in omega (arith, small)

-- and std reads it
pub count_is_read : {E : Type 0} (word : List ℕ) (r : Result ℕ E) (e : E) → ParsesUnsigned {E = E} 32 10 word r → IsCount word → r ≡ Err e → ⊥
count_is_read {E} word r e parses is fails =
    let given : r ≡ Ok (digits_value 10 word) = parse_gives own {E = E} 32 word r parses is.digits is.some (count_small word is) in
    cc
