-- Digits that are read one after another.
use Rattle.std.proofs.Common.{ℕ, suc, ◌≡◌, ◌∙◌, ◌+◌, ◌-◌, ◌*◌, ◌<◌, ◌≤◌, Bool, true, false, refl, List, [], ◌∷◌, drop, length, get_or, ap, arith}
use Rattle.std.proofs.Math.Seq.{drop-cons}
use Rattle.std.proofs.lemmas.Bool.Decides.{nat_tests}
use Rattle.std.proofs.lemmas.List.Folds.{list_all_at}
use Rattle.std.specs.Char.{digit_value, is_ascii_digit}
use Rattle.std.specs.List.{list_all}
use Rattle.std.specs.Str.Parse.{digits_value_after}

at-least : (n : ℕ) (ds : List ℕ) → n ≤ digits_value_after 10 n ds
at-least n [] = omega arith
at-least n (d ∷ ds) =
    let m : ℕ = n * 10 + digit_value d in
    let h : m ≤ digits_value_after 10 m ds = at-least m ds in
    let l : n ≤ m = omega arith in
    omega (arith, h, l)

more : (a v most : ℕ) → most ≤ a → most ≤ a + v
more a v most h = omega arith

-- where ten times the number, or a digit more, is too much, so is the whole number
pub past : (n i most : ℕ) (ds : List ℕ) (value : ℕ) → i < length ds → value ≡ digits_value_after 10 n (drop i ds) → most ≤ n * 10 + digit_value (get_or ds i 0) → most ≤ value
past n i most ds value l e h =
    let f = e ∙ ap (digits_value_after 10 n) (drop-cons ds i 0 l) in
    let g = at-least (n * 10 + digit_value (get_or ds i 0)) (drop (suc i) ds) in
    through (n * 10 + digit_value (get_or ds i 0)) (digits_value_after 10 (n * 10 + digit_value (get_or ds i 0)) (drop (suc i) ds)) h g f
  where
    through : (a b : ℕ) → most ≤ a → a ≤ b → value ≡ b → most ≤ value
    through a b h g f = omega (arith, h, g, f)

pub past-tens : (n i most : ℕ) (ds : List ℕ) (value : ℕ) → i < length ds → value ≡ digits_value_after 10 n (drop i ds) → most ≤ n * 10 → most ≤ value
past-tens n i most ds value l e h = past n i most ds value l e (more (n * 10) (digit_value (get_or ds i 0)) most h)

digit : (d : ℕ) → is_ascii_digit d ≡ true → digit_value d ≡ d - 48
digit d e = grind (arith, nat_tests)

pub digit-at : (ds : List ℕ) (i : ℕ) → i < length ds → list_all is_ascii_digit ds ≡ true → digit_value (get_or ds i 0) ≡ get_or ds i 0 - 48
digit-at ds i l h = digit (get_or ds i 0) (yes (is_ascii_digit (get_or ds i 0)) refl)
  where
    yes : (b : Bool) → is_ascii_digit (get_or ds i 0) ≡ b → b ≡ true
    yes true e = refl
    yes false e = let f = list_all_at is_ascii_digit ds i 0 l e in absurd cc
