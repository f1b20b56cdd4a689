-- Numbers of slots, as words of the command line say them.
use Rattle.std.specs.Prelude.{ℕ, ◌≡◌, ◌<◌, ◌≤◌, ◌^◌, IsTrue, List, length}
use Rattle.std.specs.List.{list_all}
use Rattle.std.specs.Char.{is_ascii_digit}
use Rattle.std.specs.Str.Parse.{digits_value}
use Rattle.htn_base.specs.Limits.{most_slots}
use Rattle.command_words.specs.declared.bounds.Bound.{Bound}
use Rattle.command_words.specs.declared.bounds.Bound.TheVariants.{Slots, TooMany, PastAll}

-- a word that says a number of slots: 1 to 39 decimal digits, leading zeros among them, and not the number zero
pub record IsNumeral (word : List ℕ) : Type 0 where
  pub digits : IsTrue (list_all is_ascii_digit word)
  pub some : 1 ≤ length word
  pub few : length word ≤ 39
  pub above_zero : 1 ≤ digits_value 10 word

-- a word that says how many: 1 to 9 decimal digits, leading zeros among them, and not the number zero
pub record IsCount (word : List ℕ) : Type 0 where
  pub digits : IsTrue (list_all is_ascii_digit word)
  pub some : 1 ≤ length word
  pub few : length word ≤ 9
  pub above_zero : 1 ≤ digits_value 10 word

-- what a number of slots comes to
abbrev pub ComesTo : ℕ → Bound → Type 0
ComesTo n (Slots slots) = (slots ≡ n) × (1 ≤ n) × (n ≤ most_slots)
ComesTo n (TooMany number) = (number ≡ n) × (most_slots < n) × (n < 2 ^ 128)
ComesTo n PastAll = 2 ^ 128 ≤ n
