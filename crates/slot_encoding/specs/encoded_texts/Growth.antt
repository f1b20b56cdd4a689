-- Four lengths of a text of the printed problem: with one slot, with two, with ten, and with any number of slots. It grows by a step for each
-- slot past the first, and by so many bytes more for each digit past the first of each slot's number.
-- Source: this project's.
use Rattle.std.specs.Prelude.{ℕ, ◌≡◌, ◌+◌, ◌-◌, ◌*◌}

-- how many of the numbers of so many slots are no less than a power of ten
abbrev pub numbers_from : ℕ → ℕ → ℕ
numbers_from slots power = slots + 1 - power

-- the digits past the first of the numbers of so many slots, of which there are fewer than 10^10
abbrev pub further_digits : ℕ → ℕ
further_digits slots =
    (numbers_from slots 10 + numbers_from slots 100 + numbers_from slots 1000)
    + (numbers_from slots 10000 + numbers_from slots 100000 + numbers_from slots 1000000)
    + (numbers_from slots 10000000 + numbers_from slots 100000000 + numbers_from slots 1000000000)

pub record AreOnLine (slots one two ten all : ℕ) : Type 0 where
  pub first : ℕ
  pub step : ℕ
  pub more : ℕ
  pub one_is : one ≡ first
  pub two_is : two ≡ first + step
  pub ten_is : ten ≡ first + 9 * step + more
  pub all_is : all ≡ first + (slots - 1) * step + further_digits slots * more
