-- What an order answers.
use Rattle.std.specs.Prelude.{ℕ, ◌-◌, Bool, not, List, length, Option, slice_get}
use Rattle.plan_model.specs.net_order.Marks.{has, marked}

pub record Answers : Type 0 where
  pub count : ℕ
  -- for each child those that precede it
  pub before : List (List Bool)
  pub line : List ℕ
  pub last : Option ℕ
  -- those with which a pair begins
  pub begins : List Bool
  -- the places at which the line is cut
  pub cuts : List Bool

abbrev pub precedes : Answers → ℕ → ℕ → Bool
precedes order i j = marked order.before i j

-- the last of the line
abbrev pub heir : Answers → Option ℕ
heir order = slice_get order.line (length order.line - 1)

abbrev pub maximal : Answers → ℕ → Bool
maximal order i = not (has order.begins i)

abbrev pub cut : Answers → ℕ → Bool
cut order k = has order.cuts k
