-- Numbers of lists of objects.
-- Source: this project's.
use Rattle.std.specs.Prelude.{ℕ, ◌≡◌, ◌+◌, ◌*◌, ◌<◌, ◌^◌, List, [], ◌∷◌, ◌++◌, Option, Some}
use Rattle.plan_model.specs.Numbers.{number}
use Rattle.plan_model.specs.declared.terms.Term.{Term}
use Rattle.plan_model.specs.plan_meaning.Truth.{values_of}
use Rattle.ground_state.specs.declared.numbers.Numbers.{Numbers}
use Rattle.ground_state.specs.declared.numbers.Row.{Row}

abbrev pub number_of : Numbers → List ℕ → Option ℕ
number_of numbers = number numbers.most numbers.room

-- with each of the first so many objects for one more variable, what the terms stand for has the number of the row at that object
pub record HasRow (numbers : Numbers) (objects : List ℕ) (terms : List Term) (count : ℕ) (row : Row) : Type 0 where
  pub at : (x : ℕ) → x < count → number_of numbers (values_of (objects ++ x ∷ []) terms) ≡ Some (row.first + row.step * x)
  pub small : row.first + row.step * count < 2 ^ 32
