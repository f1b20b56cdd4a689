-- The only values of which something is true.
-- Source: this project's.
use Rattle.std.specs.Prelude.{ℕ, ◌≡◌, List, map, Option, Some, MatchOption}
use Rattle.value_choices.specs.declared.only.Only.{Only}
use Rattle.value_choices.specs.declared.only.Only.TheVariants.{Values, Never, Open}

-- it is true of these, and of no others
pub record IsOnly (P : List ℕ → Type 0) (values : List ℕ) : Type 0 where
  pub is : P values
  pub no_others : (others : List ℕ) → P others → others ≡ values

-- the only ones, or there are none, or it isn't told
abbrev pub AreTheOnly : (List ℕ → Type 0) → Only → Type 0
AreTheOnly P (Values values) = IsOnly P values
AreTheOnly P Never = (values : List ℕ) → P values → ⊥
AreTheOnly P Open = Unit {0}

-- all of them are known, and these are they
abbrev pub AreAllKnown : List (Option ℕ) → Option (List ℕ) → Type 0
AreAllKnown known found = MatchOption found (Unit {0}) (λ values. known ≡ map (λ x. Some x) values)
