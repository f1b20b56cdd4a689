-- What is known of values that are asked for: the known ones are those that all such values have.
-- Source: this project's.
use Rattle.std.specs.Prelude.{ℕ, ◌≡◌, ◌↔◌, Bool, MatchBool, List, length, Option}
use Rattle.value_choices.specs.Choices.{Agree}

-- of the values that agree with the old ones, those of which P is true are those that agree with the new ones, or P is true of none
abbrev pub Settles : (List ℕ → Type 0) → List (Option ℕ) → List (Option ℕ) → Bool → Type 0
Settles P old new found = MatchBool found
    ((values : List ℕ) → length values ≡ length old → (Agree old values × P values) ↔ Agree new values)
    ((values : List ℕ) → length values ≡ length old → Agree old values → P values → ⊥)
