-- The places of named things, by the numbers of their names.
-- Source: this project's.
use Rattle.std.specs.Prelude.{ℕ, ◌≡◌, ◌<◌, MatchOption, List, length, slice_get, Option, Some, None, slice_index_or}
use Rattle.htn_base.specs.declared.name.Name.{Name}

-- at place k stands a name of this number
abbrev pub HasNumber : List Name → ℕ → ℕ → Type 0
HasNumber names k n = (name : Name) × (slice_get names k ≡ Some name) × (name.number ≡ n)

-- and one with this word
abbrev pub HasWordAt : List (List ℕ) → List Name → List ℕ → ℕ → Type 0
HasWordAt table names word k = (name : Name) × (slice_get names k ≡ Some name) × (slice_get table name.number ≡ Some word)

-- for each number a place at which it stands, where there is one among the first so many
abbrev pub AreFirstPlaces : ℕ → List Name → List (Option ℕ) → Type 0
AreFirstPlaces many names places = (n : ℕ) → n < length places → MatchOption (slice_index_or places n None) ((k : ℕ) → k < many → HasNumber names k n → ⊥) (λ k. HasNumber names k n)

pub record ArePlaces (count : ℕ) (names : List Name) (places : List (Option ℕ)) : Type 0 where
  pub room : length places ≡ count
  pub each : AreFirstPlaces (length names) names places

-- what is found for a word: a place of what has it, or that nothing has it
abbrev pub IsThePlace : List (List ℕ) → List Name → List ℕ → Option ℕ → Type 0
IsThePlace table names word found = MatchOption found ((k : ℕ) → HasWordAt table names word k → ⊥) (HasWordAt table names word)

abbrev pub Finds : List (List ℕ) → List (Option ℕ) → List ℕ → Option ℕ → Type 0
Finds table places word found = (names : List Name) → ArePlaces (length table) names places → IsThePlace table names word found
