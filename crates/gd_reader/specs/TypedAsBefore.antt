-- The words of a typed list that have the types of the word before them, as all but the first of those that have a type in common do.
-- Source: this project's.
use Rattle.std.specs.Prelude.{ℕ, ◌≡◌, Bool, true, false, List, [], ◌∷◌, length, map, get_or}
use Rattle.gd_reader.specs.declared.term.RawTerm.{RawTerm}
use Rattle.gd_reader.specs.declared.typed_lists.RawParam.{RawParam}

abbrev pub types_of : List RawParam → List (List RawTerm)
types_of words = map (λ (word : RawParam). word.ty) words

-- the types of the word before place i; none are before the first
abbrev pub types_before : List RawParam → ℕ → List RawTerm
types_before words i = get_or ([] ∷ types_of words) i []

abbrev pub IsTypedAsBefore : List RawParam → ℕ → Type 0
IsTypedAsBefore words i = get_or (types_of words) i [] ≡ types_before words i

-- a mark for each word, and those that are set are true
pub record AreMarked (words : List RawParam) (marks : List Bool) : Type 0 where
  pub for_each : length marks ≡ length words
  pub true_of : (i : ℕ) → get_or marks i false ≡ true → IsTypedAsBefore words i
