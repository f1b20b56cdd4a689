-- The words of a section of types, and the types in the order in which the text first names them.
-- Source: this project's; a type may have several parents, and may be named only as a parent.
use Rattle.std.specs.Prelude.{ℕ, ◌≡◌, false, List, [], ◌∷◌, ◌++◌, map}
use Rattle.std.specs.List.Sorted.{IsPermutation, IsNonDecreasingBy}
use Rattle.gd_reader.specs.declared.term.RawTerm.{RawTerm}
use Rattle.gd_reader.specs.declared.typed_lists.RawParam.{RawParam}
use Rattle.name_binding.specs.Seen.{first_seen}

abbrev pub own_word : RawParam → RawTerm
own_word x = record { name = x.name; variable = false; at = x.at }

-- each word of a section of types: types and their parents
abbrev pub mentioned : List RawParam → List RawTerm
mentioned [] = []
mentioned (x ∷ xs) = own_word x ∷ (x.ty ++ mentioned xs)

abbrev pub numbers_of : List RawTerm → List ℕ
numbers_of words = map (λ w. w.name.number) words

-- the words of the section as they follow one another in the text
pub record AreInTextOrder (xs : List RawParam) (words : List RawTerm) : Type 0 where
  pub same : IsPermutation (mentioned xs) words
  pub rise : IsNonDecreasingBy (λ w. w.at) words

-- object, and the others as the text first names them
abbrev pub types_in_order : ℕ → List RawTerm → List ℕ
types_in_order object words = object ∷ first_seen (object ∷ []) (numbers_of words)

-- the types of a section
abbrev pub AreTypesOf : ℕ → List RawParam → List ℕ → Type 0
AreTypesOf object xs types = (words : List RawTerm) × AreInTextOrder xs words × (types ≡ types_in_order object words)
