-- Numbers of names as the words that they stand for in a name table.
-- Source: this project's; in a name table words and their numbers are one to one.
use Rattle.std.specs.Prelude.{ℕ, ◌≡◌, ◌<◌, List, map, length}
use Rattle.htn_base.specs.Different.{AreDifferent}
use Rattle.text_forms.specs.Words.{Word, word_at}
use Rattle.text_forms.specs.Words as words
use Rattle.gd_reader.specs.Terms.{Names}
use Rattle.htn_base.specs.Lists.{Each}
use Rattle.name_binding.specs.Places as numbers

module _ (names : Names) where
  abbrev pub words_of : List ℕ → List Word
  words_of ns = map (word_at names) ns

  -- each is the number of a word
  abbrev pub AreKnown : List ℕ → Type 0
  AreKnown ns = Each (λ n. n < length names) ns

-- the place of a number among others is that of its word among theirs, the first and the last
abbrev pub HaveOnePlace : Type 0
HaveOnePlace = (names : Names) (n : ℕ) (ns : List ℕ) → AreDifferent names → n < length names → AreKnown names ns
    → (words.first_place (word_at names n) (words_of names ns) ≡ numbers.first_place n ns)
    × (words.last_place (word_at names n) (words_of names ns) ≡ numbers.last_place n ns)
