-- Which words a name table gets from a text: those of its tokens, at most one for each.
use Rattle.std.specs.Prelude.{ℕ, ◌+◌, ◌≤◌, List, [], ◌∷◌, drop, length, All, Contains}
use Rattle.htn_base.specs.Different.{AreDifferent}
use Rattle.text_forms.specs.Tokens.{Lexeme, opens, closes, spells, lexemes, token_count}
use Rattle.text_forms.specs.Words.{Word}
use Rattle.gd_reader.specs.declared.words.Sort.{Sort}
use Rattle.gd_reader.specs.declared.words.Sort.TheVariants.{Variable, Name, Other}
use Rattle.gd_reader.specs.Terms.{Names}
use Rattle.gd_reader.specs.Words.{sort_of}

abbrev pub bare_by : Sort → Word → Word
bare_by Variable w = drop 1 w
bare_by Name w = w
bare_by Other w = w

-- a word, and a variable without its question mark
unfoldable pub bare : Word → Word
bare w = bare_by (sort_of w) w

-- the words among these tokens, in order, each without its question mark
abbrev pub bare_words : List Lexeme → List Word
bare_words [] = []
bare_words (opens at ∷ ts) = bare_words ts
bare_words (closes at ∷ ts) = bare_words ts
bare_words (spells at letters ∷ ts) = bare letters ∷ bare_words ts

unfoldable pub words_in : List ℕ → List Word
words_in text = bare_words (lexemes text)

unfoldable pub Has : List Word → Word → Type 0
Has all w = Contains all w

unfoldable pub HasAll : List Word → List Word → Type 0
HasAll all ws = All (Contains all) ws

-- each new word is an old one or this one: what has this one and all old ones has all new ones
abbrev pub AddsWord : Word → Names → Names → Type 0
AddsWord w old new = (all : List Word) → Has all w → HasAll all old → HasAll all new

-- each new word is an old one or one of the text
abbrev pub AddsOf : List ℕ → Names → Names → Type 0
AddsOf text old new = (all : List Word) → HasAll all (words_in text) → HasAll all old → HasAll all new

-- each new word is an old one, this one or one of the text
abbrev pub AddsWordOf : Word → List ℕ → Names → Names → Type 0
AddsWordOf w text old new = (all : List Word) → Has all w → HasAll all (words_in text) → HasAll all old → HasAll all new

-- a word stands in the text
abbrev pub Says : List ℕ → Word → Type 0
Says text w = (all : List Word) → HasAll all (words_in text) → Has all (bare w)

-- a table without repeats gets at most one word for each token of the text
abbrev pub AtMostOneForEachToken : Type 0
AtMostOneForEachToken = (text : List ℕ) (old new : Names) → AreDifferent new → AddsOf text old new → length new ≤ length old + token_count text
