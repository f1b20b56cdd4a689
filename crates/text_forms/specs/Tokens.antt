-- The tokens of a text: parentheses and words, with their places.
-- Source: appendix A (grammar) of Fox and Long, "PDDL2.1", JAIR 20, 2003, level 1, whose texts are nested lists of words.
use Rattle.std.specs.Prelude.{ℕ, ◌+◌, Option, Some, None, List, [], ◌∷◌, ◌++◌, map, length, slice_range}
use Rattle.htn_base.specs.Words.{folded}
use Rattle.text_forms.specs.Bytes.{Class, blank, opening, closing, letter, bad, classes}

pub data Kind : Type 0 where
  start : Kind
  stop : Kind
  word : Kind

-- the bytes from one place up to another, counted from 0
pub record Token : Type 0 where
  pub kind : Kind
  pub first : ℕ
  pub behind : ℕ

abbrev pub token : Kind → ℕ → ℕ → Token
token kind first behind = record { kind = kind; first = first; behind = behind }

-- the word that ends in front of a place, where one is under way since its first byte
abbrev pub ended : Option ℕ → ℕ → List Token
ended None at = []
ended (Some first) at = token word first at ∷ []

-- the tokens that end with the byte at a place
abbrev pub made : Option ℕ → ℕ → Class → List Token
made under_way at letter = []
made under_way at blank = ended under_way at
made under_way at bad = ended under_way at
made under_way at opening = ended under_way at ++ token start at (at + 1) ∷ []
made under_way at closing = ended under_way at ++ token stop at (at + 1) ∷ []

abbrev pub begun : Option ℕ → ℕ → Option ℕ
begun None at = Some at
begun (Some first) at = Some first

-- the word under way behind the byte at a place
abbrev pub under_way_after : Option ℕ → ℕ → Class → Option ℕ
under_way_after under_way at letter = begun under_way at
under_way_after under_way at blank = None
under_way_after under_way at bad = None
under_way_after under_way at opening = None
under_way_after under_way at closing = None

-- the tokens from a place on: a word is a longest run of letters
abbrev pub tokens_from : Option ℕ → ℕ → List Class → List Token
tokens_from under_way at [] = ended under_way at
tokens_from under_way at (c ∷ cs) = made under_way at c ++ tokens_from (under_way_after under_way at c) (at + 1) cs

abbrev pub tokens : List ℕ → List Token
tokens text = tokens_from None 0 (classes text)

abbrev pub token_count : List ℕ → ℕ
token_count text = length (tokens text)

-- a token with its place, and a word in lower case
pub data Lexeme : Type 0 where
  opens : (at : ℕ) → Lexeme
  closes : (at : ℕ) → Lexeme
  spells : (at : ℕ) (letters : List ℕ) → Lexeme

abbrev pub lexeme_by : Kind → ℕ → List ℕ → Lexeme
lexeme_by start at letters = opens at
lexeme_by stop at letters = closes at
lexeme_by word at letters = spells at letters

-- the bytes of a token, folded to lower case
abbrev pub letters_of : List ℕ → Token → List ℕ
letters_of text t = folded (slice_range text t.first t.behind)

abbrev pub lexeme : List ℕ → Token → Lexeme
lexeme text t = lexeme_by t.kind t.first (letters_of text t)

abbrev pub lexemes : List ℕ → List Lexeme
lexemes text = map (lexeme text) (tokens text)

-- a token without its place
pub data Symbol : Type 0 where
  left : Symbol
  right : Symbol
  said : List ℕ → Symbol

abbrev pub symbol : Lexeme → Symbol
symbol (opens at) = left
symbol (closes at) = right
symbol (spells at letters) = said letters

-- what a text says: its tokens without their places
abbrev pub symbols : List ℕ → List Symbol
symbols text = map symbol (lexemes text)
