-- Where tokens begin in a text, and how many lists are open there.
use Rattle.std.specs.Prelude.{◌≡◌, ℕ, zero, suc, ◌+◌, ◌*◌, ◌<◌, ◌≤◌, false, Option, Some, None, List, [], ◌∷◌, ◌++◌, drop, length, slice_get}
use Rattle.text_forms.specs.Bytes.{Class, blank, opening, closing, letter, bad, classes_from}
use Rattle.text_forms.specs.Faults.{open_after, code_at}
use Rattle.text_forms.specs.Least.{least, least_fault}
use Rattle.text_forms.specs.Tokens.{Kind, start, stop, word, Token, token, tokens_from, tokens}
use Rattle.text_forms.specs.declared.sexpr_text.marks.Marks.{Marks}
use Rattle.text_forms.specs.declared.sexpr_text.marks.Place.{Place}
use Rattle.text_forms.specs.declared.sexpr_text.tokens.Piece.{Piece}
use Rattle.text_forms.specs.sexpr_text.Seen.{piece_seen}

-- from a place on, in front of which no comment is open
abbrev pub classes_at : List ℕ → ℕ → List Class
classes_at text at = classes_from false (drop at text)

-- the tokens from a place on, where no word is under way
abbrev pub tokens_at : List ℕ → ℕ → List Token
tokens_at text at = tokens_from None at (classes_at text at)

-- the tokens from a piece on
abbrev pub tokens_by : List ℕ → Option Piece → List Token
tokens_by text None = []
tokens_by text (Some p) = piece_seen p ∷ tokens_at text p.span.end

-- a word that is under way at a place ends at another
abbrev pub EndsWord : List ℕ → ℕ → ℕ → Type 0
EndsWord text at end = (first : ℕ) → tokens_from (Some first) at (classes_at text at) ≡ token word first end ∷ tokens_at text end

-- the least fault of these bytes, which stand at a place, is that of the text from another place on, under the same open lists
abbrev pub HasFaultsFrom : List ℕ → List Class → ℕ → ℕ → Type 0
HasFaultsFrom text cs at end = (opens : List ℕ) → least opens at cs ≡ least opens end (classes_at text end)

-- which token begins with a byte of a class, and ends at a place
abbrev pub begun : Class → ℕ → ℕ → List Token
begun opening at end = token start at end ∷ []
begun closing at end = token stop at end ∷ []
begun letter at end = token word at end ∷ []
begun blank at end = []
begun bad at end = []

abbrev pub BeginsNoToken : Class → Type 0
BeginsNoToken opening = ⊥
BeginsNoToken closing = ⊥
BeginsNoToken letter = ⊥
BeginsNoToken blank = Unit {0}
BeginsNoToken bad = Unit {0}

-- A word, a parenthesis, a comment or one more byte stands between two places, and begins with a byte of the class.
pub record IsPassed (text : List ℕ) (at end : ℕ) (class : Class) : Type 0 where
  pub later : at < end
  pub within : end ≤ length text
  pub tokens : tokens_at text at ≡ begun class at end ++ tokens_at text end
  pub faults : (opens : List ℕ) → code_at opens class ≡ None → least opens at (classes_at text at) ≡ least (open_after opens at class) end (classes_at text end)

-- how many lists are open behind a token, where so many are in front of it
abbrev pub deeper : Kind → ℕ → ℕ
deeper start d = suc d
deeper stop zero = zero
deeper stop (suc d) = d
deeper word d = d

-- the same behind n tokens
abbrev pub depth_at : ℕ → ℕ → List Token → ℕ
depth_at zero d ts = d
depth_at (suc n) d [] = d
depth_at (suc n) d (t ∷ ts) = depth_at n (deeper t.kind d) ts

-- The tokens from number n on begin at the place, and so many lists are open there.
pub record IsPlace (text : List ℕ) (n : ℕ) (p : Place) : Type 0 where
  pub number : n ≤ length (tokens text)
  pub within : p.at ≤ length text
  pub here : drop n (tokens text) ≡ tokens_at text p.at
  pub depth : p.depth ≡ depth_at n 0 (tokens text)

-- At least so many lists are open in front of token n, and of each before it that stands less than eight tokens in front of a mark.
abbrev pub StayOpen : List ℕ → ℕ → ℕ → ℕ → Type 0
StayOpen text lists mark n = (i : ℕ) → i ≤ n → mark < i + 8 → lists ≤ depth_at i 0 (tokens text)

-- Every eighth token is marked by its place, and by how many lists at least are open behind each token since the mark before.
pub record AreMarks (text : List ℕ) (m : Marks) : Type 0 where
  pub places : (k : ℕ) (p : Place) → slice_get m.places.items k ≡ Some p → IsPlace text (k * 8) p
  pub least : (k lists : ℕ) → slice_get m.least.items k ≡ Some lists → StayOpen text lists (k * 8) (k * 8)
  pub low : StayOpen text m.low (length m.places.items * 8) m.count
  pub as_many : length m.least.items ≡ length m.places.items
  pub enough : m.count ≤ length m.places.items * 8
  pub few : length m.places.items * 8 < m.count + 8

-- From a place on, where so many lists are open, the least fault is that of the text.
pub record IsAsDeep (text : List ℕ) (depth at : ℕ) (cs : List Class) : Type 0 where
  pub open_lists : List ℕ
  pub deep : length open_lists ≡ depth
  pub same : least open_lists at cs ≡ least_fault text

-- a byte of the class is no fault where so many lists are open
abbrev pub IsGoodAt : ℕ → Class → Type 0
IsGoodAt depth class = (opens : List ℕ) → length opens ≡ depth → code_at opens class ≡ None

-- A text has been read up to a place, in front of which it has no fault and the tokens that are marked begin.
pub record IsReadTo (text : List ℕ) (m : Marks) (p : Place) : Type 0 where
  pub place : IsPlace text m.count p
  pub marks : AreMarks text m
  pub deep : IsAsDeep text p.depth p.at (classes_at text p.at)

-- Token i is marked, and the next mark has the place. At least so many lists are open behind each token from i up to there.
pub record IsFarther (i depth : ℕ) (m : Marks) (p : Place) : Type 0 where
  pub mark : ℕ
  pub here : i ≡ mark * 8
  pub next : slice_get m.places.items (mark + 1) ≡ Some p
  pub lists : ℕ
  pub least : slice_get m.least.items (mark + 1) ≡ Some lists
  pub deep : depth ≤ lists
