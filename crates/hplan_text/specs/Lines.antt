-- The lines of a text and their words, each with the place at which it stands, and the lines between the markers of a hierarchical plan.
-- Source: the format of plans of the hierarchical track of the International Planning Competition 2020 (Behnke, Höller and Bercher); what is blank, the carriage return and the second end marker are this project's.
use Rattle.std.specs.Prelude.{ℕ, ◌+◌, ◌==◌, ◌||◌, Bool, true, false, List, [], ◌∷◌, Option, Some, None, codes}
use Rattle.std.specs.Option.{option_map}
use Rattle.std.specs.List.{filter_map}
use Rattle.std.specs.Str.{bytes_eq}
use Rattle.std.specs.Str.Lines.{strip_carriage_return}

-- bytes at a place
pub record Piece : Type 0 where
  pub at : ℕ
  pub bytes : List ℕ

abbrev pub piece : ℕ → List ℕ → Piece
piece at bytes = record { at = at; bytes = bytes }

-- with one more byte in front, which parts the pieces or is the first byte of the first one
abbrev pub with_byte : Bool → ℕ → ℕ → List Piece → List Piece
with_byte true at b ps = piece at [] ∷ ps
with_byte false at b [] = piece at (b ∷ []) ∷ []
with_byte false at b (p ∷ ps) = piece at (b ∷ p.bytes) ∷ ps

-- the pieces of bytes from a place on: they are parted at each byte that passes the test
abbrev pub pieces : (ℕ → Bool) → ℕ → List ℕ → List Piece
pieces parts at [] = piece at [] ∷ []
pieces parts at (b ∷ bs) = with_byte (parts b) at b (pieces parts (at + 1) bs)

abbrev pub is_line_end : ℕ → Bool
is_line_end b = b == 10

-- a blank or a tab
abbrev pub is_blank : ℕ → Bool
is_blank b = b == 32 || b == 9

-- a word where it stands
pub record Said : Type 0 where
  pub at : ℕ
  pub word : List ℕ

abbrev pub said_by : ℕ → List ℕ → Option Said
said_by at [] = None
said_by at (b ∷ bs) = Some (record { at = at; word = b ∷ bs })

abbrev pub said : Piece → Option Said
said p = said_by p.at p.bytes

-- the words of bytes from a place on
abbrev pub words_from : ℕ → List ℕ → List Said
words_from at bytes = filter_map said (pieces is_blank at bytes)

-- the words of a line: it ends before one carriage return
abbrev pub line_words : Piece → List Said
line_words line = words_from line.at (strip_carriage_return line.bytes)

-- a line with words: the first one, and those behind it
pub record Line : Type 0 where
  pub first : Said
  pub more : List Said

abbrev pub some_line : List Said → Option Line
some_line [] = None
some_line (s ∷ ss) = Some (record { first = s; more = ss })

abbrev pub line_of : Piece → Option Line
line_of line = some_line (line_words line)

-- the lines with words of bytes from a place on
abbrev pub lines_from : ℕ → List ℕ → List Line
lines_from at bytes = filter_map line_of (pieces is_line_end at bytes)

-- the line is this word alone
abbrev pub is_alone : List ℕ → List Said → Said → Bool
is_alone w [] s = bytes_eq s.word w
is_alone w (t ∷ ts) s = false

abbrev pub begins_plan : Line → Bool
begins_plan line = is_alone (codes "==>") line.more line.first

abbrev pub ends_plan : Line → Bool
ends_plan line = is_alone (codes "<==") line.more line.first || is_alone (codes "==<") line.more line.first

-- the lines between the markers, and the place of the end line
pub record Marked : Type 0 where
  pub lines : List Line
  pub end : ℕ

abbrev pub with_line : Line → Marked → Marked
with_line line m = record { lines = line ∷ m.lines; end = m.end }

abbrev pub end_or : Bool → Line → Option Marked → Option Marked
end_or true line o = Some (record { lines = []; end = line.first.at })
end_or false line o = option_map (with_line line) o

-- the lines in front of the first end line
abbrev pub up_to_end : List Line → Option Marked
up_to_end [] = None
up_to_end (l ∷ ls) = end_or (ends_plan l) l (up_to_end ls)

abbrev pub begin_or : Bool → Option Marked → Option Marked → Option Marked
begin_or true here later = here
begin_or false here later = later

-- the lines behind the first line that begins a plan
abbrev pub behind_begin : List Line → Option Marked
behind_begin [] = None
behind_begin (l ∷ ls) = begin_or (begins_plan l) (up_to_end ls) (behind_begin ls)

abbrev pub marked : List ℕ → Option Marked
marked text = behind_begin (lines_from 0 text)
