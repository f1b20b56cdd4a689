-- What stands at a position: that at the token which has its number, with positions in place of numbers.
use Rattle.std.specs.Prelude.{◌≡◌, ℕ, ◌+◌, ◌<◌, ◌≤◌, List, Option, Some, None, drop}
use Rattle.htn_base.specs.Words.{folded}
use Rattle.text_forms.specs.Placed.{Placed, cut, close, word, list, level, parts_at}
use Rattle.text_forms.specs.Tokens.{token_count, lexemes}
use Rattle.text_forms.specs.Words.{Word}
use Rattle.text_forms.specs.declared.sexpr_text.positions.Position.{Position}
use Rattle.text_forms.specs.sexpr_text.Positions.{IsPositionOf}
use Rattle.gd_reader.specs.Added.{Says}
use Rattle.gd_reader.specs.declared.positions.ItemFrom.{ItemFrom}
use Rattle.gd_reader.specs.declared.positions.ItemFrom.TheVariants as items
use Rattle.gd_reader.specs.declared.positions.WordOrEnd.{WordOrEnd}
use Rattle.gd_reader.specs.declared.positions.WordOrEnd.TheVariants as met

-- what stands behind the list in which token i stands
abbrev pub behind_at : List ℕ → ℕ → Placed
behind_at text i = level 1 (drop i (lexemes text))

-- what stands in a list from token i on, and what behind this list
abbrev pub inside_and_behind : List ℕ → ℕ → Placed × Placed
inside_and_behind text i = (parts_at text i, behind_at text i)

-- token i closes its list, with a position behind it
pub record IsCloseFrom (text : List ℕ) (i at : ℕ) (next : Position) : Type 0 where
  pub parts : parts_at text i ≡ close at
  pub behind : parts_at text next.token ≡ behind_at text i
  pub within : i < token_count text
  pub position : IsPositionOf text (i + 1) next

-- token i is a word, with a position behind it
pub record IsWordFrom (text : List ℕ) (i at : ℕ) (letters : List ℕ) (next : Position) : Type 0 where
  pub parts : parts_at text i ≡ word at letters (parts_at text next.token)
  pub behind : behind_at text next.token ≡ behind_at text i
  pub within : i < token_count text
  pub said : Says text letters
  pub position : IsPositionOf text (i + 1) next

-- token i opens a list, with the position of the token that comes first in it
pub record IsListFrom (text : List ℕ) (i at : ℕ) (inside : Position) : Type 0 where
  pub parts : parts_at text i ≡ list at (parts_at text inside.token) (behind_at text inside.token)
  pub within : i < token_count text
  pub position : IsPositionOf text (i + 1) inside

abbrev pub ShowsFrom : List ℕ → ℕ → ItemFrom → Type 0
ShowsFrom text i items.End = (parts_at text i ≡ cut) × (token_count text ≤ i)
ShowsFrom text i (items.Close at next) = IsCloseFrom text i at next
ShowsFrom text i (items.Word at w next) = IsWordFrom text i at (folded w.now) next
ShowsFrom text i (items.List at inside) = IsListFrom text i at inside

-- the word that was met, with its place and with what is behind it
abbrev pub word_met : List ℕ → WordOrEnd → Option (ℕ × Word × Placed)
word_met text (met.Word at w next) = Some (at, folded w.now, parts_at text next.token)
word_met text (met.End behind) = None

-- the position behind what was met
abbrev pub next_of : WordOrEnd → Position
next_of (met.Word at w next) = next
next_of (met.End behind) = behind

-- behind a word of the list in which token i stands it goes on, and behind its end stands what is behind it
abbrev pub GoesOnIn : List ℕ → ℕ → WordOrEnd → Type 0
GoesOnIn text i (met.Word at w next) = behind_at text next.token ≡ behind_at text i
GoesOnIn text i (met.End behind) = parts_at text behind.token ≡ behind_at text i
