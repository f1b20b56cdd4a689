-- The number of a token, and a place from which on the tokens from that number on stand.
use Rattle.std.specs.Prelude.{◌≡◌, ℕ, ◌≤◌, List, drop, length}
use Rattle.text_forms.specs.Tokens.{tokens}
use Rattle.text_forms.specs.declared.sexpr_text.positions.Position.{Position}
use Rattle.text_forms.specs.sexpr_text.Places.{tokens_at}

-- behind the last token too, where none stand from the place on
pub record IsPosition (text : List ℕ) (p : Position) : Type 0 where
  pub within : p.at ≤ length text
  pub here : drop p.token (tokens text) ≡ tokens_at text p.at

-- that of token i
pub record IsPositionOf (text : List ℕ) (i : ℕ) (p : Position) : Type 0 where
  pub position : IsPosition text p
  pub number : p.token ≡ i
