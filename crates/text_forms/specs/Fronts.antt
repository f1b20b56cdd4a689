-- The tokens of a text in front of a place, and the nested lists that they make.
use Rattle.std.specs.Prelude.{ℕ, nat_lt, if◌then◌else◌, List, [], ◌∷◌}
use Rattle.text_forms.specs.Tokens.{Lexeme, opens, closes, spells}
use Rattle.text_forms.specs.Placed.{Placed, cut, close, word, list}

abbrev pub place : Lexeme → ℕ
place (opens at) = at
place (closes at) = at
place (spells at letters) = at

-- the tokens in front of place m
abbrev pub before : ℕ → List Lexeme → List Lexeme
before m [] = []
before m (t ∷ ts) = if nat_lt (place t) m then t ∷ before m ts else []

-- the lists without the tokens from place m on
abbrev pub cut_before : ℕ → Placed → Placed
cut_before m cut = cut
cut_before m (close at) = if nat_lt at m then close at else cut
cut_before m (word at letters behind) = if nat_lt at m then word at letters (cut_before m behind) else cut
cut_before m (list at inside behind) = if nat_lt at m then list at (cut_before m inside) (cut_before m behind) else cut
