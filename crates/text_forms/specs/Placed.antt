-- The same lists with their places and with an end of the tokens in them: what stands in a list from some token on.
use Rattle.std.specs.Prelude.{◌≡◌, ℕ, zero, suc, List, [], ◌∷◌, drop}
use Rattle.text_forms.specs.Tokens.{Lexeme, opens, closes, spells, lexemes}
use Rattle.text_forms.specs.Lists.{Parts, name, group, nothing, part}

-- up to the closing parenthesis of the list, or cut by the end of the tokens
pub data Placed : Type 0 where
  cut : Placed
  close : (at : ℕ) → Placed
  word : (at : ℕ) (letters : List ℕ) (behind : Placed) → Placed
  list : (at : ℕ) (inside behind : Placed) → Placed

-- what stands behind k closing parentheses of lists that are open in front of these tokens
abbrev pub level : ℕ → List Lexeme → Placed
level k [] = cut
level zero (closes at ∷ ts) = close at
level (suc k) (closes at ∷ ts) = level k ts
level zero (spells at letters ∷ ts) = word at letters (level zero ts)
level (suc k) (spells at letters ∷ ts) = level (suc k) ts
level zero (opens at ∷ ts) = list at (level zero ts) (level (suc zero) ts)
level (suc k) (opens at ∷ ts) = level (suc (suc k)) ts

-- what stands in its list from token i on
abbrev pub parts_at : List ℕ → ℕ → Placed
parts_at text i = level 0 (drop i (lexemes text))

-- no end of the tokens in it
abbrev pub IsWhole : Placed → Type 0
IsWhole cut = ⊥
IsWhole (close at) = Unit {0}
IsWhole (word at letters behind) = IsWhole behind
IsWhole (list at inside behind) = IsWhole inside × IsWhole behind

-- without the places
abbrev pub parts_of : Placed → Parts
parts_of cut = nothing
parts_of (close at) = nothing
parts_of (word at letters behind) = part (name letters) (parts_of behind)
parts_of (list at inside behind) = part (group (parts_of inside)) (parts_of behind)

-- one list, and nothing behind it
abbrev pub IsOneList : Placed → Parts → Type 0
IsOneList cut ps = ⊥
IsOneList (close at) ps = ⊥
IsOneList (word at letters behind) ps = ⊥
IsOneList (list at inside behind) ps = IsWhole inside × (parts_of inside ≡ ps) × (behind ≡ cut)
