-- The words of HDDL and PDDL texts. A word is the list of its bytes.
-- Source: the grammars of HDDL (Höller et al., AAAI 2020) and of PDDL 2.1, level 1 (Fox and Long, JAIR 2003): a variable starts with `?`, a keyword with `:`.
use Rattle.std.specs.Prelude.{◌≡◌, ◌==◌, ◌&&◌, ℕ, List, [], ◌∷◌, Bool, false, not, map, codes}
use Rattle.std.specs.Char.{to_ascii_lowercase}
use Rattle.std.specs.List.{list_any}
use Rattle.std.specs.Str.{bytes_eq}

-- the word in lower case: a text may write each letter in either case
abbrev pub folded : List ℕ → List ℕ
folded word = map to_ascii_lowercase word

-- folding leaves the word: it has no upper-case letter
abbrev pub IsFolded : List ℕ → Type 0
IsFolded word = folded word ≡ word

-- the words that have a meaning of their own in a domain or a problem, so that nothing is named by them
abbrev pub reserved_words : List (List ℕ)
reserved_words =
    codes "-" ∷ codes "->" ∷ codes "=" ∷ codes "<" ∷ codes "and" ∷ codes "or" ∷ codes "not" ∷ codes "imply" ∷
    codes "forall" ∷ codes "exists" ∷ codes "when" ∷ codes "increase" ∷ codes "either" ∷ []

abbrev pub is_reserved : List ℕ → Bool
is_reserved word = list_any (bytes_eq word) reserved_words

-- a word that starts with neither `?` nor `:` and isn't reserved
abbrev pub is_name : List ℕ → Bool
is_name [] = false
is_name (b ∷ w) = not (b == 63) && (not (b == 58) && not (is_reserved (b ∷ w)))
