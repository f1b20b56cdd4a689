-- The bytes that are printed for nested lists.
-- Source: this project's layout of lists.
use Rattle.std.specs.Prelude.{ℕ, ◌≡◌, ◌==◌, ◌&&◌, Bool, true, false, List, [], ◌∷◌, ◌++◌, codes}
use Rattle.std.specs.Char.{to_ascii_lowercase}
use Rattle.text_forms.specs.Bytes.{is_letter}
use Rattle.text_forms.specs.Lists.{Part, Parts, name, group, nothing, part}
use Rattle.text_forms.specs.Words.{Word}

abbrev mutual
  -- one space between the parts of a list
  pub bytes : Part → List ℕ
  bytes (name w) = w
  bytes (group nothing) = codes "()"
  bytes (group (part p ps)) = 40 ∷ (bytes p ++ (bytes_behind ps ++ 41 ∷ []))

  pub bytes_behind : Parts → List ℕ
  bytes_behind nothing = []
  bytes_behind (part p ps) = 32 ∷ bytes p ++ bytes_behind ps

-- each part on a line of its own, behind a space
abbrev pub lines : Parts → List ℕ
lines nothing = []
lines (part p ps) = 32 ∷ (bytes p ++ (10 ∷ lines ps))

-- each part on a line of its own
abbrev pub rows : Parts → List ℕ
rows nothing = []
rows (part p ps) = bytes p ++ 10 ∷ rows ps

-- a list that begins with a word
abbrev pub headed : Word → Parts → Part
headed w ps = group (part (name w) ps)

-- ( define ( KIND NAME ) section* )
abbrev pub definition : Word → Word → Parts → Part
definition kind w sections = headed (codes "define") (part (headed kind (part (name w) nothing)) sections)

-- a definition, with a line for each section
abbrev pub page : Word → Word → Parts → List ℕ
page kind w sections = codes "(define " ++ (bytes (headed kind (part (name w) nothing)) ++ (10 ∷ (lines sections ++ codes ")\n")))

-- a word of letters in lower case
abbrev pub are_folded : Word → Bool
are_folded [] = true
are_folded (b ∷ w) = (is_letter b && (to_ascii_lowercase b == b)) && are_folded w

abbrev pub is_folded_word : Word → Bool
is_folded_word [] = false
is_folded_word (b ∷ w) = are_folded (b ∷ w)

-- each word of it can stand in a text as it is
abbrev mutual
  pub IsPrintablePart : Part → Type 0
  IsPrintablePart (name w) = is_folded_word w ≡ true
  IsPrintablePart (group ps) = ArePrintableParts ps

  pub ArePrintableParts : Parts → Type 0
  ArePrintableParts nothing = Unit {0}
  ArePrintableParts (part p ps) = IsPrintablePart p × ArePrintableParts ps
