-- The bytes of one part of a list or of a page.
-- Source: this project's.
use Rattle.std.specs.Prelude.{ℕ, List, [], ◌∷◌, ◌++◌, codes}
use Rattle.text_forms.specs.Lists.{Part, Parts, nothing, part}
use Rattle.text_forms.specs.Words.{Word}
use Rattle.text_forms.specs.Printing.{bytes, bytes_behind}
use Rattle.plan_texts.specs.Printed.{kind_part}

-- a part behind a space
abbrev pub behind : Part → List ℕ
behind p = 32 ∷ bytes p

-- parts with a space between two
abbrev pub between : Parts → List ℕ
between nothing = []
between (part p ps) = bytes p ++ bytes_behind ps

-- a part on a line of its own, behind a space
abbrev pub line : Part → List ℕ
line p = behind p ++ 10 ∷ []

-- a word with its types, as WORD - TYPE
abbrev pub typed : Word × List Word → List ℕ
typed x = x.0 ++ (codes " - " ++ bytes (kind_part x.1))

-- the bytes of each item, one after another
abbrev pub of_each : {X : Type 0} → (X → List ℕ) → List X → List ℕ
of_each f [] = []
of_each f (x ∷ xs) = f x ++ of_each f xs
