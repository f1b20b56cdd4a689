-- Atoms as rows of numbers: the offset of the name, a code of the name, and for each term how far behind the name it stands, and its code.
-- Source: this project's.
use Rattle.std.specs.Prelude.{ℕ, ◌+◌, ◌/◌, ◌%◌, ◌^◌, ◌==◌, List, [], ◌∷◌, map, drop, get_or}
use Rattle.htn_base.specs.Packed.{Row}
use Rattle.gd_reader.specs.declared.term.RawAtom.{RawAtom}
use Rattle.gd_reader.specs.declared.term.RawTerm.{RawTerm}

-- the term at an offset: its code is twice the number of its name, and one more where it is a variable
abbrev pub term_coded : ℕ → ℕ → RawTerm
term_coded at code = record { name = record { number = code / 2 }; variable = code % 2 == 1; at = at }

-- the terms behind a name at an offset; a number alone at the end is none
abbrev pub terms_coded : ℕ → List ℕ → List RawTerm
terms_coded from [] = []
terms_coded from (away ∷ []) = []
terms_coded from (away ∷ code ∷ rest) = term_coded ((from + away) % 2 ^ 32) code ∷ terms_coded from rest

-- the atom of a row; the code 0 stands for a missing one
abbrev pub atom_coded : Row → RawAtom
atom_coded row = record { head = term_coded row.head (get_or row.rest 0 0); args = terms_coded row.head (drop 1 row.rest) }

abbrev pub atoms_coded : List Row → List RawAtom
atoms_coded rows = map atom_coded rows
