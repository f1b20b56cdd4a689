-- Words: which are names, and the place of a word among others.
-- Source: appendix A (grammar) of Fox and Long, "PDDL2.1", JAIR 20, 2003, level 1: a variable starts with ?, a keyword with a colon.
use Rattle.std.specs.Prelude.{ℕ, suc, Bool, true, false, not, cond, List, [], ◌∷◌, Option, Some, None, option_map, slice_index_or}
use Rattle.std.specs.List.{list_any}
use Rattle.std.specs.Str.{bytes_eq}
use Rattle.htn_base.specs.Words.{is_reserved}
pub use Rattle.htn_base.specs.Words.{is_name}

abbrev pub Word : Type 0
Word = List ℕ

abbrev pub is_among : Word → List Word → Bool
is_among w ws = list_any (bytes_eq w) ws

-- what stands behind the ? of a declared variable
abbrev pub is_variable : Word → Bool
is_variable [] = false
is_variable (b ∷ w) = not (is_reserved (b ∷ w))

-- the k-th of these words, counted from 0; the empty word past the end
abbrev pub word_at : List Word → ℕ → Word
word_at ws k = slice_index_or ws k []

-- the place of the first of these that is this word
abbrev pub first_place : Word → List Word → Option ℕ
first_place w [] = None
first_place w (v ∷ vs) = cond (bytes_eq w v) (Some 0) (option_map suc (first_place w vs))

abbrev pub later : Option ℕ → Bool → Option ℕ
later (Some k) here = Some (suc k)
later None true = Some 0
later None false = None

-- the place of the last of these that is this word
abbrev pub last_place : Word → List Word → Option ℕ
last_place w [] = None
last_place w (v ∷ vs) = later (last_place w vs) (bytes_eq w v)
