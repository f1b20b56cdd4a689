-- What a word may be in its place, and with which code another departs. Words are in lower case here.
-- Source: the full syntax definition of Höller et al., "HDDL", AAAI 2020, and appendix A of Fox and Long, "PDDL2.1", JAIR 20, 2003; the codes are this project's.
use Rattle.std.specs.Prelude.{ℕ, Bool, true, false, not, ◌||◌, ◌==◌, if◌then◌else◌, Option, Some, None, List, [], ◌∷◌, codes}
use Rattle.std.specs.Str.{bytes_eq}
use Rattle.htn_base.specs.Words.{is_reserved}
use Rattle.text_forms.specs.Words.{Word, is_among, is_name}
use Rattle.text_forms.specs.form_grammar.Rows.{Next, go, stop, if_allowed}

-- a question mark and one or more bytes
abbrev pub is_variable_word : Word → Bool
is_variable_word [] = false
is_variable_word (b ∷ []) = false
is_variable_word (b ∷ c ∷ w) = b == 63

abbrev pub is_term : Word → Bool
is_term w = is_variable_word w || is_name w

abbrev pub is_keyword : Word → Bool
is_keyword [] = false
is_keyword (b ∷ w) = b == 58

abbrev pub is_word : List ℕ → Word → Bool
is_word text w = bytes_eq w text

-- a word that is used: another one has 8
abbrev pub used : {X : Type 0} → (Word → Bool) → X → Word → Next X
used test x w = if_allowed (test w) 8 x

-- a name that is or may be declared: a reserved word has 9, another word that is no name the code
abbrev pub declared : {X : Type 0} → ℕ → X → Word → Next X
declared code x w = if is_reserved w then stop 9 else if_allowed (is_name w) code x

-- words, each with what it leaves due
abbrev pub Table : Type 0 → Type 0
Table X = List (Word × X)

abbrev pub entry : {X : Type 0} → Table X → Word → Option X
entry [] w = None
entry (e ∷ table) w = if bytes_eq w e.0 then Some e.1 else entry table w

-- what the table says of a word, and else what is said of other words
abbrev pub by_word : {X : Type 0} → Table X → (Word → Next X) → Word → Next X
by_word table others w = elim (entry table w) [ None ↦ others w | Some x ↦ go x ]

-- keywords that count as one part, each named by the first of them
abbrev pub counts_as : Word → Word
counts_as w =
    if is_among w (codes ":tasks" ∷ codes ":ordered-subtasks" ∷ codes ":ordered-tasks" ∷ []) then codes ":subtasks"
    else (if bytes_eq w (codes ":order") then codes ":ordering"
    else w)

abbrev pub unknown : {X : Type 0} → Bool → Next X
unknown true = stop 6
unknown false = stop 8

-- A keyword of the table: one that isn't in it has 6, one that counts as a part that was seen 7, a word that is no keyword 8.
abbrev pub by_keyword : {X Y : Type 0} → Table X → List Word → (X → Y) → Word → Next Y
by_keyword table seen leaves w = elim (entry table w) [ None ↦ unknown (is_keyword w) | Some x ↦ if_allowed (not (is_among (counts_as w) seen)) 7 (leaves x) ]
