-- Lists of parts, each of which stands for one thing, and typed lists: words, then perhaps a dash and a type, and so on.
-- Source: appendix A (grammar) of Fox and Long, "PDDL2.1", JAIR 20, 2003, level 1, typed lists.
use Rattle.std.specs.Prelude.{Bool, true, false, List, [], ◌∷◌, cond, codes, Option, Some, None}
use Rattle.std.specs.Str.{bytes_eq}
use Rattle.text_forms.specs.Lists.{Part, Parts, name, group, nothing, part}
use Rattle.text_forms.specs.Words.{Word, is_among, is_name}

-- each in its place spells the next part
abbrev pub Each : {X : Type 0} → (X → Part → Type 0) → List X → Parts → Type 0
Each Is [] nothing = Unit {0}
Each Is (x ∷ xs) (part p ps) = Is x p × Each Is xs ps
Each Is [] (part p ps) = ⊥
Each Is (x ∷ xs) nothing = ⊥

abbrev pub IsEmpty : {X : Type 0} → List X → Type 0
IsEmpty [] = Unit {0}
IsEmpty (x ∷ xs) = ⊥

abbrev pub is_word : Word → Part → Bool
is_word k (name w) = bytes_eq k w
is_word k (group ps) = false

abbrev pub is_dash : Part → Bool
is_dash = is_word (codes "-")

abbrev pub first_part : Parts → Option Part
first_part nothing = None
first_part (part p ps) = Some p

abbrev pub ahead_by : Bool → Option Part → Option Part → Option Part
ahead_by true here later = here
ahead_by false here later = later

-- in a typed list: the type that is written for what stands before these parts
abbrev pub ahead : Parts → Option Part
ahead nothing = None
ahead (part p ps) = ahead_by (is_dash p) (first_part ps) (ahead ps)

abbrev pub skipped_by : Bool → Parts → Parts → Parts
skipped_by true behind all = behind
skipped_by false behind all = all

-- what is left behind a dash and a type, if they stand here
abbrev pub skipped : Parts → Parts
skipped nothing = nothing
skipped (part p nothing) = part p nothing
skipped (part p (part q ps)) = skipped_by (is_dash p) ps (part p (part q ps))

-- a typed list: each in its place spells a word, with the type written ahead
abbrev pub EachTyped : {X : Type 0} → (X → Part → Option Part → Type 0) → List X → Parts → Type 0
EachTyped Is [] nothing = Unit {0}
EachTyped Is (x ∷ xs) (part p ps) = Is x p (ahead ps) × EachTyped Is xs (skipped ps)
EachTyped Is [] (part p ps) = ⊥
EachTyped Is (x ∷ xs) nothing = ⊥

-- the word of a type; without one it is object
abbrev pub type_said : Option Part → Word
type_said None = codes "object"
type_said (Some (name w)) = w
type_said (Some (group ps)) = []

-- those that aren't seen yet, each once
abbrev pub first_seen : List Word → List Word → List Word
first_seen seen [] = []
first_seen seen (w ∷ ws) = cond (is_among w seen) (first_seen seen ws) (w ∷ first_seen (w ∷ seen) ws)

-- the words of some parts; a list has none
abbrev pub words_in : Parts → List Word
words_in nothing = []
words_in (part (name w) ps) = w ∷ words_in ps
words_in (part (group qs) ps) = [] ∷ words_in ps

abbrev pub types_in : Parts → List Word
types_in nothing = []
types_in (part p ps) = cond (is_word (codes "either") p) (first_seen [] (words_in ps)) []

-- the types of variables: one type, or ( either NAME NAME* ), where repeats are dropped
abbrev pub kind_said : Option Part → List Word
kind_said None = codes "object" ∷ []
kind_said (Some (name w)) = w ∷ []
kind_said (Some (group ps)) = types_in ps

-- one or more names
abbrev pub are_names : List Word → Bool
are_names [] = false
are_names (w ∷ []) = is_name w
are_names (w ∷ ws) = cond (is_name w) (are_names ws) false
