-- Parts and sections under their keywords, in any order. A missing one is empty.
-- Source: appendix A (grammar) of Fox and Long, "PDDL2.1", JAIR 20, 2003, level 1, and the full syntax definition of HDDL, Höller et al., "HDDL: An Extension to PDDL for Expressing Hierarchical Planning Problems", AAAI 2020;
-- that their order is free and that parts may be missing is this project's.
use Rattle.std.specs.Prelude.{Bool, true, false, not, cond, ◌&&◌, ◌||◌, List, [], ◌∷◌, codes, Option, Some, None}
use Rattle.std.specs.Str.{bytes_eq}
use Rattle.text_forms.specs.Lists.{Part, Parts, name, group, nothing, part}
use Rattle.text_forms.specs.Words.{Word, is_among}
use Rattle.plan_texts.specs.TypedLists.{is_word}

-- these keywords without one
abbrev pub without : Word → List Word → List Word
without w [] = []
without w (k ∷ ks) = cond (bytes_eq k w) ks (k ∷ without w ks)

-- these groups of keywords without the one that has this keyword
abbrev pub without_group : Word → List (List Word) → List (List Word)
without_group w [] = []
without_group w (ks ∷ kss) = cond (is_among w ks) kss (ks ∷ without_group w kss)

-- one of these groups has the keyword
abbrev pub is_in_one : Word → List (List Word) → Bool
is_in_one w [] = false
is_in_one w (ks ∷ kss) = is_among w ks || is_in_one w kss

-- keywords, each with a part behind it: of each of these groups of keywords one at most, and no other
abbrev pub are_entries : List (List Word) → Parts → Bool
are_entries kss nothing = true
are_entries kss (part p nothing) = false
are_entries kss (part (group qs) (part q ps)) = false
are_entries kss (part (name k) (part q ps)) = is_in_one k kss && are_entries (without_group k kss) ps

-- the part is one of these words
abbrev pub is_one_of : List Word → Part → Bool
is_one_of ks (name w) = is_among w ks
is_one_of ks (group ps) = false

-- the part behind one of these keywords; () where none stands
abbrev pub found : List Word → Parts → Part
found ks nothing = group nothing
found ks (part p nothing) = group nothing
found ks (part p (part q ps)) = cond (is_one_of ks p) q (found ks ps)

-- one of these keywords stands
abbrev pub stands : List Word → Parts → Bool
stands ks nothing = false
stands ks (part p nothing) = false
stands ks (part p (part q ps)) = is_one_of ks p || stands ks ps

-- () | item | ( and item* ), as the list of its items
abbrev pub bundle_by : Bool → Parts → Parts → Parts
bundle_by true inside whole = inside
bundle_by false inside whole = whole

abbrev pub bundle : Part → Parts
bundle (name w) = part (name w) nothing
bundle (group nothing) = nothing
bundle (group (part p ps)) = bundle_by (is_word (codes "and") p) ps (part (group (part p ps)) nothing)

-- sections: those of the first keywords at most once, those of the others any number of times
abbrev pub are_sections : List Word → List Word → Parts → Bool
are_sections once many nothing = true
are_sections once many (part (name w) ps) = false
are_sections once many (part (group nothing) ps) = false
are_sections once many (part (group (part (group rs) qs)) ps) = false
are_sections once many (part (group (part (name k) qs)) ps) = (is_among k once || is_among k many) && are_sections (without k once) many ps

abbrev pub is_headed : Word → Part → Bool
is_headed k (name w) = false
is_headed k (group nothing) = false
is_headed k (group (part p ps)) = is_word k p

abbrev pub content : Part → Parts
content (name w) = nothing
content (group nothing) = nothing
content (group (part p ps)) = ps

-- what stands in the first section of a keyword
abbrev pub section : Word → Parts → Option Parts
section k nothing = None
section k (part p ps) = cond (is_headed k p) (Some (content p)) (section k ps)

abbrev pub parts_in : Option Parts → Parts
parts_in None = nothing
parts_in (Some ps) = ps

-- the sections of a keyword
abbrev pub only : Word → Parts → Parts
only k nothing = nothing
only k (part p ps) = cond (is_headed k p) (part p (only k ps)) (only k ps)

-- all parts but those of a keyword
abbrev pub all_but : Word → Parts → Parts
all_but k nothing = nothing
all_but k (part p ps) = cond (is_headed k p) (all_but k ps) (part p (all_but k ps))

-- the one part of a section; () where there is no section
abbrev pub one_in : Option Parts → Part
one_in None = group nothing
one_in (Some nothing) = name []
one_in (Some (part p nothing)) = p
one_in (Some (part p (part q ps))) = name []

-- ( any* ) word, as behind = in :init
abbrev pub is_value : Parts → Bool
is_value nothing = false
is_value (part (name w) ps) = false
is_value (part (group qs) nothing) = false
is_value (part (group qs) (part (group rs) ps)) = false
is_value (part (group qs) (part (name w) nothing)) = true
is_value (part (group qs) (part (name w) (part p ps))) = false

-- each part that begins with = is such a value
abbrev pub are_values : Parts → Bool
are_values nothing = true
are_values (part p ps) = (not (is_headed (codes "=") p) || is_value (content p)) && are_values ps

abbrev pub are_words : Parts → Bool
are_words nothing = true
are_words (part (name w) ps) = are_words ps
are_words (part (group qs) ps) = false

abbrev pub domain_once : List Word
domain_once = codes ":requirements" ∷ codes ":types" ∷ codes ":constants" ∷ codes ":predicates" ∷ codes ":functions" ∷ []

abbrev pub domain_many : List Word
domain_many = codes ":action" ∷ []

abbrev pub problem_once : List Word
problem_once = codes ":domain" ∷ codes ":requirements" ∷ codes ":objects" ∷ codes ":init" ∷ codes ":goal" ∷ codes ":metric" ∷ []

abbrev pub parameters : List Word
parameters = codes ":parameters" ∷ []

abbrev pub precondition : List Word
precondition = codes ":precondition" ∷ []

abbrev pub effect : List Word
effect = codes ":effect" ∷ []

abbrev pub action_entries : List (List Word)
action_entries = parameters ∷ precondition ∷ effect ∷ []
