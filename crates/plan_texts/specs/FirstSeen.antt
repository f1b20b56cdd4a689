-- The value of two HDDL texts: types, pairs and unions in the order in which the texts first name them.
-- Source: this project's.
use Rattle.std.specs.Prelude.{ℕ, suc, ◌≡◌, ◌++◌, cond, List, [], ◌∷◌, map, codes, Option, Some, None}
use Rattle.std.specs.List.{list_any}
use Rattle.std.specs.Str.{bytes_eq}
use Rattle.std.specs.Cmp.Lexicographic.{pointwise}
use Rattle.text_forms.specs.Faults.{IsFaultless}
use Rattle.text_forms.specs.Lists.{Part, Parts, name, group, nothing, part}
use Rattle.text_forms.specs.Words.{Word, is_among, first_place}
use Rattle.plan_texts.specs.Declared.{union_words}
use Rattle.plan_texts.specs.TypedLists.{is_dash, ahead, words_in, first_seen, EachTyped}
use Rattle.plan_texts.specs.Types.{Has, TypeItem, parent_said, IsTypeItem, AreTypes}
use Rattle.plan_texts.specs.Sections.{section, parts_in}
use Rattle.plan_texts.specs.SpellsHddl.{hddl_types, SpellsHddl}
use Rattle.plan_model.specs.declared.types.Parent.{Parent}
use Rattle.plan_model.specs.declared.values.Hddl.{Hddl}

-- each word of a list of types: a type's own and those of parents alike
abbrev pub type_words_in : Parts → List Word
type_words_in nothing = []
type_words_in (part (group qs) ps) = type_words_in ps
type_words_in (part (name w) ps) = cond (bytes_eq (codes "-") w) (type_words_in ps) (w ∷ type_words_in ps)

-- object, and the others as the list first names them
abbrev pub types_in_order : Parts → List Word
types_in_order ps = codes "object" ∷ first_seen (codes "object" ∷ []) (type_words_in ps)

abbrev pub word_said : Part → Word
word_said (name w) = w
word_said (group ps) = []

-- the types of a list, each with the parent that is written for it
abbrev pub type_items : Parts → List TypeItem
type_items nothing = []
type_items (part p nothing) = (word_said p, None) ∷ []
type_items (part p (part q ps)) = cond (is_dash p) (type_items ps) ((word_said p, parent_said (ahead (part q ps))) ∷ type_items (part q ps))

-- the parents that are written for a word
abbrev pub parents_for : Word → List TypeItem → List Word
parents_for w [] = []
parents_for w ((u, None) ∷ xs) = parents_for w xs
parents_for w ((u, Some p) ∷ xs) = cond (bytes_eq w u) (p ∷ parents_for w xs) (parents_for w xs)

abbrev pub place_or_zero : Option ℕ → ℕ
place_or_zero None = 0
place_or_zero (Some k) = k

-- the pairs of type k: each written parent once, or object where none is written
abbrev pub pairs_for : ℕ → List Word → List Word → List Parent
pairs_for k types [] = record { child = k; parent = 0 } ∷ []
pairs_for k types (p ∷ ps) = map (λ w. record { child = k; parent = place_or_zero (first_place w types) }) (first_seen [] (p ∷ ps))

-- those of these types, whose first has the number k
abbrev pub pairs_from : ℕ → List Word → List Word → List TypeItem → List Parent
pairs_from k types [] xs = []
pairs_from k types (w ∷ ws) xs = pairs_for k types (parents_for w xs) ++ pairs_from (suc k) types ws xs

abbrev pub but_first : List Word → List Word
but_first [] = []
but_first (w ∷ ws) = ws

-- by the child's number, then in text order
abbrev pub pairs_in_order : Parts → List Parent
pairs_in_order ps = pairs_from 1 (types_in_order ps) (but_first (types_in_order ps)) (type_items ps)

-- the list spells its types and pairs in first-seen order, if it writes no parent for object
abbrev pub SpellsTypesInOrder : Parts → Type 0
SpellsTypesInOrder ps = EachTyped IsTypeItem (type_items ps) ps → ((r : Word) → Has (type_items ps) (codes "object", Some r) → ⊥) → AreTypes (types_in_order ps) (pairs_in_order ps) ps

-- two or more types make a union
abbrev pub union_of : List Word → List (List Word)
union_of [] = []
union_of (w ∷ []) = []
union_of (w ∷ u ∷ ws) = (w ∷ u ∷ ws) ∷ []

-- what stands behind these words is dropped, or has no types in it
abbrev pub without_types : List Word
without_types = codes ":functions" ∷ codes ":metric" ∷ codes "increase" ∷ codes "=" ∷ []

abbrev mutual
  -- the unions that a part writes, in its order
  pub unions_in : Part → List (List Word)
  unions_in (name w) = []
  unions_in (group nothing) = []
  unions_in (group (part (group qs) ps)) = unions_in (group qs) ++ unions_in_all ps
  unions_in (group (part (name w) ps)) =
      cond (bytes_eq (codes "either") w) (union_of (first_seen [] (words_in ps)))
      (cond (is_among w without_types) [] (unions_in_all ps))

  pub unions_in_all : Parts → List (List Word)
  unions_in_all nothing = []
  unions_in_all (part p ps) = unions_in p ++ unions_in_all ps

-- those that aren't seen yet, each once
abbrev pub first_unions : List (List Word) → List (List Word) → List (List Word)
first_unions seen [] = []
first_unions seen (u ∷ us) = cond (list_any (pointwise bytes_eq u) seen) (first_unions seen us) (u ∷ first_unions (u ∷ seen) us)

-- the domain's come first
abbrev pub unions_in_order : Parts → Parts → List (List Word)
unions_in_order domain problem = first_unions [] (unions_in_all domain ++ unions_in_all problem)

pub record IsInOrder (c : Hddl) (domain problem : Parts) : Type 0 where
  pub types : hddl_types c ≡ types_in_order (parts_in (section (codes ":types") domain))
  pub pairs : c.types.parents ≡ pairs_in_order (parts_in (section (codes ":types") domain))
  pub unions : union_words c.names c.types ≡ unions_in_order domain problem

-- The texts spell the value, whose types are in order. That no fault of forms and names stands in them is said by their readers.
pub record IsHddlOf (domain problem : List ℕ) (c : Hddl) : Type 0 where
  pub domain_faultless : IsFaultless domain
  pub problem_faultless : IsFaultless problem
  pub spelled : SpellsHddl domain problem c
  pub ordered : IsInOrder c spelled.domain_sections spelled.problem_sections
