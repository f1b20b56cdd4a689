-- A small domain: its types in the order in which its text first names them, and a union that two variables share.
use Rattle.std.proofs.Common.{◌≡◌, ℕ, false, List, [], ◌∷◌, codes, refl}
use Rattle.text_forms.specs.Lists.{Parts, nothing, part, name}
use Rattle.text_forms.specs.Printing.{headed}
use Rattle.text_forms.specs.Words.{Word}
use Rattle.plan_texts.specs.FirstSeen.{types_in_order, pairs_in_order, unions_in_all}
use Rattle.gd_reader.specs.declared.term.RawTerm.{RawTerm}
use Rattle.gd_reader.specs.declared.typed_lists.RawParam.{RawParam}
use Rattle.gd_reader.specs.Answers.{word_due, list_due, end_due}
use Rattle.gd_reader.specs.Terms.{Names, used}
use Rattle.gd_reader.specs.TypedLists.{params, behind, typed, param_by, variable_by, type_by, union, some_names, more_names}
use Rattle.gd_reader.specs.Words.{sort_of}
use Rattle.hddl_reader.specs.declared.sections.Language.TheVariants as language
use Rattle.hddl_reader.specs.declared.sections.RawDomain.{RawDomain}
use Rattle.hddl_reader.specs.Definitions.{title, definition_inside, definition_read, IsDomainRead}
use Rattle.hddl_reader.specs.Networks.{declared}
use Rattle.hddl_reader.specs.Sections.{section_of, has_section, predicate_headed, section_read, may_end, section_inside, sections}
use Rattle.text_values.specs.form_spellings.SeenInOrder.{type_parts}
use Rattle.text_values.specs.form_spellings.Written.{Written, Union, type_words, domain_unions}

abbrev domain : List ℕ
domain = codes "(define (domain d) (:predicates (p ?x ?y - (either b a))) (:types a b - c))"

abbrev table : Names
table = codes "d" ∷ codes "p" ∷ codes "x" ∷ codes "y" ∷ codes "b" ∷ codes "a" ∷ codes "c" ∷ []

abbrev name_at : ℕ → ℕ → RawTerm
name_at n at = record { name = record { number = n }; variable = false; at = at }

-- either b a
abbrev kinds : List RawTerm
kinds = name_at 4 51 ∷ name_at 5 53 ∷ []

abbrev param : ℕ → List RawTerm → ℕ → RawParam
param n ty at = record { name = record { number = n }; ty = ty; at = at }

abbrev raw : RawDomain
raw = record {
  name = record { number = 0 };
  types = param 5 (name_at 6 72 ∷ []) 66 ∷ param 4 (name_at 6 72 ∷ []) 68 ∷ [];
  constants = [];
  predicates = record { name = name_at 1 33; params = param 2 kinds 35 ∷ param 3 kinds 38 ∷ [] } ∷ [];
  tasks = [];
  methods = [];
  actions = [];
}

row : IsDomainRead language.Hddl [] domain (raw, table)
unfolding definition_read definition_inside title sections section_inside section_of has_section section_read may_end declared predicate_headed params behind typed param_by variable_by type_by union some_names more_names used word_due list_due end_due sort_of
row = (_, refl, record { whole = tt; gives = refl })

abbrev listed : Parts
listed = part (name (codes "a")) (part (name (codes "b")) (part (name (codes "-")) (part (name (codes "c")) nothing)))

abbrev either : Parts
either = part (name (codes "b")) (part (name (codes "a")) nothing)

abbrev shown : Parts
shown =
    part (headed (codes ":predicates") (part (headed (codes "p") (part (name (codes "?x")) (part (name (codes "?y")) (part (name (codes "-")) (part (headed (codes "either") either) nothing))))) nothing))
    (part (headed (codes ":types") listed) nothing)

-- the words of types as they were read: that of the parent comes once for each child
abbrev word_of : ℕ → Word → Written Word
word_of at w = record { at = at; is = w }

row_words : type_words table raw.types ≡ word_of 66 (codes "a") ∷ word_of 72 (codes "c") ∷ word_of 68 (codes "b") ∷ word_of 72 (codes "c") ∷ []
row_words = refl

row_types : types_in_order (type_parts shown) ≡ codes "object" ∷ codes "a" ∷ codes "b" ∷ codes "c" ∷ []
row_types = refl

row_pairs : pairs_in_order (type_parts shown) ≡ record { child = 1; parent = 3 } ∷ record { child = 2; parent = 3 } ∷ record { child = 3; parent = 0 } ∷ []
row_pairs = refl

-- one union of the text, read for each of its variables
abbrev union_of : Union
union_of = record { at = 51; is = codes "b" ∷ codes "a" ∷ [] }

row_unions : (domain_unions table raw ≡ union_of ∷ union_of ∷ []) × (unions_in_all shown ≡ (codes "b" ∷ codes "a" ∷ []) ∷ [])
row_unions = (refl, refl)
