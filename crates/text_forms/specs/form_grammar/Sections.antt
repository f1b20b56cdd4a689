-- The sections of a domain and of a problem and their parts, line by line, and the list that has them.
-- Source: the full syntax definition of Höller et al., "HDDL", AAAI 2020, and appendix A of Fox and Long, "PDDL2.1", JAIR 20, 2003, level 1; the codes are this project's.
use Rattle.std.specs.Prelude.{Bool, true, if◌then◌else◌, Option, Some, None, List, [], ◌∷◌, ◌++◌, codes}
use Rattle.text_forms.specs.Words.{Word, is_among, is_name}
use Rattle.text_forms.specs.form_grammar.Rows.{go, stop, if_allowed, Rows, row, row_as, end_due, word_due, word_or_end, list_due, list_or_end}
use Rattle.text_forms.specs.form_grammar.Words.{Table, used, declared, counts_as, by_word, by_keyword}
use Rattle.text_forms.specs.form_grammar.Lists.{TermDue, ended, applied, words, anything, ListKind, parameters, of_predicate, objects, types, names}
use Rattle.text_forms.specs.form_grammar.Formulas.{of_terms, of_list, gd}
use Rattle.text_forms.specs.form_grammar.Effects.{EffectDue, of_formula, eff, effect_rows}
use Rattle.text_forms.specs.form_grammar.Networks.{NetworkDue, subs, pairs, cons, network_rows}

-- PDDL is HDDL without tasks, methods and an initial network.
pub data Language : Type 0 where
  hddl : Language
  pddl : Language

pub data Definition : Type 0 where
  domain : Definition
  problem : Definition

-- what has parts
pub data Parted : Type 0 where
  task : Parted
  method : Parted
  action : Parted
  network : Parted

-- The keywords that stand in front are seen.
pub data SectionDue : Type 0 where
  of_effect : EffectDue → SectionDue
  of_network : NetworkDue → SectionDue
  group : (inside behind : SectionDue) → SectionDue
  define : Language → Definition → SectionDue
  header : Language → Definition → SectionDue
  kind : Definition → SectionDue
  title : SectionDue
  title_end : SectionDue
  sections : Language → Definition → (seen : List Word) → SectionDue
  section : Language → Definition → (seen : List Word) → SectionDue
  predicates : SectionDue
  predicate : SectionDue
  domain_name : SectionDue
  facts : SectionDue
  fact : SectionDue
  objects_of_fact : SectionDue
  value : SectionDue
  named : Parted → SectionDue
  parts : Parted → (seen : List Word) → SectionDue

abbrev pub of_terms_due : TermDue → SectionDue
of_terms_due d = of_effect (of_formula (of_terms d))

abbrev pub typed : ListKind → SectionDue
typed k = of_effect (of_formula (of_list (names k [])))

-- What stands in the list behind a part's keyword.
abbrev pub net_table : Table SectionDue
net_table =
    (codes ":subtasks", of_network subs) ∷
    (codes ":tasks", of_network subs) ∷
    (codes ":ordered-subtasks", of_network subs) ∷
    (codes ":ordered-tasks", of_network subs) ∷
    (codes ":ordering", of_network pairs) ∷
    (codes ":order", of_network pairs) ∷
    (codes ":constraints", of_network cons) ∷
    []

abbrev pub part_table : Parted → Table SectionDue
part_table task = (codes ":parameters", typed parameters) ∷ (codes ":precondition", of_terms_due ended) ∷ (codes ":effect", of_terms_due ended) ∷ []
part_table action = (codes ":parameters", typed parameters) ∷ (codes ":precondition", of_effect (of_formula gd)) ∷ (codes ":effect", of_effect eff) ∷ []
part_table method = (codes ":parameters", typed parameters) ∷ (codes ":task", of_terms_due applied) ∷ (codes ":precondition", of_effect (of_formula gd)) ∷ net_table
part_table network = (codes ":parameters", typed parameters) ∷ net_table

-- a method's list doesn't end without `:task`
abbrev pub has_parts : Parted → List Word → Bool
has_parts task seen = true
has_parts action seen = true
has_parts method seen = is_among (codes ":task") seen
has_parts network seen = true

-- What is due behind a section's keyword.
abbrev pub hierarchy_table : Language → Definition → Table SectionDue
hierarchy_table hddl domain = (codes ":task", named task) ∷ (codes ":method", named method) ∷ []
hierarchy_table hddl problem = (codes ":htn", parts network []) ∷ []
hierarchy_table pddl d = []

abbrev pub plain_table : Definition → Table SectionDue
plain_table domain =
    (codes ":requirements", of_terms_due words) ∷
    (codes ":types", typed types) ∷
    (codes ":constants", typed objects) ∷
    (codes ":predicates", predicates) ∷
    (codes ":functions", of_terms_due anything) ∷
    (codes ":action", named action) ∷
    []
plain_table problem =
    (codes ":domain", domain_name) ∷
    (codes ":requirements", of_terms_due words) ∷
    (codes ":objects", typed objects) ∷
    (codes ":init", facts) ∷
    (codes ":goal", group (of_effect (of_formula gd)) (of_terms_due ended)) ∷
    (codes ":metric", of_terms_due anything) ∷
    []

abbrev pub section_table : Language → Definition → Table SectionDue
section_table l d = plain_table d ++ hierarchy_table l d

-- an HDDL problem doesn't end without `:htn`
abbrev pub has_sections : Language → Definition → List Word → Bool
has_sections l domain seen = true
has_sections hddl problem seen = is_among (codes ":htn") seen
has_sections pddl problem seen = true

-- tasks, methods and actions repeat
abbrev pub seen_behind : List Word → Option Word → List Word
seen_behind seen None = seen
seen_behind seen (Some w) = if is_among w (codes ":task" ∷ codes ":method" ∷ codes ":action" ∷ []) then seen else w ∷ seen

abbrev pub definition_word : Definition → Word
definition_word domain = codes "domain"
definition_word problem = codes "problem"

abbrev pub section_rows : Rows SectionDue
section_rows (of_effect d) = row_as of_effect (effect_rows d)
section_rows (of_network d) = row_as of_network (network_rows d)
section_rows (group inside behind) = list_due 8 inside behind
-- define ( domain NAME ) dsection* ) | define ( problem NAME ) psection* )
section_rows (define l d) = word_due 5 (by_word ((codes "define", header l d) ∷ []) (λ w. stop 5))
section_rows (header l d) = list_due 5 (kind d) (sections l d [])
section_rows (kind d) = word_due 5 (by_word ((definition_word d, title) ∷ []) (λ w. stop 5))
section_rows title = word_due 5 (declared 5 title_end)
section_rows title_end = end_due 5
-- dsection* ) | psection* )
section_rows (sections l d seen) =
    row (if_allowed (has_sections l d seen) 8 tt) (λ w. stop 8) (go (record { inside = section l d seen; behind = λ w. sections l d (seen_behind seen w) }))
section_rows (section l d seen) = word_due 8 (by_keyword (section_table l d) seen (λ x. x))
-- ( NAME vlist )* )
section_rows predicates = list_or_end 8 predicate predicates
section_rows predicate = word_due 8 (declared 8 (typed of_predicate))
-- NAME )
section_rows domain_name = word_due 8 (used is_name (of_terms_due ended))
-- ielem* )
section_rows facts = list_or_end 8 fact facts
-- NAME NAME* ) | = ( any* ) word )
section_rows fact = word_due 8 (by_word ((codes "=", group (of_terms_due anything) value) ∷ []) (used is_name objects_of_fact))
section_rows objects_of_fact = word_or_end 8 (used is_name objects_of_fact)
section_rows value = word_due 8 (λ w. go (of_terms_due ended))
-- NAME tpart* ) | NAME mpart* ) | NAME apart* )
section_rows (named p) = word_due 8 (declared 8 (parts p []))
-- tpart* ) | mpart* ) | apart* ) | hpart* )
section_rows (parts p seen) =
    row (if_allowed (has_parts p seen) 8 tt) (λ w. by_keyword (part_table p) seen (λ inside. group inside (parts p (counts_as w ∷ seen))) w) (stop 8)
