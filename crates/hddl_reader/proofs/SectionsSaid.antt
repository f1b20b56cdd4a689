-- Sections are answered as the grammar says.
use Rattle.std.proofs.Common.{◌≡◌, ℕ, Bool, true, false, ◌||◌, ◌++◌, if◌then◌else◌, Result, Ok, Err, Option, Some, None, List, [], ◌∷◌, codes, refl, sym, ◌∙◌, ap}
use Rattle.std.specs.Str.{bytes_eq}
use Rattle.std.proofs.lemmas.Slice.Eq.{bytes_eq-Decides}
use Rattle.text_forms.specs.Placed.{Placed, cut, close, word, list}
use Rattle.text_forms.specs.Words.{Word, is_among, is_name}
use Rattle.text_forms.specs.form_grammar.Effects as effects
use Rattle.text_forms.specs.form_grammar.Formulas.{gd}
use Rattle.text_forms.specs.form_grammar.Lists as due
use Rattle.text_forms.specs.form_grammar.Rows.{go, if_allowed, form, front}
use Rattle.text_forms.specs.form_grammar.Sections.{SectionDue, of_effect, of_terms_due, typed, group, section_rows, section_table, has_sections, seen_behind}
use Rattle.text_forms.specs.form_grammar.Sections as grammar
use Rattle.text_forms.specs.form_grammar.Words.{Table, entry, by_keyword, used}
use Rattle.gd_reader.specs.declared.stop.Stop.{Stop}
use Rattle.gd_reader.specs.declared.stop.Stop.TheVariants.{Departs}
use Rattle.gd_reader.specs.declared.term.RawAtom.{RawAtom}
use Rattle.gd_reader.specs.declared.typed_lists.ListKind.TheVariants as list_kind
use Rattle.gd_reader.specs.declared.words.Sort.{Sort}
use Rattle.gd_reader.specs.declared.words.Sort.TheVariants as sort
use Rattle.gd_reader.specs.Answers.{◌>>=◌, word_due, list_due, end_due, passed}
use Rattle.gd_reader.specs.Formulas.{inside}
use Rattle.gd_reader.specs.TermGrammar.{is_name_sort}
use Rattle.gd_reader.specs.Terms.{Names}
use Rattle.gd_reader.specs.Terms as read
use Rattle.gd_reader.specs.TypedLists.{listed}
use Rattle.gd_reader.specs.Words.{sort_of}
use Rattle.hddl_reader.specs.Said.{said}
use Rattle.hddl_reader.proofs.TermsSaid.{said_then, said_map, at_next, end_said, ends_said, passed_said, used_then}
use Rattle.gd_reader.proofs.Sorts.{name_test}
use Rattle.hddl_reader.specs.declared.parts.Parted.{Parted}
use Rattle.hddl_reader.specs.declared.parts.Parted.TheVariants as parted
use Rattle.hddl_reader.specs.declared.sections.Definition.{Definition}
use Rattle.hddl_reader.specs.declared.sections.Definition.TheVariants as definition
use Rattle.hddl_reader.specs.declared.sections.Language.{Language}
use Rattle.hddl_reader.specs.declared.sections.Language.TheVariants as language
use Rattle.hddl_reader.specs.declared.raw_sections.RawSections.{RawSections}
use Rattle.hddl_reader.specs.declared.sections.Section.{Section}
use Rattle.hddl_reader.specs.declared.sections.Section.TheVariants as section
use Rattle.hddl_reader.specs.Networks.{is_word, one_of, all_of}
use Rattle.hddl_reader.specs.Parts.{no_parts, is_there, keyword_by, parts}
use Rattle.hddl_reader.specs.Sections.{plain_table, hierarchy_table, section_of, no_sections, has_section, words, name_by, dropped_name, predicate_headed, used_names, assignment, fact, facts, named_parts, goal, section_read, section_inside, sections, may_end}
use Rattle.hddl_reader.specs.Definitions.{language_of, kind_of as definition_of}
use Rattle.hddl_reader.proofs.Answers.{said_behind, declared_then}
use Rattle.hddl_reader.proofs.PartsSaid.{terms_of_section, typed_said, formula_said, parts_said, parted_of, built, by_end}
use Rattle.hddl_reader.proofs.Standing.{valued, AreKeyed, keyword_then, lookup, put, has_key, lookup_put}

words_said : (p : Placed) → said (words p) ≡ form due.term_rows due.words p
unfolding words
words_said cut = refl
words_said (close at) = refl
words_said (word at w p) = words_said p
words_said (list at p q) = refl

dropped_said : (p : Placed) → said (dropped_name p) ≡ form section_rows grammar.domain_name p
unfolding dropped_name word_due
dropped_said cut = refl
dropped_said (close at) = refl
dropped_said (list at p q) = refl
dropped_said (word at w p) = by_sort (sort_of w) ∙ ap (λ b. at_next section_rows (if_allowed b 8 (of_terms_due due.ended)) at p) (name_test w)
  where
    by_sort : (s : Sort) → said (name_by s at >>= (λ _. end_due p)) ≡ at_next section_rows (if_allowed (is_name_sort s) 8 (of_terms_due due.ended)) at p
    by_sort sort.Name = ends_said p ∙ sym (terms_of_section due.ended p)
    by_sort sort.Variable = refl
    by_sort sort.Other = refl

predicate_said : (p : Placed) (names : Names) (place : ℕ) → said (one_of predicate_headed names place p) ≡ form section_rows grammar.predicate p
unfolding predicate_headed word_due
predicate_said cut names place = refl
predicate_said (close at) names place = refl
predicate_said (list at p q) names place = refl
predicate_said (word at w p) names place = declared_then section_rows 8 names at w _ (typed due.of_predicate) p (λ h. said_map (listed list_kind.Predicate h.1 p) _ ∙ typed_said list_kind.Predicate p h.1)

predicates_said : (p : Placed) (names : Names) → said (all_of predicate_headed names p) ≡ form section_rows grammar.predicates p
predicates_said cut names = refl
predicates_said (close at) names = refl
predicates_said (word at w p) names = refl
predicates_said (list at p q) names = said_then (one_of predicate_headed names at p) _ _ _ (predicate_said p names at) (λ x. said_map (all_of predicate_headed x.1 q) _ ∙ predicates_said q x.1)

used_said : (p : Placed) (names : Names) → said (used_names names p) ≡ form section_rows grammar.objects_of_fact p
unfolding used_names
used_said cut names = refl
used_said (close at) names = refl
used_said (list at p q) names = refl
used_said (word at w p) names = used_then section_rows names at w _ grammar.objects_of_fact p (λ x. said_map (used_names x.1 p) _ ∙ used_said p x.1)

value_said : (p : Placed) → said (word_due p >>= (λ v. end_due v.2)) ≡ form section_rows grammar.value p
unfolding word_due
value_said cut = refl
value_said (close at) = refl
value_said (list at p q) = refl
value_said (word at w p) = ends_said p ∙ sym (terms_of_section due.ended p)

assignment_said : (p : Placed) → said (assignment p) ≡ form section_rows (group (of_terms_due due.anything) grammar.value) p
unfolding assignment list_due
assignment_said cut = refl
assignment_said (close at) = refl
assignment_said (word at w p) = refl
assignment_said (list at p q) = said_then (passed p) _ _ _ (passed_said p ∙ sym (terms_of_section due.anything p)) (λ x. value_said q)

fact_said : (p : Placed) (names : Names) → said (fact names p) ≡ form section_rows grammar.fact p
unfolding fact word_due
fact_said cut names = refl
fact_said (close at) names = refl
fact_said (list at p q) names = refl
fact_said (word at w p) names = by_test (is_word (codes "=") w)
  where
    by_test : (b : Bool) → said {A = Option RawAtom × Names} (if b then assignment p >>= (λ _. Ok (None, names)) else read.used names at w >>= (λ h. used_names h.1 p >>= (λ xs. Ok (Some (record { head = h.0; args = xs.0 }), xs.1))))
        ≡ at_next section_rows (elim (if b then Some (group (of_terms_due due.anything) grammar.value) else None) [ None ↦ used is_name grammar.objects_of_fact w | Some x ↦ go x ]) at p
    by_test true = said_map (assignment p) _ ∙ assignment_said p
    by_test false = used_then section_rows names at w _ grammar.objects_of_fact p (λ x. said_map (used_names x.1 p) _ ∙ used_said p x.1)

facts_said : (p : Placed) (names : Names) → said (facts names p) ≡ form section_rows grammar.facts p
unfolding facts
facts_said cut names = refl
facts_said (close at) names = refl
facts_said (word at w p) names = refl
facts_said (list at p q) names = said_then (fact names p) _ _ _ (fact_said p names) (λ x. said_map (facts x.1 q) _ ∙ facts_said q x.1)

named_said : (kind : Parted) (p : Placed) (names : Names) → said (named_parts kind names p) ≡ form section_rows (grammar.named (parted_of kind)) p
unfolding named_parts word_due
named_said kind cut names = refl
named_said kind (close at) names = refl
named_said kind (list at p q) names = refl
named_said kind (word at w p) names = declared_then section_rows 8 names at w _ (grammar.parts (parted_of kind) []) p (λ h. said_map (parts kind no_parts h.1 p) _ ∙ parts_said kind p h.1)

goal_said : (p : Placed) (names : Names) → said (goal names p) ≡ form section_rows (group (of_effect (effects.of_formula gd)) (of_terms_due due.ended)) p
unfolding goal list_due
goal_said cut names = refl
goal_said (close at) names = refl
goal_said (word at w p) names = refl
goal_said (list at p q) names = said_then (inside names p) _ _ _ (formula_said p names) (λ f. end_said q f ∙ sym (terms_of_section due.ended q))

-- what is due behind a section's keyword
abbrev pub due_of : Section → SectionDue
due_of section.Requirements = of_terms_due due.words
due_of section.Types = typed due.types
due_of section.Constants = typed due.objects
due_of section.Predicates = grammar.predicates
due_of section.Functions = of_terms_due due.anything
due_of section.Task = grammar.named grammar.task
due_of section.Method = grammar.named grammar.method
due_of section.Action = grammar.named grammar.action
due_of section.Domain = grammar.domain_name
due_of section.Objects = typed due.objects
due_of section.Network = grammar.parts grammar.network []
due_of section.Init = grammar.facts
due_of section.Goal = group (of_effect (effects.of_formula gd)) (of_terms_due due.ended)
due_of section.Metric = of_terms_due due.anything

section_said : (x : Section) (st : RawSections) (names : Names) (p : Placed) → said (section_read x st names p) ≡ form section_rows (due_of x) p
unfolding section_read
section_said section.Requirements st names p = said_map (words p) _ ∙ words_said p ∙ sym (terms_of_section due.words p)
section_said section.Types st names p = said_map (listed list_kind.Types names p) _ ∙ typed_said list_kind.Types p names
section_said section.Constants st names p = said_map (listed list_kind.Objects names p) _ ∙ typed_said list_kind.Objects p names
section_said section.Predicates st names p = said_map (all_of predicate_headed names p) _ ∙ predicates_said p names
section_said section.Functions st names p = said_map (passed p) _ ∙ passed_said p ∙ sym (terms_of_section due.anything p)
section_said section.Task st names p = said_map (named_parts parted.Task names p) _ ∙ named_said parted.Task p names
section_said section.Method st names p = said_map (named_parts parted.Method names p) _ ∙ named_said parted.Method p names
section_said section.Action st names p = said_map (named_parts parted.Action names p) _ ∙ named_said parted.Action p names
section_said section.Domain st names p = said_map (dropped_name p) _ ∙ dropped_said p
section_said section.Objects st names p = said_map (listed list_kind.Objects names p) _ ∙ typed_said list_kind.Objects p names
section_said section.Network st names p = said_map (parts parted.Network no_parts names p) _ ∙ parts_said parted.Network p names
section_said section.Init st names p = said_map (facts names p) _ ∙ facts_said p names
section_said section.Goal st names p = said_map (goal names p) _ ∙ goal_said p names
section_said section.Metric st names p = said_map (passed p) _ ∙ passed_said p ∙ sym (terms_of_section due.anything p)

abbrev key : Section → Word
key section.Requirements = codes ":requirements"
key section.Types = codes ":types"
key section.Constants = codes ":constants"
key section.Predicates = codes ":predicates"
key section.Functions = codes ":functions"
key section.Task = codes ":task"
key section.Method = codes ":method"
key section.Action = codes ":action"
key section.Domain = codes ":domain"
key section.Objects = codes ":objects"
key section.Network = codes ":htn"
key section.Init = codes ":init"
key section.Goal = codes ":goal"
key section.Metric = codes ":metric"

-- the sections that stand once
abbrev standing : RawSections → Table Bool
standing st =
    (codes ":requirements", st.requirements) ∷
    (codes ":types", is_there st.types) ∷
    (codes ":constants", is_there st.constants) ∷
    (codes ":predicates", is_there st.predicates) ∷
    (codes ":functions", st.functions) ∷
    (codes ":domain", st.domain) ∷
    (codes ":objects", is_there st.objects) ∷
    (codes ":htn", is_there st.network) ∷
    (codes ":init", is_there st.init) ∷
    (codes ":goal", is_there st.goal) ∷
    (codes ":metric", st.metric) ∷
    []

stands_is : (st : RawSections) (x : Section) → has_section st x ≡ lookup (key x) (standing st)
unfolding has_section
stands_is st section.Requirements = refl
stands_is st section.Types = refl
stands_is st section.Constants = refl
stands_is st section.Predicates = refl
stands_is st section.Functions = refl
stands_is st section.Task = refl
stands_is st section.Method = refl
stands_is st section.Action = refl
stands_is st section.Domain = refl
stands_is st section.Objects = refl
stands_is st section.Network = refl
stands_is st section.Init = refl
stands_is st section.Goal = refl
stands_is st section.Metric = refl

-- behind a section the keywords that are seen, and the sections that stand
abbrev repeats : Section → Bool
repeats section.Requirements = false
repeats section.Types = false
repeats section.Constants = false
repeats section.Predicates = false
repeats section.Functions = false
repeats section.Task = true
repeats section.Method = true
repeats section.Action = true
repeats section.Domain = false
repeats section.Objects = false
repeats section.Network = false
repeats section.Init = false
repeats section.Goal = false
repeats section.Metric = false

has_once : (st : RawSections) (x : Section) → repeats x ≡ false → has_key (key x) (standing st) ≡ true
has_once st section.Requirements e = refl
has_once st section.Types e = refl
has_once st section.Constants e = refl
has_once st section.Predicates e = refl
has_once st section.Functions e = refl
has_once st section.Task e = absurd (let f = e in cc)
has_once st section.Method e = absurd (let f = e in cc)
has_once st section.Action e = absurd (let f = e in cc)
has_once st section.Domain e = refl
has_once st section.Objects e = refl
has_once st section.Network e = refl
has_once st section.Init e = refl
has_once st section.Goal e = refl
has_once st section.Metric e = refl

abbrev put_if : Bool → Word → Table Bool → Table Bool
put_if true k table = table
put_if false k table = put k table

section_put : (x : Section) (st : RawSections) (names : Names) (p : Placed) (r : RawSections × Names) → section_read x st names p ≡ Ok r → standing r.0 ≡ put_if (repeats x) (key x) (standing st)
unfolding section_read
section_put section.Requirements st names p r e = ap (λ (r : RawSections × Names). standing r.0) (sym (built (words p) _ r e).1)
section_put section.Types st names p r e = ap (λ (r : RawSections × Names). standing r.0) (sym (built (listed list_kind.Types names p) _ r e).1)
section_put section.Constants st names p r e = ap (λ (r : RawSections × Names). standing r.0) (sym (built (listed list_kind.Objects names p) _ r e).1)
section_put section.Predicates st names p r e = ap (λ (r : RawSections × Names). standing r.0) (sym (built (all_of predicate_headed names p) _ r e).1)
section_put section.Functions st names p r e = ap (λ (r : RawSections × Names). standing r.0) (sym (built (passed p) _ r e).1)
section_put section.Task st names p r e = ap (λ (r : RawSections × Names). standing r.0) (sym (built (named_parts parted.Task names p) _ r e).1)
section_put section.Method st names p r e = ap (λ (r : RawSections × Names). standing r.0) (sym (built (named_parts parted.Method names p) _ r e).1)
section_put section.Action st names p r e = ap (λ (r : RawSections × Names). standing r.0) (sym (built (named_parts parted.Action names p) _ r e).1)
section_put section.Domain st names p r e = ap (λ (r : RawSections × Names). standing r.0) (sym (built (dropped_name p) _ r e).1)
section_put section.Objects st names p r e = ap (λ (r : RawSections × Names). standing r.0) (sym (built (listed list_kind.Objects names p) _ r e).1)
section_put section.Network st names p r e = ap (λ (r : RawSections × Names). standing r.0) (sym (built (parts parted.Network no_parts names p) _ r e).1)
section_put section.Init st names p r e = ap (λ (r : RawSections × Names). standing r.0) (sym (built (facts names p) _ r e).1)
section_put section.Goal st names p r e = ap (λ (r : RawSections × Names). standing r.0) (sym (built (goal names p) _ r e).1)
section_put section.Metric st names p r e = ap (λ (r : RawSections × Names). standing r.0) (sym (built (passed p) _ r e).1)

seen_is : (x : Section) (seen : List Word) → seen_behind seen (Some (key x)) ≡ (if repeats x then seen else key x ∷ seen)
seen_is section.Requirements seen = refl
seen_is section.Types seen = refl
seen_is section.Constants seen = refl
seen_is section.Predicates seen = refl
seen_is section.Functions seen = refl
seen_is section.Task seen = refl
seen_is section.Method seen = refl
seen_is section.Action seen = refl
seen_is section.Domain seen = refl
seen_is section.Objects seen = refl
seen_is section.Network seen = refl
seen_is section.Init seen = refl
seen_is section.Goal seen = refl
seen_is section.Metric seen = refl

-- what stands is what was seen
abbrev Fits : RawSections → List Word → Type 0
Fits st seen = (x : Section) → is_among (key x) seen ≡ has_section st x

fits_none : Fits no_sections []
unfolding has_section
fits_none section.Requirements = refl
fits_none section.Types = refl
fits_none section.Constants = refl
fits_none section.Predicates = refl
fits_none section.Functions = refl
fits_none section.Task = refl
fits_none section.Method = refl
fits_none section.Action = refl
fits_none section.Domain = refl
fits_none section.Objects = refl
fits_none section.Network = refl
fits_none section.Init = refl
fits_none section.Goal = refl
fits_none section.Metric = refl

fits_put : (x : Section) (st : RawSections) (names : Names) (p : Placed) (r : RawSections × Names) (seen : List Word) → section_read x st names p ≡ Ok r → Fits st seen → Fits r.0 (seen_behind seen (Some (key x)))
fits_put x st names p r seen e fits y = ap (is_among (key y)) (seen_is x seen) ∙ by_test (repeats x) refl (section_put x st names p r e)
  where
    by_test : (b : Bool) → repeats x ≡ b → standing r.0 ≡ put_if b (key x) (standing st) → is_among (key y) (if b then seen else key x ∷ seen) ≡ has_section r.0 y
    by_test true f g = fits y ∙ stands_is st y ∙ sym (stands_is r.0 y ∙ ap (lookup (key y)) g)
    by_test false f g =
        ap (λ b. bytes_eq (key y) (key x) || b) (fits y ∙ stands_is st y)
        ∙ sym (lookup_put (key x) (key y) (standing st) (has_once st x f))
        ∙ sym (stands_is r.0 y ∙ ap (lookup (key y)) g)

same_table : (l : Language) (d : Definition) → section_table (language_of l) (definition_of d) ≡ valued due_of (plain_table d ++ hierarchy_table l d)
same_table language.Hddl definition.Domain = refl
same_table language.Hddl definition.Problem = refl
same_table language.Pddl definition.Domain = refl
same_table language.Pddl definition.Problem = refl

are_keyed : (l : Language) (d : Definition) → AreKeyed key (plain_table d ++ hierarchy_table l d)
are_keyed language.Hddl definition.Domain = (refl, (refl, (refl, (refl, (refl, (refl, (refl, (refl, tt))))))))
are_keyed language.Hddl definition.Problem = (refl, (refl, (refl, (refl, (refl, (refl, (refl, tt)))))))
are_keyed language.Pddl definition.Domain = (refl, (refl, (refl, (refl, (refl, (refl, tt))))))
are_keyed language.Pddl definition.Problem = (refl, (refl, (refl, (refl, (refl, (refl, tt))))))

-- a word of the table is its key
abbrev AreKeys : Table Section → Type 0
AreKeys [] = Unit {0}
AreKeys (e ∷ table) = (e.0 ≡ key e.1) × AreKeys table

are_keys : (l : Language) (d : Definition) → AreKeys (plain_table d ++ hierarchy_table l d)
are_keys language.Hddl definition.Domain = (refl, (refl, (refl, (refl, (refl, (refl, (refl, (refl, tt))))))))
are_keys language.Hddl definition.Problem = (refl, (refl, (refl, (refl, (refl, (refl, (refl, tt)))))))
are_keys language.Pddl definition.Domain = (refl, (refl, (refl, (refl, (refl, (refl, tt))))))
are_keys language.Pddl definition.Problem = (refl, (refl, (refl, (refl, (refl, (refl, tt))))))

key_is : (table : Table Section) → AreKeys table → (w : Word) (x : Section) → entry table w ≡ Some x → w ≡ key x
key_is [] k w x e = let f = e in cc
key_is (y ∷ table) k w x e = by_test (key_is table k.1 w x) (bytes_eq w y.0) refl e
  where
    by_test : (entry table w ≡ Some x → w ≡ key x) → (b : Bool) → bytes_eq w y.0 ≡ b → ◌≡◌ {A = Option Section} (if b then Some y.1 else entry table w) (Some x) → w ≡ key x
    by_test r true f g = (bytes_eq-Decides w y.0).0 f ∙ k.0 ∙ ap key (let h = g in cc)
    by_test r false f g = r g

same_end : (l : Language) (d : Definition) (st : RawSections) (seen : List Word) → Fits st seen → has_sections (language_of l) (definition_of d) seen ≡ may_end l d st
unfolding may_end has_section
same_end language.Hddl definition.Domain st seen fits = refl
same_end language.Pddl definition.Domain st seen fits = refl
same_end language.Hddl definition.Problem st seen fits = fits section.Network
same_end language.Pddl definition.Problem st seen fits = refl

inside_said : (p : Placed) (l : Language) (d : Definition) (st : RawSections) (names : Names) (seen : List Word) → Fits st seen
    → said (section_inside l d st names p) ≡ form section_rows (grammar.section (language_of l) (definition_of d) seen) p
unfolding section_inside word_due section_of
inside_said cut l d st names seen fits = refl
inside_said (close at) l d st names seen fits = refl
inside_said (list at p q) l d st names seen fits = refl
inside_said (word at w p) l d st names seen fits =
    keyword_then section_rows due_of key (plain_table d ++ hierarchy_table l d) (has_section st) seen (λ x. x) at w (λ x. section_read x st names p) p (are_keyed l d) fits (λ x e. section_said x st names p)
    ∙ ap (λ t. at_next section_rows (by_keyword t seen (λ x. x) w) at p) (sym (same_table l d))

-- a section that is read, by its keyword
kept : {A B : Type 0} (a : Result A Stop) (f : A → Result B Stop) (r : B) → a >>= f ≡ Ok r → (x : A) × (a ≡ Ok x) × (f x ≡ Ok r)
kept (Ok x) f r e = (x, refl, e)
kept (Err s) f r e = let g = e in cc

keyword_kept : (o : Option Section) (stands : Section → Bool) (at : ℕ) (w : Word) (x : Section) → keyword_by o stands at w ≡ Ok x → o ≡ Some x
keyword_kept None stands at w x e = let g = e in cc
keyword_kept (Some y) stands at w x e = by_test (stands y) e
  where
    by_test : (b : Bool) → ◌≡◌ {A = Result Section Stop} (if b then Err (Departs 7 at) else Ok y) (Ok x) → Some y ≡ Some x
    by_test true e = let g = e in cc
    by_test false e = let g = e in cc

fits_inside : (p : Placed) (l : Language) (d : Definition) (st : RawSections) (names : Names) (r : RawSections × Names) (seen : List Word) → section_inside l d st names p ≡ Ok r → Fits st seen → Fits r.0 (seen_behind seen (front p))
unfolding section_inside word_due section_of
fits_inside cut l d st names r seen e fits = let g = e in cc
fits_inside (close at) l d st names r seen e fits = let g = e in cc
fits_inside (list at p q) l d st names r seen e fits = let g = e in cc
fits_inside (word at w p) l d st names r seen e fits = by_section (kept (keyword_by (entry (plain_table d ++ hierarchy_table l d) w) (has_section st) at w) (λ x. section_read x st names p) r e)
  where
    by_section : ((x : Section) × (keyword_by (entry (plain_table d ++ hierarchy_table l d) w) (has_section st) at w ≡ Ok x) × (section_read x st names p ≡ Ok r)) → Fits r.0 (seen_behind seen (Some w))
    by_section s y =
        ap (λ v. is_among (key y) (seen_behind seen (Some v))) (key_is (plain_table d ++ hierarchy_table l d) (are_keys l d) w s.0 (keyword_kept (entry (plain_table d ++ hierarchy_table l d) w) (has_section st) at w s.0 s.1))
        ∙ fits_put s.0 st names p r seen s.2 fits y

pub sections_said_from : (p : Placed) (l : Language) (d : Definition) (st : RawSections) (names : Names) (seen : List Word) → Fits st seen
    → said (sections l d st names p) ≡ form section_rows (grammar.sections (language_of l) (definition_of d) seen) p
unfolding sections
sections_said_from cut l d st names seen fits = refl
sections_said_from (close at) l d st names seen fits = by_end (may_end l d st) (has_sections (language_of l) (definition_of d) seen) at (st, names) (same_end l d st seen fits)
sections_said_from (word at w p) l d st names seen fits = refl
sections_said_from (list at p q) l d st names seen fits =
    said_behind (section_inside l d st names p) (λ r. sections l d r.0 r.1 q) _ _ (inside_said p l d st names seen fits) (λ r e. sections_said_from q l d r.0 r.1 (seen_behind seen (front p)) (fits_inside p l d st names r seen e fits))

pub sections_said : (l : Language) (d : Definition) (p : Placed) (names : Names) → said (sections l d no_sections names p) ≡ form section_rows (grammar.sections (language_of l) (definition_of d) []) p
sections_said l d p names = sections_said_from p l d no_sections names [] fits_none
