-- The unions and the words of types of the sections that were read are those that the sections write.
use Rattle.std.proofs.Common.{◌≡◌, ◌∙◌, ℕ, suc, Bool, true, false, if◌then◌else◌, cond, codes, Ok, Err, Result, Option, Some, List, [], ◌∷◌, ◌++◌, refl, sym, ap, subst, arith}
use Rattle.std.specs.List.{flat_map}
use Rattle.std.specs.Option.{is_some}
use Rattle.std.specs.Str.{bytes_eq}
use Rattle.text_forms.specs.Lists.{Parts}
use Rattle.text_forms.specs.Placed.{Placed, cut, close, word, list, parts_of}
use Rattle.text_forms.specs.Words.{Word}
use Rattle.plan_texts.specs.FirstSeen.{type_words_in}
use Rattle.plan_texts.specs.Sections.{section, parts_in}
use Rattle.plan_texts.specs.Types.{EachIs}
use Rattle.gd_reader.specs.declared.formulas.RawFormula.{RawFormula}
use Rattle.gd_reader.specs.declared.stop.Stop.{Stop}
use Rattle.gd_reader.specs.declared.stop.Stop.TheVariants.{Departs}
use Rattle.gd_reader.specs.declared.typed_lists.ListKind.TheVariants as list_kind
use Rattle.gd_reader.specs.declared.typed_lists.RawParam.{RawParam}
use Rattle.gd_reader.specs.declared.words.Sort.{Sort}
use Rattle.gd_reader.specs.declared.words.Sort.TheVariants as sort
use Rattle.gd_reader.specs.Answers.{◌>>=◌, word_due, end_due, passed}
use Rattle.gd_reader.specs.Terms.{Names}
use Rattle.gd_reader.specs.TypedLists.{listed}
use Rattle.gd_reader.specs.Words.{sort_of}
use Rattle.gd_reader.proofs.Keeping.{keeps_same}
use Rattle.hddl_reader.specs.declared.parts.Parted.TheVariants as parted
use Rattle.hddl_reader.specs.declared.parts.RawParts.{RawParts}
use Rattle.hddl_reader.specs.declared.sections.Definition.{Definition}
use Rattle.hddl_reader.specs.declared.sections.Definition.TheVariants as definition
use Rattle.hddl_reader.specs.declared.sections.Language.{Language}
use Rattle.hddl_reader.specs.declared.sections.Language.TheVariants as language
use Rattle.hddl_reader.specs.declared.sections.RawAction.{RawAction}
use Rattle.hddl_reader.specs.declared.sections.RawHead.{RawHead}
use Rattle.hddl_reader.specs.declared.sections.RawMethod.{RawMethod}
use Rattle.hddl_reader.specs.declared.raw_sections.RawSections.{RawSections}
use Rattle.hddl_reader.specs.declared.sections.Section.{Section}
use Rattle.hddl_reader.specs.declared.sections.Section.TheVariants as section
use Rattle.hddl_reader.specs.Networks.{all_of}
use Rattle.hddl_reader.specs.Parts.{no_parts, parts}
use Rattle.hddl_reader.specs.Sections.{plain_table, hierarchy_table, section_of, has_section, or_none, head_of, action_of, method_of, with_kept, words, name_by, dropped_name, predicate_headed, facts, named_parts, goal, section_read, may_end, section_inside, sections}
use Rattle.text_values.specs.form_spellings.Written.{Written, Union, all_written, type_words, params_unions, formula_unions, head_unions, method_unions, action_unions}
use Rattle.text_values.proofs.form_spellings.KeptWords.{Reads, reads_then, reads_map, reads_weaken}
use Rattle.text_values.proofs.form_spellings.ReadFields.{FieldIs, StepIs, field_ends, field_step, table_has, keyed}
use Rattle.text_values.proofs.form_spellings.TermsExact.{reads_both}
use Rattle.text_values.proofs.form_spellings.TermsIn.{same}
use Rattle.text_values.proofs.form_spellings.WordTests.{false_true}
use Rattle.text_values.proofs.form_spellings.order.Climbs.{Climbs, climbs_from, climbs_to}
use Rattle.text_values.proofs.form_spellings.order.Spans.{Span, fits}
use Rattle.text_values.proofs.form_spellings.seen.Adding.{Same, same_refl, Adds, adds_none, adds_front, adds_back, adds_same, adds_then, in_option, fills, grows}
use Rattle.text_values.proofs.form_spellings.seen.Erased.{unions_at, inside_at}
use Rattle.text_values.proofs.form_spellings.seen.Formulas.{FormulaSeen}
use Rattle.text_values.proofs.form_spellings.seen.Heads.{network_unions, TaskSeen, task_seen, ActionSeen, action_seen, MethodSeen, method_seen, HeadsSeen, predicates_seen, facts_none, goal_seen}
use Rattle.text_values.proofs.form_spellings.seen.Lists.{listed_none}
use Rattle.text_values.proofs.form_spellings.seen.Parts.{PartsAdd, parts_seen, all_parts}
use Rattle.text_values.proofs.form_spellings.seen.Terms.{NoUnions}
use Rattle.text_values.proofs.form_spellings.seen.TypeWords.{words_at, words_erased, word_place, words_climb, WordsSeen, type_words_seen}

-- The words of the section of types.
abbrev heads_types : Placed → Bool
heads_types cut = false
heads_types (close at) = false
heads_types (list at p q) = false
heads_types (word at w p) = bytes_eq (codes ":types") w

abbrev behind_first : Placed → List (Written Word)
behind_first cut = []
behind_first (close at) = []
behind_first (list at p q) = words_at q
behind_first (word at w p) = words_at p

abbrev pub section_words : Placed → List (Written Word)
section_words cut = []
section_words (close at) = []
section_words (word at w p) = section_words p
section_words (list at p q) = cond (heads_types p) (behind_first p) (section_words q)

abbrev type_parts_of : Parts → Parts
type_parts_of ps = parts_in (section (codes ":types") ps)

pub section_words_erased : (p : Placed) → all_written (section_words p) ≡ type_words_in (type_parts_of (parts_of p))
section_words_erased cut = refl
section_words_erased (close at) = refl
section_words_erased (word at w p) = section_words_erased p
section_words_erased (list at cut q) = section_words_erased q
section_words_erased (list at (close b) q) = section_words_erased q
section_words_erased (list at (list b p r) q) = section_words_erased q
section_words_erased (list at (word b w p) q) = go (bytes_eq (codes ":types") w) (section_words_erased q)
  where
    go : (c : Bool) → all_written (section_words q) ≡ type_words_in (type_parts_of (parts_of q))
        → all_written (cond c (words_at p) (section_words q)) ≡ type_words_in (parts_in (cond c (Some (parts_of p)) (section (codes ":types") (parts_of q))))
    go true e = words_erased p
    go false e = e

pub section_words_climb : (p : Placed) (from to : ℕ) → Span from p to → Climbs word_place from (section_words p) to
section_words_climb cut from to s = s
section_words_climb (close at) from to s = fits (close at) from to s
section_words_climb (word at w p) from to s = let a = s.0 in climbs_from word_place (section_words p) from (suc at) to (omega arith) (section_words_climb p (suc at) to s.1)
section_words_climb (list at p q) from to s = go (heads_types p) (section_words_climb q s.1 to s.3)
  where
    inside : (p : Placed) (from to : ℕ) → Span from p to → Climbs word_place from (behind_first p) to
    inside cut from to s = s
    inside (close at) from to s = fits (close at) from to s
    inside (list at p q) from to s = let a = s.0 in let b = fits p (suc at) s.1 s.2 in climbs_from word_place (words_at q) from s.1 to (omega arith) (words_climb q s.1 to s.3)
    inside (word at w p) from to s = let a = s.0 in climbs_from word_place (words_at p) from (suc at) to (omega arith) (words_climb p (suc at) to s.1)

    go : (b : Bool) → Climbs word_place s.1 (section_words q) to → Climbs word_place from (cond b (behind_first p) (section_words q)) to
    go true c = let a = s.0 in let l = fits q s.1 to s.3 in climbs_to word_place (behind_first p) from s.1 to l (climbs_from word_place (behind_first p) from (suc at) s.1 (omega arith) (inside p (suc at) s.1 s.2))
    go false c = let a = s.0 in let l = fits p (suc at) s.1 s.2 in climbs_from word_place (section_words q) from s.1 to (omega arith) c

-- Which sections a domain and a problem have.
abbrev is_domain : Definition → Bool
is_domain definition.Domain = true
is_domain definition.Problem = false

abbrev is_problem : Definition → Bool
is_problem definition.Domain = false
is_problem definition.Problem = true

abbrev key_of : Section → Word
key_of section.Requirements = codes ":requirements"
key_of section.Types = codes ":types"
key_of section.Constants = codes ":constants"
key_of section.Predicates = codes ":predicates"
key_of section.Functions = codes ":functions"
key_of section.Task = codes ":task"
key_of section.Method = codes ":method"
key_of section.Action = codes ":action"
key_of section.Domain = codes ":domain"
key_of section.Objects = codes ":objects"
key_of section.Network = codes ":htn"
key_of section.Init = codes ":init"
key_of section.Goal = codes ":goal"
key_of section.Metric = codes ":metric"

abbrev may_be : Definition → Section → Bool
may_be d section.Requirements = true
may_be d section.Types = true
may_be d section.Constants = true
may_be d section.Predicates = is_domain d
may_be d section.Functions = true
may_be d section.Task = is_domain d
may_be d section.Method = is_domain d
may_be d section.Action = is_domain d
may_be d section.Domain = true
may_be d section.Objects = true
may_be d section.Network = is_problem d
may_be d section.Init = true
may_be d section.Goal = is_problem d
may_be d section.Metric = true

abbrev is_types : Section → Bool
is_types section.Requirements = false
is_types section.Types = true
is_types section.Constants = false
is_types section.Predicates = false
is_types section.Functions = false
is_types section.Task = false
is_types section.Method = false
is_types section.Action = false
is_types section.Domain = false
is_types section.Objects = false
is_types section.Network = false
is_types section.Init = false
is_types section.Goal = false
is_types section.Metric = false

abbrev IsKeyed : Definition → Word → Section → Type 0
IsKeyed d w x = (w ≡ key_of x) × (may_be d x ≡ true) × (bytes_eq (codes ":types") w ≡ is_types x)

key_is : (l : Language) (d : Definition) (w : Word) (x : Section) → section_of l d w ≡ Some x → IsKeyed d w x
unfolding section_of
key_is l d w x e = table_has (IsKeyed d) (plain_table d ++ hierarchy_table l d) w x (all l d) e
  where
    all : (l : Language) (d : Definition) → EachIs (λ (t : Word × Section). IsKeyed d t.0 t.1) (plain_table d ++ hierarchy_table l d)
    all language.Hddl definition.Domain = ((refl, refl, refl), ((refl, refl, refl), ((refl, refl, refl), ((refl, refl, refl), ((refl, refl, refl), ((refl, refl, refl), ((refl, refl, refl), ((refl, refl, refl), tt))))))))
    all language.Hddl definition.Problem = ((refl, refl, refl), ((refl, refl, refl), ((refl, refl, refl), ((refl, refl, refl), ((refl, refl, refl), ((refl, refl, refl), ((refl, refl, refl), tt)))))))
    all language.Pddl definition.Domain = ((refl, refl, refl), ((refl, refl, refl), ((refl, refl, refl), ((refl, refl, refl), ((refl, refl, refl), ((refl, refl, refl), tt))))))
    all language.Pddl definition.Problem = ((refl, refl, refl), ((refl, refl, refl), ((refl, refl, refl), ((refl, refl, refl), ((refl, refl, refl), ((refl, refl, refl), tt))))))

module _ (table : Names) where
  abbrev predicates_in : RawSections → List Union
  predicates_in st = in_option (flat_map (head_unions table)) st.predicates

  abbrev tasks_in : RawSections → List Union
  tasks_in st = flat_map (head_unions table) st.tasks

  abbrev actions_in : RawSections → List Union
  actions_in st = flat_map (action_unions table) st.actions

  abbrev methods_in : RawSections → List Union
  methods_in st = flat_map (method_unions table) st.methods

  abbrev pub network_in : RawParts → List Union
  network_in y = params_unions table (or_none y.params)

  abbrev pub sections_unions : Definition → RawSections → List Union
  sections_unions definition.Domain st = predicates_in st ++ (tasks_in st ++ (actions_in st ++ methods_in st))
  sections_unions definition.Problem st = in_option network_in st.network ++ in_option (formula_unions table) st.goal

-- A section is put to those in front of it: its unions are added, and its types, if it is that of types.
abbrev Stepped : Definition → Section → RawSections → List Union → Placed → RawSections → Names → Type 0
Stepped d x st us p r table = has_section st x ≡ false → Adds (sections_unions table d st) (sections_unions table d r) us × StepIs (λ xs. WordsSeen p xs table) (is_types x) st.types r.types

unchanged : (d : Definition) (st r : RawSections) (us : List Union) (table : Names) → us ≡ [] → sections_unions table definition.Domain st ≡ sections_unions table definition.Domain r → sections_unions table definition.Problem st ≡ sections_unions table definition.Problem r
    → Adds (sections_unions table d st) (sections_unions table d r) us
unchanged d st r us table e f g = subst (Adds (sections_unions table d st) (sections_unions table d r)) (sym e) (subst (λ vs. Adds (sections_unions table d st) vs []) (both d) (adds_none (sections_unions table d st)))
  where
    both : (d : Definition) → sections_unions table d st ≡ sections_unions table d r
    both definition.Domain = f
    both definition.Problem = g

in_domain : (d : Definition) (st r : RawSections) (us : List Union) (table : Names) → is_domain d ≡ true → Adds (sections_unions table definition.Domain st) (sections_unions table definition.Domain r) us → Adds (sections_unions table d st) (sections_unions table d r) us
in_domain definition.Domain st r us table e a = a
in_domain definition.Problem st r us table e a = false_true e

in_problem : (d : Definition) (st r : RawSections) (us : List Union) (table : Names) → is_problem d ≡ true → Adds (sections_unions table definition.Problem st) (sections_unions table definition.Problem r) us → Adds (sections_unions table d st) (sections_unions table d r) us
in_problem definition.Domain st r us table e a = false_true e
in_problem definition.Problem st r us table e a = a

module _ (st : RawSections) (us : List Union) (table : Names) where
  put_predicates : (xs : List RawHead) → Same (flat_map (head_unions table) xs) us → is_some st.predicates ≡ false → Adds (sections_unions table definition.Domain st) (sections_unions table definition.Domain (record st { predicates = Some xs })) us
  put_predicates xs is e = adds_front (predicates_in table st) (flat_map (head_unions table) xs) us (tasks_in table st ++ (actions_in table st ++ methods_in table st)) (fills (flat_map (head_unions table)) st.predicates xs us e is)

  put_task : (x : RawHead) → Same (head_unions table x) us → Adds (sections_unions table definition.Domain st) (sections_unions table definition.Domain (record st { tasks = st.tasks ++ x ∷ [] })) us
  put_task x is =
      adds_back (predicates_in table st) (tasks_in table st ++ (actions_in table st ++ methods_in table st)) (flat_map (head_unions table) (st.tasks ++ x ∷ []) ++ (actions_in table st ++ methods_in table st)) us
      (adds_front (tasks_in table st) (flat_map (head_unions table) (st.tasks ++ x ∷ [])) us (actions_in table st ++ methods_in table st)
      (adds_same (tasks_in table st) (flat_map (head_unions table) (st.tasks ++ x ∷ [])) (head_unions table x) us is (grows (head_unions table) st.tasks x)))

  put_action : (x : RawAction) → Same (action_unions table x) us → Adds (sections_unions table definition.Domain st) (sections_unions table definition.Domain (record st { actions = st.actions ++ x ∷ [] })) us
  put_action x is =
      adds_back (predicates_in table st) (tasks_in table st ++ (actions_in table st ++ methods_in table st)) (tasks_in table st ++ (flat_map (action_unions table) (st.actions ++ x ∷ []) ++ methods_in table st)) us
      (adds_back (tasks_in table st) (actions_in table st ++ methods_in table st) (flat_map (action_unions table) (st.actions ++ x ∷ []) ++ methods_in table st) us
      (adds_front (actions_in table st) (flat_map (action_unions table) (st.actions ++ x ∷ [])) us (methods_in table st)
      (adds_same (actions_in table st) (flat_map (action_unions table) (st.actions ++ x ∷ [])) (action_unions table x) us is (grows (action_unions table) st.actions x))))

  put_method : (x : RawMethod) → Same (method_unions table x) us → Adds (sections_unions table definition.Domain st) (sections_unions table definition.Domain (record st { methods = st.methods ++ x ∷ [] })) us
  put_method x is =
      adds_back (predicates_in table st) (tasks_in table st ++ (actions_in table st ++ methods_in table st)) (tasks_in table st ++ (actions_in table st ++ flat_map (method_unions table) (st.methods ++ x ∷ []))) us
      (adds_back (tasks_in table st) (actions_in table st ++ methods_in table st) (actions_in table st ++ flat_map (method_unions table) (st.methods ++ x ∷ [])) us
      (adds_back (actions_in table st) (methods_in table st) (flat_map (method_unions table) (st.methods ++ x ∷ [])) us
      (adds_same (methods_in table st) (flat_map (method_unions table) (st.methods ++ x ∷ [])) (method_unions table x) us is (grows (method_unions table) st.methods x))))

  put_network : (y : RawParts) → Same (network_in table y) us → is_some st.network ≡ false → Adds (sections_unions table definition.Problem st) (sections_unions table definition.Problem (record st { network = Some y })) us
  put_network y is e = adds_front (in_option (network_in table) st.network) (network_in table y) us (in_option (formula_unions table) st.goal) (fills (network_in table) st.network y us e is)

  put_goal : (f : RawFormula) → Same (formula_unions table f) us → is_some st.goal ≡ false → Adds (sections_unions table definition.Problem st) (sections_unions table definition.Problem (record st { goal = Some f })) us
  put_goal f is e = adds_back (in_option (network_in table) st.network) (in_option (formula_unions table) st.goal) (formula_unions table f) us (fills (formula_unions table) st.goal f us e is)

-- Words and a name, of which nothing is kept.
words_none : (p : Placed) (x : Unit {0}) → words p ≡ Ok x → unions_at p ≡ []
unfolding words
words_none cut x e = absurd (cc)
words_none (close at) x e = refl
words_none (word at w p) x e = words_none p x e
words_none (list at p q) x e = absurd (cc)

end_none : (p : Placed) (x : Unit {0}) → end_due p ≡ Ok x → unions_at p ≡ []
unfolding end_due
end_none cut x e = absurd (cc)
end_none (close at) x e = refl
end_none (word at w p) x e = absurd (cc)
end_none (list at p q) x e = absurd (cc)

name_none : (p : Placed) (x : Unit {0}) → dropped_name p ≡ Ok x → unions_at p ≡ []
unfolding dropped_name word_due
name_none cut x e = absurd (cc)
name_none (close at) x e = absurd (cc)
name_none (list at p q) x e = absurd (cc)
name_none (word at w p) x e = go (sort_of w) e
  where
    go : (s : Sort) → name_by s at >>= (λ _. end_due p) ≡ Ok x → unions_at p ≡ []
    go sort.Name e = end_none p x e
    go sort.Variable e = absurd (cc)
    go sort.Other e = absurd (cc)

reads_given : {Y : Type 0} (P : Y → Names → Type 0) (names : Names) (y : Y) (r : Result (Unit {0}) Stop) → ((x : Unit {0}) → r ≡ Ok x → (table : Names) → P y table) → Reads names (r >>= (λ _. Ok (y, names))) P
reads_given P names y (Ok x) h = (keeps_same names, λ table k. h x refl table)
reads_given P names y (Err e) h = tt

module _ (d : Definition) (st : RawSections) (at : ℕ) (w : Word) (p : Placed) where
  abbrev us : List Union
  us = inside_at (word at w p)

  -- behind a keyword
  behind_key : (k : Word) → w ≡ k → us ≡ inside_at (word at k p)
  behind_key k e = ap (λ w. inside_at (word at w p)) e

  section_seen : (x : Section) (names : Names) → w ≡ key_of x → may_be d x ≡ true → Reads names (section_read x st names p) (Stepped d x st us p)
  unfolding section_read has_section
  section_seen section.Requirements names k m = reads_given (Stepped d section.Requirements st us p) names (record st { requirements = true }) (words p)
      (λ x e table f. (unchanged d st (record st { requirements = true }) us table (behind_key (codes ":requirements") k ∙ words_none p x e) refl refl, refl))
  section_seen section.Functions names k m = reads_given (Stepped d section.Functions st us p) names (record st { functions = true }) (passed p)
      (λ x e table f. (unchanged d st (record st { functions = true }) us table (behind_key (codes ":functions") k) refl refl, refl))
  section_seen section.Domain names k m = reads_given (Stepped d section.Domain st us p) names (record st { domain = true }) (dropped_name p)
      (λ x e table f. (unchanged d st (record st { domain = true }) us table (behind_key (codes ":domain") k ∙ name_none p x e) refl refl, refl))
  section_seen section.Metric names k m = reads_given (Stepped d section.Metric st us p) names (record st { metric = true }) (passed p)
      (λ x e table f. (unchanged d st (record st { metric = true }) us table (behind_key (codes ":metric") k) refl refl, refl))
  section_seen section.Types names k m = reads_map (λ xs table. NoUnions p xs table × WordsSeen p xs table) (Stepped d section.Types st us p) names (listed list_kind.Types names p) (λ x. record st { types = Some x })
      (reads_both (NoUnions p) (WordsSeen p) names (listed list_kind.Types names p) (listed_none p list_kind.Types names refl) (type_words_seen p names))
      (λ x table is f. (unchanged d st (record st { types = Some x }) us table (behind_key (codes ":types") k ∙ is.0) refl refl, (f, (x, refl, is.1))))
  section_seen section.Constants names k m = reads_map (NoUnions p) (Stepped d section.Constants st us p) names (listed list_kind.Objects names p) (λ x. record st { constants = Some x }) (listed_none p list_kind.Objects names refl)
      (λ x table is f. (unchanged d st (record st { constants = Some x }) us table (behind_key (codes ":constants") k ∙ is) refl refl, refl))
  section_seen section.Objects names k m = reads_map (NoUnions p) (Stepped d section.Objects st us p) names (listed list_kind.Objects names p) (λ x. record st { objects = Some x }) (listed_none p list_kind.Objects names refl)
      (λ x table is f. (unchanged d st (record st { objects = Some x }) us table (behind_key (codes ":objects") k ∙ is) refl refl, refl))
  section_seen section.Init names k m = reads_map (NoUnions p) (Stepped d section.Init st us p) names (facts names p) (λ x. record st { init = Some x }) (facts_none p names)
      (λ x table is f. (unchanged d st (record st { init = Some x }) us table (behind_key (codes ":init") k ∙ is) refl refl, refl))
  section_seen section.Predicates names k m = reads_map (HeadsSeen p) (Stepped d section.Predicates st us p) names (all_of predicate_headed names p) (λ x. record st { predicates = Some x }) (predicates_seen p names)
      (λ x table is f. (in_domain d st (record st { predicates = Some x }) us table m (put_predicates st us table x (subst (Same (flat_map (head_unions table) x)) (sym (behind_key (codes ":predicates") k)) is) f), refl))
  section_seen section.Task names k m = reads_map (TaskSeen p) (Stepped d section.Task st us p) names (named_parts parted.Task names p) (λ x. record st { tasks = st.tasks ++ head_of x.0 x.1 ∷ [] }) (task_seen p names)
      (λ x table is f. (in_domain d st (record st { tasks = st.tasks ++ head_of x.0 x.1 ∷ [] }) us table m (put_task st us table (head_of x.0 x.1) (subst (Same (head_unions table (head_of x.0 x.1))) (sym (behind_key (codes ":task") k)) is)), refl))
  section_seen section.Action names k m = reads_map (ActionSeen p) (Stepped d section.Action st us p) names (named_parts parted.Action names p) (λ x. record st { actions = st.actions ++ action_of x.0 x.1 ∷ [] }) (action_seen p names)
      (λ x table is f. (in_domain d st (record st { actions = st.actions ++ action_of x.0 x.1 ∷ [] }) us table m (put_action st us table (action_of x.0 x.1) (subst (Same (action_unions table (action_of x.0 x.1))) (sym (behind_key (codes ":action") k)) is)), refl))
  section_seen section.Method names k m = reads_map (MethodSeen p) (Stepped d section.Method st us p) names (named_parts parted.Method names p) (λ x. record st { methods = st.methods ++ with_kept (method_of x.0 x.1) [] }) (method_seen p names)
      (λ x table is f. (
        subst (λ o. Adds (sections_unions table d st) (sections_unions table d (record st { methods = st.methods ++ with_kept o [] })) us) (sym is.1)
            (in_domain d st (record st { methods = st.methods ++ is.0 ∷ [] }) us table m (put_method st us table is.0 (subst (Same (method_unions table is.0)) (sym (behind_key (codes ":method") k)) is.2))),
        refl,
      ))
  section_seen section.Network names k m = reads_map (PartsAdd parted.Network no_parts (unions_at p)) (Stepped d section.Network st us p) names (parts parted.Network no_parts names p) (λ x. record st { network = Some x }) (parts_seen p parted.Network no_parts names)
      (λ x table is f. (in_problem d st (record st { network = Some x }) us table m (put_network st us table x (network x table is) f), refl))
    where
      network : (y : RawParts) (table : Names) → PartsAdd parted.Network no_parts (unions_at p) y table → Same (network_in table y) us
      network y table is = subst (Same (network_in table y)) (sym (behind_key (codes ":htn") k)) (subst (λ vs. Same vs (unions_at p)) (sym (network_unions table y)) (all_parts parted.Network (unions_at p) y table is))
  section_seen section.Goal names k m = reads_map (FormulaSeen (unions_at p)) (Stepped d section.Goal st us p) names (goal names p) (λ x. record st { goal = Some x }) (goal_seen p names)
      (λ x table is f. (in_problem d st (record st { goal = Some x }) us table m (put_goal st us table x (subst (Same (formula_unions table x)) (sym (behind_key (codes ":goal") k)) is) f), refl))

-- The sections y are these, put to those in front of them.
pub record SectionsSeen (d : Definition) (st : RawSections) (p : Placed) (y : RawSections) (table : Names) : Type 0 where
  pub unions : Adds (sections_unions table d st) (sections_unions table d y) (unions_at p)
  pub types : FieldIs (λ o. Same (type_words table (or_none o)) (section_words p)) st.types y.types

-- one section in its parentheses, in front of others
abbrev InFront : Definition → RawSections → Placed → RawSections → Names → Type 0
InFront d st p r table = (at : ℕ) (y : RawSections) (q : Placed) → SectionsSeen d r q y table → SectionsSeen d st (list at p q) y table

in_front : (d : Definition) (x : Section) (st r y : RawSections) (at b : ℕ) (w : Word) (p q : Placed) (table : Names) → bytes_eq (codes ":types") w ≡ is_types x
    → Adds (sections_unions table d st) (sections_unions table d r) (inside_at (word b w p)) → StepIs (λ xs. WordsSeen p xs table) (is_types x) st.types r.types → SectionsSeen d r q y table → SectionsSeen d st (list at (word b w p) q) y table
in_front d x st r y at b w p q table e adds step is = record {
  unions = adds_then (sections_unions table d st) (sections_unions table d r) (sections_unions table d y) (inside_at (word b w p)) (unions_at q) adds is.unions;
  types = field_step (Said (cond (bytes_eq (codes ":types") w) (words_at p) (section_words q))) (Said (section_words q)) (λ xs. WordsSeen p xs table) (is_types x)
      (λ t xs own. subst (λ c. Said (cond c (words_at p) (section_words q)) (Some xs)) (sym (e ∙ t)) own) (λ t o own. subst (λ c. Said (cond c (words_at p) (section_words q)) o) (sym (e ∙ t)) own) st.types r.types y.types step is.types;
}
  where
    Said : List (Written Word) → Option (List RawParam) → Type 0
    Said ws o = Same (type_words table (or_none o)) ws

inside_seen : (p : Placed) (l : Language) (d : Definition) (st : RawSections) (names : Names) → Reads names (section_inside l d st names p) (InFront d st p)
unfolding section_inside word_due
inside_seen cut l d st names = tt
inside_seen (close at) l d st names = tt
inside_seen (list at p q) l d st names = tt
inside_seen (word b w p) l d st names =
    keyed (InFront d st (word b w p)) names (section_of l d w) (has_section st) b w (λ x. section_read x st names p)
    (λ x e f. let k = key_is l d w x e in
    reads_weaken (Stepped d x st (inside_at (word b w p)) p) (InFront d st (word b w p)) names (section_read x st names p) (section_seen d st b w p x names k.0 k.1)
    (λ r table step at y q is. in_front d x st r y at b w p q table k.2 (step f).0 (step f).1 is))

pub sections_seen : (p : Placed) (l : Language) (d : Definition) (st : RawSections) (names : Names) → Reads names (sections l d st names p) (SectionsSeen d st p)
unfolding sections
sections_seen cut l d st names = tt
sections_seen (close at) l d st names = go (may_end l d st)
  where
    go : (b : Bool) → Reads names (if b then Ok (st, names) else Err (Departs 8 at)) (SectionsSeen d st (close at))
    go true = (keeps_same names, λ table k. record { unions = adds_none (sections_unions table d st); types = field_ends (λ o. Same (type_words table (or_none o)) []) (same_refl []) st.types })
    go false = tt
sections_seen (word at w p) l d st names = tt
sections_seen (list at p q) l d st names =
    reads_then same (InFront d st p) (SectionsSeen d st (list at p q)) names (section_inside l d st names p) (λ r. sections l d r.0 r.1 q) (inside_seen p l d st names)
    (λ r. reads_weaken (SectionsSeen d r.0 q) (λ y table. InFront d st p r.0 table → SectionsSeen d st (list at p q) y table) r.1 (sections l d r.0 r.1 q) (sections_seen q l d r.0 r.1) (λ y table is front. front at y q is))
