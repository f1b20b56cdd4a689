-- The sections of a domain and a problem are read in the order of the text.
use Rattle.std.proofs.Common.{ℕ, suc, ◌≤◌, ◌<◌, Bool, true, false, if◌then◌else◌, codes, Ok, Err, Result, List, [], ◌∷◌, ◌++◌, Option, Some, None, IfSome, refl, arith}
use Rattle.text_forms.specs.Placed.{Placed, cut, close, word, list}
use Rattle.plan_texts.specs.Types.{EachIs}
use Rattle.plan_texts.proofs.Places.{each-join}
use Rattle.gd_reader.specs.declared.stop.Stop.{Stop}
use Rattle.gd_reader.specs.declared.stop.Stop.TheVariants.{Departs}
use Rattle.gd_reader.specs.declared.term.RawAtom.{RawAtom}
use Rattle.gd_reader.specs.declared.term.RawTerm.{RawTerm}
use Rattle.gd_reader.specs.declared.typed_lists.ListKind.TheVariants as list_kind
use Rattle.gd_reader.specs.Answers.{◌>>=◌, word_due, list_due, end_due, passed}
use Rattle.gd_reader.specs.Formulas.{inside}
use Rattle.gd_reader.specs.Terms.{Names, used}
use Rattle.gd_reader.specs.TypedLists.{listed}
use Rattle.gd_reader.proofs.Keeping.{keeps_same}
use Rattle.hddl_reader.specs.declared.parts.Parted.{Parted}
use Rattle.hddl_reader.specs.declared.parts.Parted.TheVariants as parted
use Rattle.hddl_reader.specs.declared.parts.RawParts.{RawParts}
use Rattle.hddl_reader.specs.declared.sections.Definition.{Definition}
use Rattle.hddl_reader.specs.declared.sections.Language.{Language}
use Rattle.hddl_reader.specs.declared.sections.RawHead.{RawHead}
use Rattle.hddl_reader.specs.declared.sections.RawMethod.{RawMethod}
use Rattle.hddl_reader.specs.declared.raw_sections.RawSections.{RawSections}
use Rattle.hddl_reader.specs.declared.sections.Section.{Section}
use Rattle.hddl_reader.specs.declared.sections.Section.TheVariants as section
use Rattle.hddl_reader.specs.Networks.{declared, is_word, all_of}
use Rattle.hddl_reader.specs.Parts.{no_parts, keyword_by, parts}
use Rattle.hddl_reader.specs.Sections.{section_of, no_sections, has_section, head_of, network_of, action_of, method_of, with_kept, or_true, words, dropped_name, predicate_headed, used_names, assignment, fact, facts, named_parts, goal, section_read, may_end, section_inside, sections}
use Rattle.text_values.specs.form_spellings.InOrder.{IsPlainName, IsPredicateInOrder, IsHeadInOrder, IsMethodInOrder, IsActionInOrder}
use Rattle.text_values.specs.form_spellings.Rising.{IsAtomInOrder}
use Rattle.text_values.proofs.form_spellings.KeptWords.{Reads, reads_then, reads_map, reads_weaken, reads_by, reads_end}
use Rattle.text_values.proofs.form_spellings.TermsIn.{same}
use Rattle.text_values.proofs.form_spellings.order.Callables.{head_place, action_place, method_place, Apart, one_task, one_action}
use Rattle.text_values.proofs.form_spellings.order.Chains.{HeadedAt, IsWide, Chain, all_of_chain}
use Rattle.text_values.proofs.form_spellings.order.Climbs.{Climbs, climbs_fit, climbs_from, climbs_to, climbs_join, climbs_put, climbs_one}
use Rattle.text_values.proofs.form_spellings.order.Formulas.{FormulaInOrder, AtomInOrder, atom_rises, inside_in_order}
use Rattle.text_values.proofs.form_spellings.order.Lists.{ListInOrder, variables_are, listed_in_order}
use Rattle.text_values.proofs.form_spellings.order.Parts.{Chained, PartsAre, PutTo, none_are, parts_in_order, list_or_none, or_true_in_order, or_nothing_in_order, net_in_order}
use Rattle.text_values.proofs.form_spellings.order.Spans.{Span, fits}
use Rattle.text_values.proofs.form_spellings.order.Terms.{IsReadAs, plain_word, TermsClimb, AtomClimbs, term_place, used_as, declared_as}

-- a predicate
pub record PredicateAt (from to : ℕ) (h : RawHead) (table : Names) : Type 0 where
  pub opens : from ≤ head_place h
  pub closes : head_place h < to
  pub is : IsPredicateInOrder table h

pub predicate_wide : IsWide PredicateAt
predicate_wide before from to x table l is = let a = is.opens in record { opens = omega arith; closes = is.closes; is = is.is }

pub predicate_at : HeadedAt PredicateAt predicate_headed
unfolding predicate_headed
predicate_at names place at w p from to low l m s =
    let f = fits p (suc at) to s in
    reads_then same (IsReadAs at w) (PredicateAt from to) names (declared 8 names at w) (λ h. listed list_kind.Predicate h.1 p >>= (λ xs. Ok (record { name = h.0; params = xs.0 }, xs.1))) (declared_as 8 names at w low)
    (λ h. reads_map (ListInOrder list_kind.Predicate) (λ x table. IsReadAs at w h.0 table → PredicateAt from to x table) h.1 (listed list_kind.Predicate h.1 p) (λ xs. record { name = h.0; params = xs }) (listed_in_order p list_kind.Predicate h.1 (suc at, to, s))
    (λ xs table is one. (let e = one.0 in record { opens = omega arith; closes = omega arith; is = record { name = plain_word at w h.0 table one; params = variables_are table list_kind.Predicate xs refl is } })))

-- facts
names_climb : (p : Placed) (names : Names) (from to : ℕ) → Span from p to → Reads names (used_names names p) (TermsClimb from to)
unfolding used_names
names_climb cut names from to s = tt
names_climb (close at) names from to s = let a = s.0 in let b = s.1 in (keeps_same names, λ table k. omega arith)
names_climb (list at p q) names from to s = tt
names_climb (word at w p) names from to s =
    reads_then same (IsReadAs at w) (TermsClimb from to) names (used names at w) (λ x. used_names x.1 p >>= (λ xs. Ok (x.0 ∷ xs.0, xs.1))) (used_as names at w s.2)
    (λ x. reads_map (TermsClimb (suc at) to) (λ ts table. IsReadAs at w x.0 table → TermsClimb from to ts table) x.1 (used_names x.1 p) (λ ts. x.0 ∷ ts) (names_climb p x.1 (suc at) to s.1)
    (λ ts table is one. climbs_put term_place x.0 ts at from to one.0 s.0 is))

abbrev FactAt : ℕ → ℕ → Option RawAtom → Names → Type 0
FactAt from to o table = IfSome o (λ a. AtomClimbs from to a table)

fact_at : (p : Placed) (names : Names) (from to : ℕ) → Span from p to → Reads names (fact names p) (FactAt from to)
unfolding fact word_due
fact_at cut names from to s = tt
fact_at (close at) names from to s = tt
fact_at (list at p q) names from to s = tt
fact_at (word at w p) names from to s = go (is_word (codes "=") w)
  where
    go : (b : Bool) → Reads names (if b then assignment p >>= (λ _. Ok (None, names)) else used names at w >>= (λ h. used_names h.1 p >>= (λ xs. Ok (Some (record { head = h.0; args = xs.0 }), xs.1)))) (FactAt from to)
    go true = reads_by (FactAt from to) names (assignment p) (λ _. Ok (None, names)) (λ _. (keeps_same names, λ table k. tt))
    go false =
        reads_then same (IsReadAs at w) (FactAt from to) names (used names at w) (λ h. used_names h.1 p >>= (λ xs. Ok (Some (record { head = h.0; args = xs.0 }), xs.1))) (used_as names at w s.2)
        (λ h. reads_map (TermsClimb (suc at) to) (λ o table. IsReadAs at w h.0 table → FactAt from to o table) h.1 (used_names h.1 p) (λ xs. Some (record { head = h.0; args = xs })) (names_climb p h.1 (suc at) to s.1)
        (λ ts table is one. climbs_put term_place h.0 ts at from to one.0 s.0 is))

abbrev pub atom_place : RawAtom → ℕ
atom_place a = a.head.at

abbrev FactsAt : ℕ → ℕ → List RawAtom → Names → Type 0
FactsAt from to xs table = Climbs atom_place from xs to × EachIs IsAtomInOrder xs

kept : (o : Option RawAtom) (xs : List RawAtom) (from middle to : ℕ) (table : Names) → from ≤ middle → FactAt from middle o table → FactsAt middle to xs table → FactsAt from to (with_kept o xs) table
kept None xs from middle to table l one is = (climbs_from atom_place xs from middle to l is.0, is.1)
kept (Some a) xs from middle to table l one is =
    let f = climbs_fit term_place a.args (suc a.head.at) middle one.1 in
    ((one.0, climbs_from atom_place xs (suc (atom_place a)) middle to f is.0), (atom_rises from middle a table one, is.1))

facts_at : (p : Placed) (names : Names) (from to : ℕ) → Span from p to → Reads names (facts names p) (FactsAt from to)
unfolding facts
facts_at cut names from to s = tt
facts_at (close at) names from to s = let a = s.0 in let b = s.1 in (keeps_same names, λ table k. (omega arith, tt))
facts_at (word at w p) names from to s = tt
facts_at (list at p q) names from to s =
    let a = s.0 in
    let f = fits p (suc at) s.1 s.2 in
    reads_then same (FactAt (suc at) s.1) (FactsAt from to) names (fact names p) (λ x. facts x.1 q >>= (λ xs. Ok (with_kept x.0 xs.0, xs.1))) (fact_at p names (suc at) s.1 s.2)
    (λ x. reads_map (FactsAt s.1 to) (λ xs table. FactAt (suc at) s.1 x.0 table → FactsAt from to xs table) x.1 (facts x.1 q) (with_kept x.0) (facts_at q x.1 s.1 to s.3)
    (λ xs table is one. (let b = kept x.0 xs (suc at) s.1 to table f one is in (climbs_from atom_place (with_kept x.0 xs) from (suc at) to (omega arith) b.0, b.1))))

abbrev pub Facts : List RawAtom → Names → Type 0
Facts xs table = (from : ℕ) × (to : ℕ) × FactsAt from to xs table

-- a name with its parts
record NamedAt (from to : ℕ) (x : RawTerm × RawParts) (table : Names) : Type 0 where
  pub opens : from ≤ x.0.at
  pub closes : x.0.at < to
  pub name : IsPlainName table x.0
  pub parts : PartsAre x.1 table

named_at : (kind : Parted) (p : Placed) (names : Names) (from to : ℕ) → Span from p to → Reads names (named_parts kind names p) (NamedAt from to)
unfolding named_parts word_due
named_at kind cut names from to s = tt
named_at kind (close at) names from to s = tt
named_at kind (list at p q) names from to s = tt
named_at kind (word at w p) names from to s =
    let a = s.0 in
    let f = fits p (suc at) to s.1 in
    reads_then same (IsReadAs at w) (NamedAt from to) names (declared 8 names at w) (λ h. parts kind no_parts h.1 p >>= (λ x. Ok ((h.0, x.0), x.1))) (declared_as 8 names at w s.2)
    (λ h. reads_map (PutTo no_parts) (λ x table. IsReadAs at w h.0 table → NamedAt from to x table) h.1 (parts kind no_parts h.1 p) (λ x. (h.0, x)) (parts_in_order p kind no_parts h.1 (suc at, to, s.1))
    (λ x table is one. (let e = one.0 in record { opens = omega arith; closes = omega arith; name = plain_word at w h.0 table one; parts = is (none_are table) })))

goal_in_order : (p : Placed) (names : Names) (from to : ℕ) → Span from p to → Reads names (goal names p) FormulaInOrder
unfolding goal list_due
goal_in_order cut names from to s = tt
goal_in_order (close at) names from to s = tt
goal_in_order (word at w p) names from to s = tt
goal_in_order (list at p q) names from to s =
    reads_then same FormulaInOrder FormulaInOrder names (inside names p) (λ f. end_due q >>= (λ _. Ok f)) (inside_in_order p names (suc at, s.1, s.2)) (λ f. reads_end (λ g table. FormulaInOrder f.0 table → FormulaInOrder g table) q f (λ _ table is. is))

-- what the parts of a head, an action and a method say
head_is : (name : RawTerm) (st : RawParts) (table : Names) → IsPlainName table name → PartsAre st table → IsHeadInOrder table (head_of name st)
head_is name st table n h = record { name = n; params = list_or_none table st.params h.params }

action_is : (name : RawTerm) (st : RawParts) (table : Names) → IsPlainName table name → PartsAre st table → IsActionInOrder table (action_of name st)
action_is name st table n h =
    let pre = or_true_in_order table st.pre h.pre in
    let eff = or_nothing_in_order table st.eff h.eff in
    record { head = head_is name st table n h; pre = pre.lists; eff = eff.lists; pre_in_order = pre.terms; eff_in_order = eff.terms }

-- methods up to a place
abbrev Methods : ℕ → ℕ → List RawMethod → Names → Type 0
Methods from to ms table = Climbs method_place from ms to × EachIs (IsMethodInOrder table) ms

-- a method with its task
method_is : (from to : ℕ) (x : RawTerm × RawParts) (table : Names) → NamedAt from to x table → Methods from to (with_kept (method_of x.0 x.1) []) table
method_is from to x table is = go x.1.task is.parts.task
  where
    go : (o : Option RawAtom) → IfSome o (λ a. AtomInOrder a table) → Methods from to (with_kept (let m : Option RawMethod = elim o [ None ↦ None | Some task ↦ Some (record { head = head_of x.0 x.1; task = task; pre = or_true x.1.pre; net = network_of x.1 }) ] in m) []) table
    go None t = let a = is.opens in let b = is.closes in (omega arith, tt)
    go (Some task) t =
        let a = is.closes in
        let pre = or_true_in_order table x.1.pre is.parts.pre in
        ((is.opens, omega arith), (record { head = head_is x.0 x.1 table is.name is.parts; task = t; pre = pre.lists; pre_in_order = pre.terms; net = net_in_order x.1 table is.parts }, tt))

-- The sections that stand, up to a place.
pub record SectionsAre (now : ℕ) (st : RawSections) (table : Names) : Type 0 where
  pub types : IfSome st.types (λ xs. ListInOrder list_kind.Types xs table)
  pub constants : IfSome st.constants (λ xs. ListInOrder list_kind.Objects xs table)
  pub predicates : IfSome st.predicates (λ xs. Chained PredicateAt xs table)
  pub tasks : Climbs head_place 0 st.tasks now
  pub each_task : EachIs (IsHeadInOrder table) st.tasks
  pub methods : Climbs method_place 0 st.methods now
  pub each_method : EachIs (IsMethodInOrder table) st.methods
  pub actions : Climbs action_place 0 st.actions now
  pub each_action : EachIs (IsActionInOrder table) st.actions
  pub apart : Apart st.tasks st.actions
  pub objects : IfSome st.objects (λ xs. ListInOrder list_kind.Objects xs table)
  pub network : IfSome st.network (λ x. PartsAre x table)
  pub init : IfSome st.init (λ xs. Facts xs table)
  pub goal : IfSome st.goal (λ f. FormulaInOrder f table)

-- sections that are put to others, from one place on up to another
abbrev pub Put : ℕ → ℕ → RawSections → RawSections → Names → Type 0
Put from to st y table = SectionsAre from st table → SectionsAre to y table

pub none_stand : (now : ℕ) (table : Names) → SectionsAre now no_sections table
none_stand now table = let l : 0 ≤ now = omega arith in record { types = tt; constants = tt; predicates = tt; tasks = l; each_task = tt; methods = l; each_method = tt; actions = l; each_action = tt; apart = tt; objects = tt; network = tt; init = tt; goal = tt }

pub later : (from to : ℕ) (st : RawSections) (table : Names) → from ≤ to → Put from to st st table
later from to st table l h = record { types = h.types; constants = h.constants; predicates = h.predicates; tasks = climbs_to head_place st.tasks 0 from to l h.tasks; each_task = h.each_task; methods = climbs_to method_place st.methods 0 from to l h.methods; each_method = h.each_method; actions = climbs_to action_place st.actions 0 from to l h.actions; each_action = h.each_action; apart = h.apart; objects = h.objects; network = h.network; init = h.init; goal = h.goal }

-- of a section that is dropped
same_sections : (from to : ℕ) (st y : RawSections) (names : Names) (r : Result (Unit {0}) Stop) → ((table : Names) → Put from to st y table) → Reads names (r >>= (λ _. Ok (y, names))) (Put from to st)
same_sections from to st y names r h = reads_by (Put from to st) names r (λ _. Ok (y, names)) (λ _. (keeps_same names, λ table k. h table))

section_in : (x : Section) (st : RawSections) (p : Placed) (names : Names) (from to : ℕ) → Span from p to → Reads names (section_read x st names p) (Put from to st)
unfolding section_read
section_in section.Requirements st p names from to s = same_sections from to st (record st { requirements = true }) names (words p) (λ table h0. (let h = later from to st table (fits p from to s) h0 in record { types = h.types; constants = h.constants; predicates = h.predicates; tasks = h.tasks; each_task = h.each_task; methods = h.methods; each_method = h.each_method; actions = h.actions; each_action = h.each_action; apart = h.apart; objects = h.objects; network = h.network; init = h.init; goal = h.goal }))
section_in section.Functions st p names from to s = same_sections from to st (record st { functions = true }) names (passed p) (λ table h0. (let h = later from to st table (fits p from to s) h0 in record { types = h.types; constants = h.constants; predicates = h.predicates; tasks = h.tasks; each_task = h.each_task; methods = h.methods; each_method = h.each_method; actions = h.actions; each_action = h.each_action; apart = h.apart; objects = h.objects; network = h.network; init = h.init; goal = h.goal }))
section_in section.Domain st p names from to s = same_sections from to st (record st { domain = true }) names (dropped_name p) (λ table h0. (let h = later from to st table (fits p from to s) h0 in record { types = h.types; constants = h.constants; predicates = h.predicates; tasks = h.tasks; each_task = h.each_task; methods = h.methods; each_method = h.each_method; actions = h.actions; each_action = h.each_action; apart = h.apart; objects = h.objects; network = h.network; init = h.init; goal = h.goal }))
section_in section.Metric st p names from to s = same_sections from to st (record st { metric = true }) names (passed p) (λ table h0. (let h = later from to st table (fits p from to s) h0 in record { types = h.types; constants = h.constants; predicates = h.predicates; tasks = h.tasks; each_task = h.each_task; methods = h.methods; each_method = h.each_method; actions = h.actions; each_action = h.each_action; apart = h.apart; objects = h.objects; network = h.network; init = h.init; goal = h.goal }))
section_in section.Types st p names from to s = reads_map (ListInOrder list_kind.Types) (Put from to st) names (listed list_kind.Types names p) (λ x. record st { types = Some x }) (listed_in_order p list_kind.Types names (from, to, s))
    (λ x table is h0. (let h = later from to st table (fits p from to s) h0 in record { types = is; constants = h.constants; predicates = h.predicates; tasks = h.tasks; each_task = h.each_task; methods = h.methods; each_method = h.each_method; actions = h.actions; each_action = h.each_action; apart = h.apart; objects = h.objects; network = h.network; init = h.init; goal = h.goal }))
section_in section.Constants st p names from to s = reads_map (ListInOrder list_kind.Objects) (Put from to st) names (listed list_kind.Objects names p) (λ x. record st { constants = Some x }) (listed_in_order p list_kind.Objects names (from, to, s))
    (λ x table is h0. (let h = later from to st table (fits p from to s) h0 in record { types = h.types; constants = is; predicates = h.predicates; tasks = h.tasks; each_task = h.each_task; methods = h.methods; each_method = h.each_method; actions = h.actions; each_action = h.each_action; apart = h.apart; objects = h.objects; network = h.network; init = h.init; goal = h.goal }))
section_in section.Objects st p names from to s = reads_map (ListInOrder list_kind.Objects) (Put from to st) names (listed list_kind.Objects names p) (λ x. record st { objects = Some x }) (listed_in_order p list_kind.Objects names (from, to, s))
    (λ x table is h0. (let h = later from to st table (fits p from to s) h0 in record { types = h.types; constants = h.constants; predicates = h.predicates; tasks = h.tasks; each_task = h.each_task; methods = h.methods; each_method = h.each_method; actions = h.actions; each_action = h.each_action; apart = h.apart; objects = is; network = h.network; init = h.init; goal = h.goal }))
section_in section.Predicates st p names from to s = reads_map (Chain PredicateAt from to) (Put from to st) names (all_of predicate_headed names p) (λ x. record st { predicates = Some x }) (all_of_chain PredicateAt predicate_wide predicate_headed predicate_at p names from to s)
    (λ x table is h0. (let h = later from to st table (fits p from to s) h0 in record { types = h.types; constants = h.constants; predicates = (from, to, is); tasks = h.tasks; each_task = h.each_task; methods = h.methods; each_method = h.each_method; actions = h.actions; each_action = h.each_action; apart = h.apart; objects = h.objects; network = h.network; init = h.init; goal = h.goal }))
section_in section.Task st p names from to s = reads_map (NamedAt from to) (Put from to st) names (named_parts parted.Task names p) (λ x. record st { tasks = st.tasks ++ head_of x.0 x.1 ∷ [] }) (named_at parted.Task p names from to s)
    (λ x table is h0. (let h = later from to st table (fits p from to s) h0 in record { types = h.types; constants = h.constants; predicates = h.predicates; tasks = climbs_join head_place st.tasks (head_of x.0 x.1 ∷ []) 0 from to h0.tasks (climbs_one head_place (head_of x.0 x.1) from to is.opens is.closes); each_task = each-join _ st.tasks (head_of x.0 x.1 ∷ []) h.each_task (head_is x.0 x.1 table is.name is.parts, tt); methods = h.methods; each_method = h.each_method; actions = h.actions; each_action = h.each_action; apart = one_task st.tasks st.actions (head_of x.0 x.1) 0 from h0.actions is.opens h.apart; objects = h.objects; network = h.network; init = h.init; goal = h.goal }))
section_in section.Method st p names from to s = reads_map (NamedAt from to) (Put from to st) names (named_parts parted.Method names p) (λ x. record st { methods = st.methods ++ with_kept (method_of x.0 x.1) [] }) (named_at parted.Method p names from to s)
    (λ x table is h0. (let h = later from to st table (fits p from to s) h0 in let m = method_is from to x table is in record { types = h.types; constants = h.constants; predicates = h.predicates; tasks = h.tasks; each_task = h.each_task; methods = climbs_join method_place st.methods (with_kept (method_of x.0 x.1) []) 0 from to h0.methods m.0; each_method = each-join _ st.methods (with_kept (method_of x.0 x.1) []) h.each_method m.1; actions = h.actions; each_action = h.each_action; apart = h.apart; objects = h.objects; network = h.network; init = h.init; goal = h.goal }))
section_in section.Action st p names from to s = reads_map (NamedAt from to) (Put from to st) names (named_parts parted.Action names p) (λ x. record st { actions = st.actions ++ action_of x.0 x.1 ∷ [] }) (named_at parted.Action p names from to s)
    (λ x table is h0. (let h = later from to st table (fits p from to s) h0 in record { types = h.types; constants = h.constants; predicates = h.predicates; tasks = h.tasks; each_task = h.each_task; methods = h.methods; each_method = h.each_method; actions = climbs_join action_place st.actions (action_of x.0 x.1 ∷ []) 0 from to h0.actions (climbs_one action_place (action_of x.0 x.1) from to is.opens is.closes); each_action = each-join _ st.actions (action_of x.0 x.1 ∷ []) h.each_action (action_is x.0 x.1 table is.name is.parts, tt); apart = one_action st.tasks st.actions (action_of x.0 x.1) 0 from h0.tasks is.opens h.apart; objects = h.objects; network = h.network; init = h.init; goal = h.goal }))
section_in section.Network st p names from to s = reads_map (PutTo no_parts) (Put from to st) names (parts parted.Network no_parts names p) (λ x. record st { network = Some x }) (parts_in_order p parted.Network no_parts names (from, to, s))
    (λ x table is h0. (let h = later from to st table (fits p from to s) h0 in record { types = h.types; constants = h.constants; predicates = h.predicates; tasks = h.tasks; each_task = h.each_task; methods = h.methods; each_method = h.each_method; actions = h.actions; each_action = h.each_action; apart = h.apart; objects = h.objects; network = is (none_are table); init = h.init; goal = h.goal }))
section_in section.Init st p names from to s = reads_map (FactsAt from to) (Put from to st) names (facts names p) (λ x. record st { init = Some x }) (facts_at p names from to s)
    (λ x table is h0. (let h = later from to st table (fits p from to s) h0 in record { types = h.types; constants = h.constants; predicates = h.predicates; tasks = h.tasks; each_task = h.each_task; methods = h.methods; each_method = h.each_method; actions = h.actions; each_action = h.each_action; apart = h.apart; objects = h.objects; network = h.network; init = (from, to, is); goal = h.goal }))
section_in section.Goal st p names from to s = reads_map FormulaInOrder (Put from to st) names (goal names p) (λ x. record st { goal = Some x }) (goal_in_order p names from to s)
    (λ x table is h0. (let h = later from to st table (fits p from to s) h0 in record { types = h.types; constants = h.constants; predicates = h.predicates; tasks = h.tasks; each_task = h.each_task; methods = h.methods; each_method = h.each_method; actions = h.actions; each_action = h.each_action; apart = h.apart; objects = h.objects; network = h.network; init = h.init; goal = is }))

inside_section_in : (l : Language) (d : Definition) (st : RawSections) (p : Placed) (names : Names) (from to : ℕ) → Span from p to → Reads names (section_inside l d st names p) (Put from to st)
unfolding section_inside word_due
inside_section_in l d st cut names from to s = tt
inside_section_in l d st (close at) names from to s = tt
inside_section_in l d st (list at p q) names from to s = tt
inside_section_in l d st (word at w p) names from to s =
    let a = s.0 in
    reads_by (Put from to st) names (keyword_by (section_of l d w) (has_section st) at w) (λ x. section_read x st names p)
    (λ x. reads_weaken (Put (suc at) to st) (Put from to st) names (section_read x st names p) (section_in x st p names (suc at) to s.1) (λ y table is h. is (later from (suc at) st table (omega arith) h)))

pub sections_in_order : (p : Placed) (l : Language) (d : Definition) (st : RawSections) (names : Names) (from to : ℕ) → Span from p to → Reads names (sections l d st names p) (Put from to st)
unfolding sections
sections_in_order cut l d st names from to s = tt
sections_in_order (close at) l d st names from to s = go (may_end l d st)
  where
    go : (b : Bool) → Reads names (if b then Ok (st, names) else Err (Departs 8 at)) (Put from to st)
    go true = let a = s.0 in let b = s.1 in (keeps_same names, λ table k h. later from to st table (omega arith) h)
    go false = tt
sections_in_order (word at w p) l d st names from to s = tt
sections_in_order (list at p q) l d st names from to s =
    let a = s.0 in
    reads_then same (Put (suc at) s.1 st) (Put from to st) names (section_inside l d st names p) (λ r. sections l d r.0 r.1 q) (inside_section_in l d st p names (suc at) s.1 s.2)
    (λ r. reads_weaken (Put s.1 to r.0) (λ y table. Put (suc at) s.1 st r.0 table → Put from to st y table) r.1 (sections l d r.0 r.1 q) (sections_in_order q l d r.0 r.1 s.1 to s.3)
    (λ y table is one h. is (one (later from (suc at) st table (omega arith) h))))
