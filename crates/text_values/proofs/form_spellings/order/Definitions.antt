-- Whole domains and problems are read in the order of the text.
use Rattle.std.proofs.Common.{◌≡◌, ℕ, Bool, true, false, if◌then◌else◌, codes, Ok, Err, Result, List, Option, Some, None, IfSome, refl, arith}
use Rattle.htn_base.specs.declared.name.Name.{Name}
use Rattle.text_forms.specs.Placed.{Placed, cut, close, word, list, parts_at}
use Rattle.text_forms.specs.Words.{Word}
use Rattle.plan_texts.specs.Declared.{named}
use Rattle.plan_texts.specs.Printable.{IsPlain}
use Rattle.gd_reader.specs.declared.formulas.RawFormula.{RawFormula}
use Rattle.gd_reader.specs.declared.effects.RawEffect.{RawEffect}
use Rattle.gd_reader.specs.declared.stop.Stop.{Stop}
use Rattle.gd_reader.specs.declared.stop.Stop.TheVariants.{Departs}
use Rattle.gd_reader.specs.declared.term.RawAtom.{RawAtom}
use Rattle.gd_reader.specs.declared.typed_lists.ListKind.{ListKind}
use Rattle.gd_reader.specs.declared.typed_lists.ListKind.TheVariants as list_kind
use Rattle.gd_reader.specs.declared.typed_lists.RawParam.{RawParam}
use Rattle.gd_reader.specs.Answers.{◌>>=◌, word_due, list_due, end_due}
use Rattle.gd_reader.specs.Effects.{effect_read}
use Rattle.gd_reader.specs.Formulas.{formula_read}
use Rattle.gd_reader.specs.Terms.{Names, Keeps}
use Rattle.gd_reader.proofs.Keeping.{keeps_same}
use Rattle.hddl_reader.specs.declared.parts.RawParts.{RawParts}
use Rattle.hddl_reader.specs.declared.sections.Definition.{Definition}
use Rattle.hddl_reader.specs.declared.sections.Language.{Language}
use Rattle.hddl_reader.specs.declared.raw_sections.RawSections.{RawSections}
use Rattle.hddl_reader.specs.Definitions.{coded, key_due, definition_word, title, definition_inside, nothing_due, definition_read, domain_of, or_empty, problem_of, IsRead}
use Rattle.hddl_reader.specs.Networks.{declared, is_word}
use Rattle.hddl_reader.specs.Sections.{no_sections, sections, or_none}
use Rattle.text_values.specs.form_spellings.InOrder.{FormulaIsInOrder, EffectIsInOrder, IsPredicateInOrder, IsDomainInOrder, IsProblemInOrder}
use Rattle.text_values.specs.form_spellings.InTable.{IsDomainIn, IsProblemIn}
use Rattle.text_values.specs.form_spellings.Rising.{HaveOneWordAPlace, mentioned}
use Rattle.text_values.proofs.form_spellings.KeptWords.{Reads, reads_then, reads_map, reads_by}
use Rattle.text_values.proofs.form_spellings.NamesIn.{stands}
use Rattle.text_values.proofs.form_spellings.TermsIn.{same}
use Rattle.text_values.proofs.form_spellings.order.Callables.{head_place, action_place, method_place, all_apart}
use Rattle.text_values.proofs.form_spellings.order.Chains.{chain_each, chain_climbs}
use Rattle.text_values.proofs.form_spellings.order.Climbs.{climbs_rise}
use Rattle.text_values.proofs.form_spellings.order.Effects.{EffectInOrder, effect_in_order}
use Rattle.text_values.proofs.form_spellings.order.Formulas.{FormulaInOrder, formula_in_order}
use Rattle.text_values.proofs.form_spellings.order.Lists.{IsListInOrder, ListInOrder, no_list, typed_names}
use Rattle.text_values.proofs.form_spellings.order.Parts.{PartsAre, none_are, chained_or_none, list_or_none, or_true_in_order, net_in_order}
use Rattle.text_values.proofs.form_spellings.order.Sections.{PredicateAt, Facts, SectionsAre, Put, atom_place, none_stand, sections_in_order}
use Rattle.text_values.proofs.form_spellings.order.Spans.{Rising, behind_word, inside_list, behind_list, parts_rise}
use Rattle.text_values.proofs.form_spellings.order.Terms.{IsReadAs, plain_word, declared_as}

-- a name that may be declared
abbrev Titled : Name → Names → Type 0
Titled n table = IsPlain (named table n)

abbrev pub DefinitionIs : Name × RawSections → Names → Type 0
DefinitionIs x table = Titled x.0 table × (now : ℕ) × SectionsAre now x.1 table

behind_key : {X : Type 0} (P : X → Names → Type 0) (key : Word) (names : Names) (f : Placed → Result (X × Names) Stop) (p : Placed) → Rising p → ((q : Placed) → Rising q → Reads names (f q) P) → Reads names (key_due key p >>= f) P
unfolding word_due
behind_key P key names f cut s h = tt
behind_key P key names f (close at) s h = tt
behind_key P key names f (list at p q) s h = tt
behind_key P key names f (word at w p) s h = go (is_word key w)
  where
    go : (b : Bool) → Reads names (coded 5 (if b then Ok p else Err (Departs 8 at)) >>= f) P
    go true = h p (behind_word at w p s)
    go false = tt

named_in : (p : Placed) (names : Names) → Rising p → Reads names (coded 5 (word_due p) >>= (λ v. declared 5 names v.0 v.1 >>= (λ h. coded 5 (end_due v.2) >>= (λ _. Ok (h.0.name, h.1))))) Titled
unfolding word_due
named_in cut names s = tt
named_in (close at) names s = tt
named_in (list at p q) names s = tt
named_in (word at w p) names s =
    reads_then same (IsReadAs at w) Titled names (declared 5 names at w) (λ h. coded 5 (end_due p) >>= (λ _. Ok (h.0.name, h.1))) (declared_as 5 names at w s.2.2)
    (λ h. reads_by (λ n table. IsReadAs at w h.0 table → Titled n table) h.1 (coded 5 (end_due p)) (λ _. Ok (h.0.name, h.1)) (λ _. (keeps_same h.1, λ table k one. plain_word at w h.0 table one)))

title_in : (p : Placed) (d : Definition) (names : Names) → Rising p → Reads names (title d names p) Titled
unfolding title
title_in p d names s =
    behind_key Titled (definition_word d) names (λ q. coded 5 (word_due q) >>= (λ v. declared 5 names v.0 v.1 >>= (λ h. coded 5 (end_due v.2) >>= (λ _. Ok (h.0.name, h.1))))) p s
    (λ q t. named_in q names t)

header : Language → Definition → Names → Placed → Result ((Name × RawSections) × Names) Stop
header l d names q = coded 5 (list_due q) >>= (λ g. title d names g.0 >>= (λ t. sections l d no_sections t.1 g.1 >>= (λ st. Ok ((t.0, st.0), st.1))))

header_in : (q : Placed) (l : Language) (d : Definition) (names : Names) → Rising q → Reads names (header l d names q) DefinitionIs
unfolding header list_due
header_in cut l d names s = tt
header_in (close at) l d names s = tt
header_in (word at w p) l d names s = tt
header_in (list at p q) l d names s =
    let r = behind_list at p q s in
    reads_then same Titled DefinitionIs names (title d names p) (λ t. sections l d no_sections t.1 q >>= (λ st. Ok ((t.0, st.0), st.1))) (title_in p d names (inside_list at p q s))
    (λ t. reads_map (Put r.0 r.1 no_sections) (λ x table. Titled t.0 table → DefinitionIs x table) t.1 (sections l d no_sections t.1 q) (λ st. (t.0, st)) (sections_in_order q l d no_sections t.1 r.0 r.1 r.2)
    (λ st table is one. (one, r.1, is (none_stand r.0 table))))

inside_in : (p : Placed) (l : Language) (d : Definition) (names : Names) → Rising p → Reads names (definition_inside l d names p) DefinitionIs
unfolding definition_inside header
inside_in p l d names s = behind_key DefinitionIs (codes "define") names (header l d names) p s (λ q t. header_in q l d names t)

definition_in : (p : Placed) (l : Language) (d : Definition) (names : Names) → Rising p → Reads names (definition_read l d names p) DefinitionIs
unfolding definition_read
definition_in cut l d names s = tt
definition_in (close at) l d names s = tt
definition_in (word at w p) l d names s = tt
definition_in (list at p q) l d names s =
    reads_then same DefinitionIs DefinitionIs names (definition_inside l d names p) (λ x. nothing_due q >>= (λ _. Ok x)) (inside_in p l d names (inside_list at p q s))
    (λ x. reads_by (λ y table. DefinitionIs x.0 table → DefinitionIs y table) x.1 (nothing_due q) (λ _. Ok x) (λ _. (keeps_same x.1, λ table k is. is)))

list_is : (kind : ListKind) (table : Names) (o : Option (List RawParam)) → IfSome o (λ xs. ListInOrder kind xs table) → IsListInOrder table kind (or_none o)
list_is kind table None h = no_list kind table
list_is kind table (Some xs) h = h

facts_are : (table : Names) (o : Option (List RawAtom)) → IfSome o (λ xs. Facts xs table) → Facts (or_none o) table
facts_are table None h = (0, 0, (omega arith, tt))
facts_are table (Some xs) h = h

network_parts : (o : Option RawParts) (table : Names) → IfSome o (λ x. PartsAre x table) → PartsAre (or_empty o) table
network_parts None table h = none_are table
network_parts (Some x) table h = h

pub domain_types : (x : Name × RawSections) (table : Names) → DefinitionIs x table → IsListInOrder table list_kind.Types (domain_of x).types
domain_types x table h = list_is list_kind.Types table x.1.types h.2.types

pub domain_is : (x : Name × RawSections) (table : Names) → IsDomainIn table (domain_of x) → HaveOneWordAPlace (mentioned (domain_of x).types) → DefinitionIs x table → IsDomainInOrder table (domain_of x)
domain_is x table words apart h =
    let st = h.2 in
    let ts = domain_types x table h in
    let cs = list_is list_kind.Objects table x.1.constants st.constants in
    let ps = chained_or_none PredicateAt table x.1.predicates st.predicates in
    record {
      words = words;
      name = h.0;
      types = typed_names table list_kind.Types (or_none x.1.types) refl ts;
      constants = typed_names table list_kind.Objects (or_none x.1.constants) refl cs;
      predicates = chain_each PredicateAt (IsPredicateInOrder table) table (λ from to p is. is.is) ps.0 ps.1 (or_none x.1.predicates) ps.2;
      tasks = st.each_task;
      methods = st.each_method;
      actions = st.each_action;
      types_at_places = apart;
      types_in_order = ts.rise;
      constants_in_order = cs.rise;
      predicates_in_order = climbs_rise head_place (or_none x.1.predicates) ps.0 ps.1 (chain_climbs PredicateAt head_place table (λ from to p is. (is.opens, is.closes)) ps.0 ps.1 (or_none x.1.predicates) ps.2);
      tasks_in_order = climbs_rise head_place x.1.tasks 0 h.1 st.tasks;
      actions_in_order = climbs_rise action_place x.1.actions 0 h.1 st.actions;
      methods_in_order = climbs_rise method_place x.1.methods 0 h.1 st.methods;
      callables_apart = all_apart x.1.tasks x.1.actions 0 h.1 0 h.1 st.tasks st.actions st.apart;
    }

pub problem_is : (x : Name × RawSections) (table : Names) → IsProblemIn table (problem_of x) → DefinitionIs x table → IsProblemInOrder table (problem_of x)
problem_is x table words h =
    let st = h.2 in
    let n = network_parts x.1.network table st.network in
    let fs = facts_are table x.1.init st.init in
    let os = list_is list_kind.Objects table x.1.objects st.objects in
    let goal = or_true_in_order table x.1.goal st.goal in
    record {
      words = words;
      name = h.0;
      objects = typed_names table list_kind.Objects (or_none x.1.objects) refl os;
      params = list_or_none table (or_empty x.1.network).params n.params;
      net = net_in_order (or_empty x.1.network) table n;
      facts = fs.2.1;
      goal = goal.lists;
      goal_in_order = goal.terms;
      objects_in_order = os.rise;
      facts_in_order = climbs_rise atom_place (or_none x.1.init) fs.0 fs.1 fs.2.0;
    }

-- what the tokens of a whole text give
pub whole_in_order : (l : Language) (d : Definition) (text : List ℕ) (names left later : Names) (x : Name × RawSections) → IsRead l d names text x left → Keeps left later → DefinitionIs x later
whole_in_order l d text names left later x is k = stands DefinitionIs names left (definition_read l d names (parts_at text 0)) x is.gives (definition_in (parts_at text 0) l d names (parts_rise text 0)) later k

pub formulas_in_order : (text : List ℕ) (i : ℕ) (names left later : Names) (f : RawFormula) → formula_read names (parts_at text i) ≡ Ok (f, left) → Keeps left later → FormulaIsInOrder later f
formulas_in_order text i names left later f e k = let is = stands FormulaInOrder names left (formula_read names (parts_at text i)) f e (formula_in_order (parts_at text i) names (parts_rise text i)) later k in (is.lists, is.terms)

pub effects_in_order : (text : List ℕ) (i : ℕ) (names left later : Names) (x : RawEffect) → effect_read names (parts_at text i) ≡ Ok (x, left) → Keeps left later → EffectIsInOrder later x
effects_in_order text i names left later x e k = let is = stands EffectInOrder names left (effect_read names (parts_at text i)) x e (effect_in_order (parts_at text i) names (parts_rise text i)) later k in (is.lists, is.terms)
