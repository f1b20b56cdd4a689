-- The sections of a domain and of a problem as they are read, and the lists that are theirs alone.
-- Source: the full syntax definition of Höller et al., "HDDL", AAAI 2020, and appendix A of Fox and Long, "PDDL2.1", JAIR 20, 2003, level 1.
use Rattle.std.specs.Prelude.{ℕ, Bool, true, false, List, [], ◌∷◌, ◌++◌, Option, Some, None, Result, Ok, Err, if◌then◌else◌, codes}
use Rattle.std.specs.Option.{option_map}
use Rattle.text_forms.specs.Placed.{Placed, cut, close, word, list}
use Rattle.text_forms.specs.Words.{Word}
use Rattle.text_forms.specs.form_grammar.Words.{Table, entry}
use Rattle.gd_reader.specs.declared.effects.RawEffect.{RawEffect}
use Rattle.gd_reader.specs.declared.effects.RawEffect.TheVariants as raw_effect
use Rattle.gd_reader.specs.declared.formulas.RawFormula.{RawFormula}
use Rattle.gd_reader.specs.declared.formulas.RawFormula.TheVariants as raw_formula
use Rattle.gd_reader.specs.declared.stop.Stop.{Stop}
use Rattle.gd_reader.specs.declared.stop.Stop.TheVariants.{Ends, Departs}
use Rattle.gd_reader.specs.declared.term.RawAtom.{RawAtom}
use Rattle.gd_reader.specs.declared.term.RawTerm.{RawTerm}
use Rattle.gd_reader.specs.declared.typed_lists.ListKind.TheVariants as list_kind
use Rattle.gd_reader.specs.declared.words.Sort.{Sort}
use Rattle.gd_reader.specs.declared.words.Sort.TheVariants as sort
use Rattle.gd_reader.specs.Answers.{◌>>=◌, word_due, list_due, end_due, passed}
use Rattle.gd_reader.specs.Formulas.{inside}
use Rattle.gd_reader.specs.Terms.{Names, used}
use Rattle.gd_reader.specs.TypedLists.{listed}
use Rattle.gd_reader.specs.Words.{sort_of}
use Rattle.hddl_reader.specs.declared.networks.RawNet.{RawNet}
use Rattle.hddl_reader.specs.declared.parts.Parted.{Parted}
use Rattle.hddl_reader.specs.declared.parts.Parted.TheVariants as parted
use Rattle.hddl_reader.specs.declared.parts.RawParts.{RawParts}
use Rattle.hddl_reader.specs.declared.sections.Definition.{Definition}
use Rattle.hddl_reader.specs.declared.sections.Definition.TheVariants as definition
use Rattle.hddl_reader.specs.declared.sections.Language.{Language}
use Rattle.hddl_reader.specs.declared.sections.Language.TheVariants as language
use Rattle.hddl_reader.specs.declared.sections.RawAction.{RawAction}
use Rattle.hddl_reader.specs.declared.sections.RawHead.{RawHead}
use Rattle.hddl_reader.specs.declared.sections.RawMethod.{RawMethod}
use Rattle.hddl_reader.specs.declared.raw_sections.RawSections.{RawSections}
use Rattle.hddl_reader.specs.declared.sections.Section.{Section}
use Rattle.hddl_reader.specs.declared.sections.Section.TheVariants as section
use Rattle.hddl_reader.specs.Networks.{declared, is_word, Headed, all_of}
use Rattle.hddl_reader.specs.Parts.{no_parts, is_there, keyword_by, parts}

abbrev pub plain_table : Definition → Table Section
plain_table definition.Domain =
    (codes ":requirements", section.Requirements) ∷
    (codes ":types", section.Types) ∷
    (codes ":constants", section.Constants) ∷
    (codes ":predicates", section.Predicates) ∷
    (codes ":functions", section.Functions) ∷
    (codes ":action", section.Action) ∷
    []
plain_table definition.Problem =
    (codes ":domain", section.Domain) ∷
    (codes ":requirements", section.Requirements) ∷
    (codes ":objects", section.Objects) ∷
    (codes ":init", section.Init) ∷
    (codes ":goal", section.Goal) ∷
    (codes ":metric", section.Metric) ∷
    []

abbrev pub hierarchy_table : Language → Definition → Table Section
hierarchy_table language.Hddl definition.Domain = (codes ":task", section.Task) ∷ (codes ":method", section.Method) ∷ []
hierarchy_table language.Hddl definition.Problem = (codes ":htn", section.Network) ∷ []
hierarchy_table language.Pddl d = []

unfoldable pub section_of : Language → Definition → Word → Option Section
section_of l d w = entry (plain_table d ++ hierarchy_table l d) w

abbrev pub no_sections : RawSections
no_sections = record {
  requirements = false;
  types = None;
  constants = None;
  predicates = None;
  functions = false;
  tasks = [];
  methods = [];
  actions = [];
  domain = false;
  objects = None;
  network = None;
  init = None;
  goal = None;
  metric = false;
}

-- whether a section stands already that may stand once
unfoldable pub has_section : RawSections → Section → Bool
has_section st section.Requirements = st.requirements
has_section st section.Types = is_there st.types
has_section st section.Constants = is_there st.constants
has_section st section.Predicates = is_there st.predicates
has_section st section.Functions = st.functions
has_section st section.Task = false
has_section st section.Method = false
has_section st section.Action = false
has_section st section.Domain = st.domain
has_section st section.Objects = is_there st.objects
has_section st section.Network = is_there st.network
has_section st section.Init = is_there st.init
has_section st section.Goal = is_there st.goal
has_section st section.Metric = st.metric

abbrev pub or_none : {X : Type 0} → Option (List X) → List X
or_none None = []
or_none (Some xs) = xs

abbrev pub or_true : Option RawFormula → RawFormula
or_true None = raw_formula.And []
or_true (Some f) = f

abbrev pub or_nothing : Option RawEffect → RawEffect
or_nothing None = raw_effect.And []
or_nothing (Some e) = e

abbrev pub head_of : RawTerm → RawParts → RawHead
head_of name st = record { name = name; params = or_none st.params }

abbrev pub network_of : RawParts → RawNet
network_of st = record { subs = or_none st.subs; ordered = st.ordered; pairs = or_none st.pairs; constraints = or_none st.constraints }

abbrev pub action_of : RawTerm → RawParts → RawAction
action_of name st = record { head = head_of name st; pre = or_true st.pre; eff = or_nothing st.eff }

-- a method, where its task stands
abbrev pub method_of : RawTerm → RawParts → Option RawMethod
method_of name st = option_map (λ task. record { head = head_of name st; task = task; pre = or_true st.pre; net = network_of st }) st.task

-- those that are kept
abbrev pub with_kept : {X : Type 0} → Option X → List X → List X
with_kept None xs = xs
with_kept (Some x) xs = x ∷ xs

-- words up to the end of their list
unfoldable pub words : Placed → Result (Unit {0}) Stop
words cut = Err Ends
words (close at) = Ok tt
words (word at w p) = words p
words (list at p q) = Err (Departs 8 at)

abbrev pub name_by : Sort → ℕ → Result (Unit {0}) Stop
name_by sort.Name at = Ok tt
name_by sort.Variable at = Err (Departs 8 at)
name_by sort.Other at = Err (Departs 8 at)

-- one name, which is dropped, and the end of its list
unfoldable pub dropped_name : Placed → Result (Unit {0}) Stop
dropped_name p = word_due p >>= (λ v. name_by (sort_of v.1) v.0 >>= (λ _. end_due v.2))

-- a predicate, by the word at the front of its list
unfoldable pub predicate_headed : Headed RawHead
predicate_headed names place at w p = declared 8 names at w >>= (λ h. listed list_kind.Predicate h.1 p >>= (λ xs. Ok (record { name = h.0; params = xs.0 }, xs.1)))

-- names up to the end of their list
unfoldable pub used_names : Names → Placed → Result (List RawTerm × Names) Stop
used_names names cut = Err Ends
used_names names (close at) = Ok ([], names)
used_names names (list at p q) = Err (Departs 8 at)
used_names names (word at w p) = used names at w >>= (λ x. used_names x.1 p >>= (λ xs. Ok (x.0 ∷ xs.0, xs.1)))

-- behind = at the front of an element of :init: a list, a word, and the end, all dropped
unfoldable pub assignment : Placed → Result (Unit {0}) Stop
assignment p = list_due p >>= (λ g. passed g.0 >>= (λ _. word_due g.1 >>= (λ v. end_due v.2)))

abbrev pub applied_to : List RawTerm → RawTerm → RawAtom
applied_to args head = record { head = head; args = args }

-- an element of :init in its parentheses: an atom, or an assignment, of which nothing is kept
unfoldable pub fact : Names → Placed → Result (Option RawAtom × Names) Stop
fact names p = word_due p >>= (λ v.
    if is_word (codes "=") v.1 then assignment v.2 >>= (λ _. Ok (None, names))
    else used names v.0 v.1 >>= (λ h. used_names h.1 v.2 >>= (λ xs. Ok (Some (record { head = h.0; args = xs.0 }), xs.1))))

-- the atoms among the elements
unfoldable pub facts : Names → Placed → Result (List RawAtom × Names) Stop
facts names cut = Err Ends
facts names (close at) = Ok ([], names)
facts names (word at w p) = Err (Departs 8 at)
facts names (list at p q) = fact names p >>= (λ x. facts x.1 q >>= (λ xs. Ok (with_kept x.0 xs.0, xs.1)))

-- a name and its parts
unfoldable pub named_parts : Parted → Names → Placed → Result ((RawTerm × RawParts) × Names) Stop
named_parts kind names p = word_due p >>= (λ v. declared 8 names v.0 v.1 >>= (λ h. parts kind no_parts h.1 v.2 >>= (λ x. Ok ((h.0, x.0), x.1))))

-- a goal in its parentheses, and the end of the section
unfoldable pub goal : Names → Placed → Result (RawFormula × Names) Stop
goal names p = list_due p >>= (λ g. inside names g.0 >>= (λ f. end_due g.1 >>= (λ _. Ok f)))

-- a section behind its keyword, put to those that stand
unfoldable pub section_read : Section → RawSections → Names → Placed → Result (RawSections × Names) Stop
section_read section.Requirements st names p = words p >>= (λ _. Ok (record st { requirements = true }, names))
section_read section.Types st names p = listed list_kind.Types names p >>= (λ x. Ok (record st { types = Some x.0 }, x.1))
section_read section.Constants st names p = listed list_kind.Objects names p >>= (λ x. Ok (record st { constants = Some x.0 }, x.1))
section_read section.Predicates st names p = all_of predicate_headed names p >>= (λ x. Ok (record st { predicates = Some x.0 }, x.1))
section_read section.Functions st names p = passed p >>= (λ _. Ok (record st { functions = true }, names))
section_read section.Task st names p = named_parts parted.Task names p >>= (λ x. Ok (record st { tasks = st.tasks ++ head_of x.0.0 x.0.1 ∷ [] }, x.1))
section_read section.Method st names p = named_parts parted.Method names p >>= (λ x. Ok (record st { methods = st.methods ++ with_kept (method_of x.0.0 x.0.1) [] }, x.1))
section_read section.Action st names p = named_parts parted.Action names p >>= (λ x. Ok (record st { actions = st.actions ++ action_of x.0.0 x.0.1 ∷ [] }, x.1))
section_read section.Domain st names p = dropped_name p >>= (λ _. Ok (record st { domain = true }, names))
section_read section.Objects st names p = listed list_kind.Objects names p >>= (λ x. Ok (record st { objects = Some x.0 }, x.1))
section_read section.Network st names p = parts parted.Network no_parts names p >>= (λ x. Ok (record st { network = Some x.0 }, x.1))
section_read section.Init st names p = facts names p >>= (λ x. Ok (record st { init = Some x.0 }, x.1))
section_read section.Goal st names p = goal names p >>= (λ x. Ok (record st { goal = Some x.0 }, x.1))
section_read section.Metric st names p = passed p >>= (λ _. Ok (record st { metric = true }, names))

-- a problem of HDDL has an initial network
unfoldable pub may_end : Language → Definition → RawSections → Bool
may_end l definition.Domain st = true
may_end language.Hddl definition.Problem st = is_there st.network
may_end language.Pddl definition.Problem st = true

-- what stands in the parentheses of a section
unfoldable pub section_inside : Language → Definition → RawSections → Names → Placed → Result (RawSections × Names) Stop
section_inside l d st names p = word_due p >>= (λ v. keyword_by (section_of l d v.1) (has_section st) v.0 v.1 >>= (λ x. section_read x st names v.2))

-- sections up to the end of their list, put to those that stand
unfoldable pub sections : Language → Definition → RawSections → Names → Placed → Result (RawSections × Names) Stop
sections l d st names cut = Err Ends
sections l d st names (close at) = if may_end l d st then Ok (st, names) else Err (Departs 8 at)
sections l d st names (word at w p) = Err (Departs 8 at)
sections l d st names (list at p q) = section_inside l d st names p >>= (λ r. sections l d r.0 r.1 q)
