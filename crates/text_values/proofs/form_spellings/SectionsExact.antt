-- The sections of a domain and of a problem, each as it is found under its keyword.
use Rattle.std.proofs.Common.{◌≡◌, ◌∙◌, Bool, true, false, if◌then◌else◌, cond, codes, Ok, Err, Option, Some, None, List, [], ◌∷◌, ◌++◌, refl, sym, ap, subst, Result}
use Rattle.std.specs.Str.{bytes_eq}
use Rattle.text_forms.specs.Lists.{Part, Parts, name, group, nothing, part}
use Rattle.text_forms.specs.Placed.{Placed, cut, close, word, list, parts_of, IsWhole}
use Rattle.text_forms.specs.Words.{Word}
use Rattle.plan_texts.specs.Declared.{Declared}
use Rattle.plan_texts.specs.Networks.{IsTask}
use Rattle.plan_texts.specs.Schemas.{IsPredicate, IsAction}
use Rattle.plan_texts.specs.Sections.{section, parts_in, only, one_in}
use Rattle.plan_texts.specs.Types.{EachIs}
use Rattle.plan_texts.proofs.Basics.{bytes_eq-true}
use Rattle.plan_model.specs.declared.schemas.ActionSchema.{ActionSchema}
use Rattle.plan_model.specs.declared.schemas.TaskSchema.{TaskSchema}
use Rattle.gd_reader.specs.declared.formulas.RawFormula.{RawFormula}
use Rattle.gd_reader.specs.declared.stop.Stop.{Stop}
use Rattle.gd_reader.specs.declared.stop.Stop.TheVariants.{Departs}
use Rattle.gd_reader.specs.declared.term.RawAtom.{RawAtom}
use Rattle.gd_reader.specs.declared.term.RawTerm.{RawTerm}
use Rattle.gd_reader.specs.declared.typed_lists.ListKind.TheVariants as list_kind
use Rattle.gd_reader.specs.declared.typed_lists.RawParam.{RawParam}
use Rattle.gd_reader.specs.Answers.{◌>>=◌, word_due, list_due, end_due, passed}
use Rattle.gd_reader.specs.Formulas.{inside}
use Rattle.gd_reader.specs.Terms.{Names}
use Rattle.gd_reader.specs.TypedLists.{listed}
use Rattle.gd_reader.proofs.Keeping.{keeps_same}
use Rattle.hddl_reader.specs.declared.parts.Parted.TheVariants as parted
use Rattle.hddl_reader.specs.declared.parts.RawParts.{RawParts}
use Rattle.hddl_reader.specs.declared.sections.Definition.{Definition}
use Rattle.hddl_reader.specs.declared.sections.Definition.TheVariants as definition
use Rattle.hddl_reader.specs.declared.sections.Language.{Language}
use Rattle.hddl_reader.specs.declared.sections.Language.TheVariants as language
use Rattle.hddl_reader.specs.declared.sections.RawAction.{RawAction}
use Rattle.hddl_reader.specs.declared.sections.RawHead.{RawHead}
use Rattle.hddl_reader.specs.declared.sections.RawMethod.{RawMethod}
use Rattle.hddl_reader.specs.declared.raw_sections.RawSections.{RawSections}
use Rattle.hddl_reader.specs.declared.sections.Section.{Section}
use Rattle.hddl_reader.specs.declared.sections.Section.TheVariants as section
use Rattle.hddl_reader.specs.Networks.{all_of}
use Rattle.hddl_reader.specs.Parts.{no_parts, parts}
use Rattle.hddl_reader.specs.Sections.{plain_table, hierarchy_table, section_of, has_section, or_none, or_true, head_of, action_of, method_of, with_kept, words, dropped_name, predicate_headed, facts, named_parts, goal, section_read, may_end, section_inside, sections}
use Rattle.text_values.specs.form_spellings.BoundSchemas.{IsBoundTask, IsBoundAction}
use Rattle.text_values.proofs.form_spellings.FactsExact.{IsReadPredicate, predicates_exact, FactsExact, no_facts, facts_exact}
use Rattle.text_values.proofs.form_spellings.ItemsExact.{ItemExact, ListExact, none_exact, one_more_exact}
use Rattle.text_values.proofs.form_spellings.KeptWords.{Reads, reads_then, reads_map, reads_weaken, reads_by, reads_end}
use Rattle.text_values.proofs.form_spellings.ReadFields.{FieldIs, StepIs, field_ends, field_step, GrowsBy, AddsOne, grows_none, grows_step, table_has, keyed}
use Rattle.text_values.proofs.form_spellings.SchemasExact.{PartsKnown, parts_known, NamedKnown, named_known, task_exact, action_exact, method_there, method_with, method_is, IsMethodOf, IsReadMethod, method_exact}
use Rattle.text_values.proofs.form_spellings.TermsExact.{AllObjectsExact, objects_exact, no_objects, TypesExact, types_exact, no_types, FormulaExact, formula_exact, no_formula}
use Rattle.text_values.proofs.form_spellings.TermsIn.{same}

abbrev pub IsReadTask : Names → Declared → RawHead → TaskSchema → Type 0
IsReadTask table v = IsBoundTask v table

abbrev pub IsReadAction : Names → Declared → RawAction → ActionSchema → Type 0
IsReadAction table v = IsBoundAction v table

-- What each field says of the section that is found.
abbrev pub TypesSay : Names → Option Parts → Option (List RawParam) → Type 0
TypesSay table s o = TypesExact (parts_in s) (or_none o) table

abbrev ObjectsSay : Names → Option Parts → Option (List RawParam) → Type 0
ObjectsSay table s o = AllObjectsExact (parts_in s) (or_none o) table

abbrev PredicatesSay : Names → Option Parts → Option (List RawHead) → Type 0
PredicatesSay table s o = ListExact IsPredicate IsReadPredicate (parts_in s) (or_none o) table

-- a network that stands is the one that was read, and where none stands none was read
abbrev pub NetworkSays : Names → Option Parts → Option RawParts → Type 0
NetworkSays table None o = o ≡ None
NetworkSays table (Some ps) None = ⊥
NetworkSays table (Some ps) (Some y) = PartsKnown parted.Network ps y table

abbrev InitSays : Names → Option Parts → Option (List RawAtom) → Type 0
InitSays table s o = FactsExact (parts_in s) (or_none o) table

abbrev GoalSays : Names → Option Parts → Option RawFormula → Type 0
GoalSays table s o = FormulaExact (one_in s) (or_true o) table

-- and what is added to the lists of tasks, actions and methods
abbrev pub TasksSay : Names → Parts → List RawHead → Type 0
TasksSay table ps xs = ListExact IsTask IsReadTask ps xs table

abbrev pub ActionsSay : Names → Parts → List RawAction → Type 0
ActionsSay table ps xs = ListExact IsAction IsReadAction ps xs table

abbrev pub MethodsSay : Names → Parts → List RawMethod → Type 0
MethodsSay table ps xs = ListExact IsMethodOf IsReadMethod ps xs table

-- sections y that are read of these, where st stood in front
pub record SectionsAre (st : RawSections) (ps : Parts) (y : RawSections) (table : Names) : Type 0 where
  pub types : FieldIs (TypesSay table (section (codes ":types") ps)) st.types y.types
  pub constants : FieldIs (ObjectsSay table (section (codes ":constants") ps)) st.constants y.constants
  pub predicates : FieldIs (PredicatesSay table (section (codes ":predicates") ps)) st.predicates y.predicates
  pub objects : FieldIs (ObjectsSay table (section (codes ":objects") ps)) st.objects y.objects
  pub network : FieldIs (NetworkSays table (section (codes ":htn") ps)) st.network y.network
  pub init : FieldIs (InitSays table (section (codes ":init") ps)) st.init y.init
  pub goal : FieldIs (GoalSays table (section (codes ":goal") ps)) st.goal y.goal
  pub tasks : GrowsBy (TasksSay table (only (codes ":task") ps)) st.tasks y.tasks
  pub actions : GrowsBy (ActionsSay table (only (codes ":action") ps)) st.actions y.actions
  pub methods : GrowsBy (MethodsSay table (only (codes ":method") ps)) st.methods y.methods

none_left : (st : RawSections) (table : Names) → SectionsAre st nothing st table
none_left st table = record {
  types = field_ends (TypesSay table None) (no_types table) st.types;
  constants = field_ends (ObjectsSay table None) (no_objects table) st.constants;
  predicates = field_ends (PredicatesSay table None) (none_exact IsPredicate IsReadPredicate table) st.predicates;
  objects = field_ends (ObjectsSay table None) (no_objects table) st.objects;
  network = field_ends (NetworkSays table None) refl st.network;
  init = field_ends (InitSays table None) (no_facts table) st.init;
  goal = field_ends (GoalSays table None) (no_formula table) st.goal;
  tasks = grows_none (TasksSay table nothing) (none_exact IsTask IsReadTask table) st.tasks;
  actions = grows_none (ActionsSay table nothing) (none_exact IsAction IsReadAction table) st.actions;
  methods = grows_none (MethodsSay table nothing) (none_exact IsMethodOf IsReadMethod table) st.methods;
}

-- which fields a section fills: types, constants, predicates, objects, network, init, goal, and to which lists it adds: tasks, actions, methods
abbrev Flags : Type 0
Flags = Bool × Bool × Bool × Bool × Bool × Bool × Bool × Bool × Bool × Bool

abbrev flags : Section → Flags
flags section.Requirements = (false, false, false, false, false, false, false, false, false, false)
flags section.Types = (true, false, false, false, false, false, false, false, false, false)
flags section.Constants = (false, true, false, false, false, false, false, false, false, false)
flags section.Predicates = (false, false, true, false, false, false, false, false, false, false)
flags section.Functions = (false, false, false, false, false, false, false, false, false, false)
flags section.Task = (false, false, false, false, false, false, false, true, false, false)
flags section.Method = (false, false, false, false, false, false, false, false, false, true)
flags section.Action = (false, false, false, false, false, false, false, false, true, false)
flags section.Domain = (false, false, false, false, false, false, false, false, false, false)
flags section.Objects = (false, false, false, true, false, false, false, false, false, false)
flags section.Network = (false, false, false, false, true, false, false, false, false, false)
flags section.Init = (false, false, false, false, false, true, false, false, false, false)
flags section.Goal = (false, false, false, false, false, false, true, false, false, false)
flags section.Metric = (false, false, false, false, false, false, false, false, false, false)

abbrev flags_of : Word → Flags
flags_of w = (
  bytes_eq (codes ":types") w,
  bytes_eq (codes ":constants") w,
  bytes_eq (codes ":predicates") w,
  bytes_eq (codes ":objects") w,
  bytes_eq (codes ":htn") w,
  bytes_eq (codes ":init") w,
  bytes_eq (codes ":goal") w,
  bytes_eq (codes ":task") w,
  bytes_eq (codes ":action") w,
  bytes_eq (codes ":method") w,
)

flagged : (l : Language) (d : Definition) (w : Word) (x : Section) → section_of l d w ≡ Some x → flags_of w ≡ flags x
unfolding section_of
flagged l d w x e = table_has (λ w x. flags_of w ≡ flags x) (plain_table d ++ hierarchy_table l d) w x (all l d) e
  where
    all : (l : Language) (d : Definition) → EachIs (λ (t : Word × Section). flags_of t.0 ≡ flags t.1) (plain_table d ++ hierarchy_table l d)
    all language.Hddl definition.Domain = (refl, (refl, (refl, (refl, (refl, (refl, (refl, (refl, tt))))))))
    all language.Hddl definition.Problem = (refl, (refl, (refl, (refl, (refl, (refl, (refl, tt)))))))
    all language.Pddl definition.Domain = (refl, (refl, (refl, (refl, (refl, (refl, tt))))))
    all language.Pddl definition.Problem = (refl, (refl, (refl, (refl, (refl, (refl, tt))))))

-- a step from st to r with what stands in the parentheses: a keyword, and these parts
record Stepped (f : Flags) (st : RawSections) (k : Word) (qs : Parts) (r : RawSections) (table : Names) : Type 0 where
  types : StepIs (λ x. TypesSay table (Some qs) (Some x)) f.0 st.types r.types
  constants : StepIs (λ x. ObjectsSay table (Some qs) (Some x)) f.1 st.constants r.constants
  predicates : StepIs (λ x. PredicatesSay table (Some qs) (Some x)) f.2 st.predicates r.predicates
  objects : StepIs (λ x. ObjectsSay table (Some qs) (Some x)) f.3 st.objects r.objects
  network : StepIs (λ x. NetworkSays table (Some qs) (Some x)) f.4 st.network r.network
  init : StepIs (λ x. InitSays table (Some qs) (Some x)) f.5 st.init r.init
  goal : StepIs (λ x. GoalSays table (Some qs) (Some x)) f.6 st.goal r.goal
  tasks : AddsOne (λ x. ItemExact IsTask IsReadTask (part (name k) qs) x table) f.7 st.tasks r.tasks
  actions : AddsOne (λ x. ItemExact IsAction IsReadAction (part (name k) qs) x table) f.8 st.actions r.actions
  methods : AddsOne (λ x. ItemExact IsMethodOf IsReadMethod (part (name k) qs) x table) f.9 st.methods r.methods

-- by whether the keyword is this one
section_step : {X : Type 0} (Says : Option Parts → Option X → Type 0) (k w : Word) (qs ps : Parts) (b : Bool) → bytes_eq k w ≡ b → (o r after : Option X) → StepIs (λ x. Says (Some qs) (Some x)) b o r
    → FieldIs (Says (section k ps)) r after → FieldIs (Says (section k (part (group (part (name w) qs)) ps))) o after
section_step Says k w qs ps b e o r after s f =
    field_step (Says (section k (part (group (part (name w) qs)) ps))) (Says (section k ps)) (λ x. Says (Some qs) (Some x)) b
    (λ t x own. subst (λ c. Says (cond c (Some qs) (section k ps)) (Some x)) (sym (e ∙ t)) own) (λ t o own. subst (λ c. Says (cond c (Some qs) (section k ps)) o) (sym (e ∙ t)) own) o r after s f

list_step : {E R X : Type 0} (Is : E → X → Part → Type 0) (IsBound : Names → E → R → X → Type 0) (k w : Word) (qs ps : Parts) (table : Names) (b : Bool) → bytes_eq k w ≡ b → (o r after : List R)
    → AddsOne (λ x. ItemExact Is IsBound (part (name w) qs) x table) b o r → GrowsBy (λ xs. ListExact Is IsBound (only k ps) xs table) r after
    → GrowsBy (λ xs. ListExact Is IsBound (only k (part (group (part (name w) qs)) ps)) xs table) o after
list_step Is IsBound k w qs ps table b e o r after s g =
    grows_step (λ xs. ListExact Is IsBound (only k (part (group (part (name w) qs)) ps)) xs table) (λ xs. ListExact Is IsBound (only k ps) xs table) (λ x. ItemExact Is IsBound (part (name w) qs) x table) b
    (λ t x xs own is. subst (λ c. ListExact Is IsBound (cond c (part (group (part (name w) qs)) (only k ps)) (only k ps)) (x ∷ xs) table) (sym (e ∙ t)) (one_more_exact Is IsBound (part (name w) qs) (only k ps) x xs table own is))
    (λ t xs is. subst (λ c. ListExact Is IsBound (cond c (part (group (part (name w) qs)) (only k ps)) (only k ps)) xs table) (sym (e ∙ t)) is) o r after s g

step_of : (f : Flags) (w : Word) (st r y : RawSections) (qs ps : Parts) (table : Names) → flags_of w ≡ f → Stepped f st w qs r table → SectionsAre r ps y table → SectionsAre st (part (group (part (name w) qs)) ps) y table
step_of f w st r y qs ps table e s h = record {
  types = section_step (TypesSay table) (codes ":types") w qs ps f.0 (ap (λ (f : Flags). f.0) e) st.types r.types y.types s.types h.types;
  constants = section_step (ObjectsSay table) (codes ":constants") w qs ps f.1 (ap (λ (f : Flags). f.1) e) st.constants r.constants y.constants s.constants h.constants;
  predicates = section_step (PredicatesSay table) (codes ":predicates") w qs ps f.2 (ap (λ (f : Flags). f.2) e) st.predicates r.predicates y.predicates s.predicates h.predicates;
  objects = section_step (ObjectsSay table) (codes ":objects") w qs ps f.3 (ap (λ (f : Flags). f.3) e) st.objects r.objects y.objects s.objects h.objects;
  network = section_step (NetworkSays table) (codes ":htn") w qs ps f.4 (ap (λ (f : Flags). f.4) e) st.network r.network y.network s.network h.network;
  init = section_step (InitSays table) (codes ":init") w qs ps f.5 (ap (λ (f : Flags). f.5) e) st.init r.init y.init s.init h.init;
  goal = section_step (GoalSays table) (codes ":goal") w qs ps f.6 (ap (λ (f : Flags). f.6) e) st.goal r.goal y.goal s.goal h.goal;
  tasks = list_step IsTask IsReadTask (codes ":task") w qs ps table f.7 (ap (λ (f : Flags). f.7) e) st.tasks r.tasks y.tasks s.tasks h.tasks;
  actions = list_step IsAction IsReadAction (codes ":action") w qs ps table f.8 (ap (λ (f : Flags). f.8) e) st.actions r.actions y.actions s.actions h.actions;
  methods = list_step IsMethodOf IsReadMethod (codes ":method") w qs ps table f.9 (ap (λ (f : Flags). f.9) e) st.methods r.methods y.methods s.methods h.methods;
}

-- behind a keyword of the section, which does not stand yet if it may stand once
abbrev StepOf : Section → Word → RawSections → Placed → RawSections → Names → Type 0
StepOf x k st p r table = flags_of k ≡ flags x → has_section st x ≡ false → Stepped (flags x) st k (parts_of p) r table

-- a section of which nothing is kept
nothing_kept : (x : Section) (k : Word) (st y : RawSections) (p : Placed) (names : Names) (r : Result (Unit {0}) Stop) → ((table : Names) → StepOf x k st p y table) → Reads names (r >>= (λ _. Ok (y, names))) (StepOf x k st p)
nothing_kept x k st y p names r h = reads_by (StepOf x k st p) names r (λ _. Ok (y, names)) (λ _. (keeps_same names, λ table k. h table))

goal_exact : (p : Placed) (names : Names) → Reads names (goal names p) (FormulaExact (one_in (Some (parts_of p))))
unfolding goal list_due
goal_exact cut names = tt
goal_exact (close at) names = tt
goal_exact (word at w p) names = tt
goal_exact (list at p q) names =
    reads_then same (FormulaExact (group (parts_of p))) (FormulaExact (one_in (Some (part (group (parts_of p)) (parts_of q))))) names (inside names p) (λ f. end_due q >>= (λ _. Ok f)) (formula_exact p names)
    (λ f. reads_end (λ g table. FormulaExact (group (parts_of p)) f.0 table → FormulaExact (one_in (Some (part (group (parts_of p)) (parts_of q)))) g table) q f (λ e table is. subst (λ ps. FormulaExact (one_in (Some (part (group (parts_of p)) ps))) f.0 table) (sym e) is))

-- behind the keyword of a task, an action or a method
pub task_of : (ps : Parts) (x : RawTerm × RawParts) (table : Names) → NamedKnown parted.Task ps x table → ItemExact IsTask IsReadTask (part (name (codes ":task")) ps) (head_of x.0 x.1) table
task_of ps x table (w, es, e, one, known) = subst (λ ps. ItemExact IsTask IsReadTask (part (name (codes ":task")) ps) (head_of x.0 x.1) table) (sym e) (task_exact w es x.0 x.1 table one known)

pub action_of_parts : (ps : Parts) (x : RawTerm × RawParts) (table : Names) → NamedKnown parted.Action ps x table → ItemExact IsAction IsReadAction (part (name (codes ":action")) ps) (action_of x.0 x.1) table
action_of_parts ps x table (w, es, e, one, known) = subst (λ ps. ItemExact IsAction IsReadAction (part (name (codes ":action")) ps) (action_of x.0 x.1) table) (sym e) (action_exact w es x.0 x.1 table one known)

pub method_of_parts : (ps : Parts) (x : RawTerm × RawParts) (table : Names) → NamedKnown parted.Method ps x table
    → (m : RawMethod) × (method_of x.0 x.1 ≡ Some m) × ItemExact IsMethodOf IsReadMethod (part (name (codes ":method")) ps) m table
method_of_parts ps x table (w, es, e, one, known) =
    let t = method_there es x.1 table known.0 in (
      method_with x.0 x.1 t.0,
      method_is x.0 x.1 t.0 t.1,
      subst (λ ps. ItemExact IsMethodOf IsReadMethod (part (name (codes ":method")) ps) (method_with x.0 x.1 t.0) table) (sym e) (method_exact w es x.0 x.1 table one t.0 t.2 known),
    )

section_exact : (x : Section) (k : Word) (st : RawSections) (p : Placed) (names : Names) → Reads names (section_read x st names p) (StepOf x k st p)
unfolding section_read has_section
section_exact section.Requirements k st p names = nothing_kept section.Requirements k st (record st { requirements = true }) p names (words p) (λ table f e. record { types = refl; constants = refl; predicates = refl; objects = refl; network = refl; init = refl; goal = refl; tasks = refl; actions = refl; methods = refl })
section_exact section.Functions k st p names = nothing_kept section.Functions k st (record st { functions = true }) p names (passed p) (λ table f e. record { types = refl; constants = refl; predicates = refl; objects = refl; network = refl; init = refl; goal = refl; tasks = refl; actions = refl; methods = refl })
section_exact section.Domain k st p names = nothing_kept section.Domain k st (record st { domain = true }) p names (dropped_name p) (λ table f e. record { types = refl; constants = refl; predicates = refl; objects = refl; network = refl; init = refl; goal = refl; tasks = refl; actions = refl; methods = refl })
section_exact section.Metric k st p names = nothing_kept section.Metric k st (record st { metric = true }) p names (passed p) (λ table f e. record { types = refl; constants = refl; predicates = refl; objects = refl; network = refl; init = refl; goal = refl; tasks = refl; actions = refl; methods = refl })
section_exact section.Types k st p names = reads_map (TypesExact (parts_of p)) (StepOf section.Types k st p) names (listed list_kind.Types names p) (λ x. record st { types = Some x }) (types_exact p names)
    (λ x table is f e. record { types = (e, (x, refl, is)); constants = refl; predicates = refl; objects = refl; network = refl; init = refl; goal = refl; tasks = refl; actions = refl; methods = refl })
section_exact section.Constants k st p names = reads_map (AllObjectsExact (parts_of p)) (StepOf section.Constants k st p) names (listed list_kind.Objects names p) (λ x. record st { constants = Some x }) (objects_exact p names)
    (λ x table is f e. record { types = refl; constants = (e, (x, refl, is)); predicates = refl; objects = refl; network = refl; init = refl; goal = refl; tasks = refl; actions = refl; methods = refl })
section_exact section.Objects k st p names = reads_map (AllObjectsExact (parts_of p)) (StepOf section.Objects k st p) names (listed list_kind.Objects names p) (λ x. record st { objects = Some x }) (objects_exact p names)
    (λ x table is f e. record { types = refl; constants = refl; predicates = refl; objects = (e, (x, refl, is)); network = refl; init = refl; goal = refl; tasks = refl; actions = refl; methods = refl })
section_exact section.Predicates k st p names = reads_map (ListExact IsPredicate IsReadPredicate (parts_of p)) (StepOf section.Predicates k st p) names (all_of predicate_headed names p) (λ x. record st { predicates = Some x }) (predicates_exact p names)
    (λ x table is f e. record { types = refl; constants = refl; predicates = (e, (x, refl, is)); objects = refl; network = refl; init = refl; goal = refl; tasks = refl; actions = refl; methods = refl })
section_exact section.Network k st p names = reads_map (λ y table. IsWhole p × PartsKnown parted.Network (parts_of p) y table) (StepOf section.Network k st p) names (parts parted.Network no_parts names p) (λ x. record st { network = Some x }) (parts_known parted.Network p names)
    (λ x table is f e. record { types = refl; constants = refl; predicates = refl; objects = refl; network = (e, (x, refl, is.1)); init = refl; goal = refl; tasks = refl; actions = refl; methods = refl })
section_exact section.Init k st p names = reads_map (FactsExact (parts_of p)) (StepOf section.Init k st p) names (facts names p) (λ x. record st { init = Some x }) (facts_exact p names)
    (λ x table is f e. record { types = refl; constants = refl; predicates = refl; objects = refl; network = refl; init = (e, (x, refl, is)); goal = refl; tasks = refl; actions = refl; methods = refl })
section_exact section.Goal k st p names = reads_map (FormulaExact (one_in (Some (parts_of p)))) (StepOf section.Goal k st p) names (goal names p) (λ x. record st { goal = Some x }) (goal_exact p names)
    (λ x table is f e. record { types = refl; constants = refl; predicates = refl; objects = refl; network = refl; init = refl; goal = (e, (x, refl, is)); tasks = refl; actions = refl; methods = refl })
section_exact section.Task k st p names = reads_map (λ x table. IsWhole p × NamedKnown parted.Task (parts_of p) x table) (StepOf section.Task k st p) names (named_parts parted.Task names p) (λ x. record st { tasks = st.tasks ++ head_of x.0 x.1 ∷ [] }) (named_known parted.Task p names)
    (λ x table is f e. record { types = refl; constants = refl; predicates = refl; objects = refl; network = refl; init = refl; goal = refl; tasks = (head_of x.0 x.1, refl, subst (λ k. ItemExact IsTask IsReadTask (part (name k) (parts_of p)) (head_of x.0 x.1) table) (bytes_eq-true (codes ":task") k (ap (λ (f : Flags). f.7) f)) (task_of (parts_of p) x table is.1)); actions = refl; methods = refl })
section_exact section.Action k st p names = reads_map (λ x table. IsWhole p × NamedKnown parted.Action (parts_of p) x table) (StepOf section.Action k st p) names (named_parts parted.Action names p) (λ x. record st { actions = st.actions ++ action_of x.0 x.1 ∷ [] }) (named_known parted.Action p names)
    (λ x table is f e. record { types = refl; constants = refl; predicates = refl; objects = refl; network = refl; init = refl; goal = refl; tasks = refl; actions = (action_of x.0 x.1, refl, subst (λ k. ItemExact IsAction IsReadAction (part (name k) (parts_of p)) (action_of x.0 x.1) table) (bytes_eq-true (codes ":action") k (ap (λ (f : Flags). f.8) f)) (action_of_parts (parts_of p) x table is.1)); methods = refl })
section_exact section.Method k st p names = reads_map (λ x table. IsWhole p × NamedKnown parted.Method (parts_of p) x table) (StepOf section.Method k st p) names (named_parts parted.Method names p) (λ x. record st { methods = st.methods ++ with_kept (method_of x.0 x.1) [] }) (named_known parted.Method p names)
    (λ x table is f e.
    let m = method_of_parts (parts_of p) x table is.1 in
    record { types = refl; constants = refl; predicates = refl; objects = refl; network = refl; init = refl; goal = refl; tasks = refl; actions = refl; methods = (m.0, ap (λ o. st.methods ++ with_kept o []) m.1, subst (λ k. ItemExact IsMethodOf IsReadMethod (part (name k) (parts_of p)) m.0 table) (bytes_eq-true (codes ":method") k (ap (λ (f : Flags). f.9) f)) m.2) })

-- one section in its parentheses, in front of others
abbrev InFront : RawSections → Parts → RawSections → Names → Type 0
InFront st qs r table = (y : RawSections) (ps : Parts) → SectionsAre r ps y table → SectionsAre st (part (group qs) ps) y table

inside_exact : (p : Placed) (l : Language) (d : Definition) (st : RawSections) (names : Names) → Reads names (section_inside l d st names p) (InFront st (parts_of p))
unfolding section_inside word_due
inside_exact cut l d st names = tt
inside_exact (close at) l d st names = tt
inside_exact (list at p q) l d st names = tt
inside_exact (word at w p) l d st names =
    keyed (InFront st (part (name w) (parts_of p))) names (section_of l d w) (has_section st) at w (λ x. section_read x st names p)
    (λ x e f. reads_weaken (StepOf x w st p) (InFront st (part (name w) (parts_of p))) names (section_read x st names p) (section_exact x w st p names)
    (λ r table step y ps is. step_of (flags x) w st r y (parts_of p) ps table (flagged l d w x e) (step (flagged l d w x e) f) is))

pub sections_exact : (p : Placed) (l : Language) (d : Definition) (st : RawSections) (names : Names) → Reads names (sections l d st names p) (SectionsAre st (parts_of p))
unfolding sections
sections_exact cut l d st names = tt
sections_exact (close at) l d st names = go (may_end l d st)
  where
    go : (b : Bool) → Reads names (if b then Ok (st, names) else Err (Departs 8 at)) (SectionsAre st nothing)
    go true = (keeps_same names, λ table k. none_left st table)
    go false = tt
sections_exact (word at w p) l d st names = tt
sections_exact (list at p q) l d st names =
    reads_then same (InFront st (parts_of p)) (SectionsAre st (part (group (parts_of p)) (parts_of q))) names (section_inside l d st names p) (λ r. sections l d r.0 r.1 q) (inside_exact p l d st names)
    (λ r. reads_weaken (SectionsAre r.0 (parts_of q)) (λ y table. InFront st (parts_of p) r.0 table → SectionsAre st (part (group (parts_of p)) (parts_of q)) y table) r.1 (sections l d r.0 r.1 q) (sections_exact q l d r.0 r.1)
    (λ y table is front. front y (parts_of q) is))
