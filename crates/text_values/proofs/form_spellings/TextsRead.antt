-- What was read of two texts is bound to exactly the values, of HDDL or of PDDL, that they spell.
use Rattle.std.proofs.Common.{◌≡◌, ◌∙◌, ◌↔◌, ℕ, ◌+◌, inl, inr, true, false, codes, Option, Some, None, List, [], ◌∷◌, refl, sym, ap, subst}
use Rattle.htn_base.specs.declared.name.Name.{Name}
use Rattle.text_forms.specs.Bytes.{Class, blank, opening, closing, letter, bad, classes, are_good, is_clean}
use Rattle.text_forms.specs.Faults.{Fault, fault, open_after, HasFault, IsFaultless}
use Rattle.text_forms.specs.Lists.{Parts, name, nothing, part}
use Rattle.text_forms.specs.Placed.{parts_at}
use Rattle.text_forms.specs.Printing.{headed}
use Rattle.text_forms.specs.Words.{Word}
use Rattle.text_forms.proofs.Levels.{says_as_placed}
use Rattle.plan_texts.specs.Declared.{Declared, named, type_words}
use Rattle.plan_texts.specs.Domains.{Domain, domain_words, Problem, AreDomainSections, AreProblemSections, IsDefinition, AreDefinitions}
use Rattle.plan_texts.specs.Networks.{IsTask, IsMethod, IsTop}
use Rattle.plan_texts.specs.Sections.{are_sections, section, parts_in, only, domain_once, domain_many, problem_once}
use Rattle.plan_texts.specs.SpellsHddl.{hddl_many, hddl_problem_once, words_of_tasks, words_of_actions, AreHddlDomainSections, AreHddlProblemSections, hddl_words, task_words, action_words, hddl_domain, hddl_problem, SpellsHddl}
use Rattle.plan_texts.specs.SpellsPddl.{pddl_words, pddl_domain, pddl_problem, SpellsPddl}
use Rattle.plan_texts.specs.Together.{Together}
use Rattle.plan_texts.specs.TypedLists.{Each}
use Rattle.plan_texts.specs.Types.{AreTypes}
use Rattle.plan_model.specs.declared.schemas.MethodSchema.{MethodSchema}
use Rattle.plan_model.specs.declared.types.Object.{Object}
use Rattle.plan_model.specs.declared.types.Parent.{Parent}
use Rattle.plan_model.specs.declared.values.Hddl.{Hddl}
use Rattle.plan_model.specs.declared.values.Pddl.{Pddl}
use Rattle.gd_reader.specs.declared.typed_lists.RawParam.{RawParam}
use Rattle.gd_reader.specs.Terms.{Names, Keeps}
use Rattle.hddl_reader.specs.declared.parts.RawParts.{RawParts}
use Rattle.hddl_reader.specs.declared.sections.Definition.{Definition}
use Rattle.hddl_reader.specs.declared.sections.Definition.TheVariants as definition
use Rattle.hddl_reader.specs.declared.sections.Language.{Language}
use Rattle.hddl_reader.specs.declared.sections.Language.TheVariants as language
use Rattle.hddl_reader.specs.declared.sections.RawDomain.{RawDomain}
use Rattle.hddl_reader.specs.declared.sections.RawProblem.{RawProblem}
use Rattle.hddl_reader.specs.declared.raw_sections.RawSections.{RawSections}
use Rattle.hddl_reader.specs.Definitions.{domain_of, or_empty, problem_of, definition_read, IsRead, IsDomainRead, IsProblemRead}
use Rattle.hddl_reader.specs.Sections.{no_sections, or_none, or_true, network_of}
use Rattle.text_values.specs.form_spellings.Bound.{IsBoundObject, IsBoundFormula}
use Rattle.text_values.specs.form_spellings.BoundSchemas.{IsBoundTop, IsBoundFact}
use Rattle.text_values.specs.form_spellings.BoundTexts.{AreBoundTypes, IsBoundDomain, IsBoundProblem, IsBoundHddl, IsBoundPddlProblem, IsBoundPddl}
use Rattle.text_values.specs.form_spellings.ReadOf.{OfEachWhole}
use Rattle.text_values.specs.form_spellings.ReadTexts.{AreRead, BoundHddlIsSpelled, SpelledHddlIsBound, BoundPddlIsSpelled, SpelledPddlIsBound, HasNoTasks, HasNoNetwork}
use Rattle.text_values.specs.form_spellings.SpellsSomeSections.{AreSomeDomainSections, AreSomeProblemSections, AreSomeHddlProblemSections, IsThere, IsDefined}
use Rattle.text_values.specs.form_spellings.SpellsSomeParts.{AreNetworkParts}
use Rattle.text_values.proofs.form_spellings.NamesIn.{stands}
use Rattle.text_values.proofs.form_spellings.NoSections.{no_tasks, no_methods, no_htn, none_listed, no_words}
use Rattle.text_values.proofs.form_spellings.SchemasExact.{IsMethodOf, IsReadMethod, top_exact}
use Rattle.text_values.proofs.form_spellings.SectionsExact.{NetworkSays, SectionsAre, IsReadTask, TasksSay, ActionsSay, MethodsSay}
use Rattle.text_values.proofs.form_spellings.TermsExact.{TypesExact}
use Rattle.text_values.proofs.form_spellings.TextsExact.{IsHeaded, DefinitionIs, definition_exact}
use Rattle.text_forms.specs.form_grammar.Sections.{hddl, pddl, domain, problem}
use Rattle.text_values.proofs.form_spellings.WholeDefinitions.{whole_definitions}

-- A text without faults of tokens has no bad byte.
good : (ps : List ℕ) (at : ℕ) (cs : List Class) → ((f : Fault) → HasFault ps at cs f → ⊥) → are_good cs ≡ true
good ps at [] none = refl
good ps at (bad ∷ cs) none = absurd (none (fault 1 at) (inl (1, refl, refl)))
good ps at (blank ∷ cs) none = good (open_after ps at blank) (at + 1) cs (λ f h. none f (inr h))
good ps at (opening ∷ cs) none = good (open_after ps at opening) (at + 1) cs (λ f h. none f (inr h))
good ps at (closing ∷ cs) none = good (open_after ps at closing) (at + 1) cs (λ f h. none f (inr h))
good ps at (letter ∷ cs) none = good (open_after ps at letter) (at + 1) cs (λ f h. none f (inr h))

clean : (text : List ℕ) → IsFaultless text → is_clean text ≡ true
clean text none = good [] 0 (classes text) none

-- types
types_exact : (v : Declared) (table : Names) (types : List Word) (parents : List Parent) (rs : List RawParam) (ps : Parts) → TypesExact ps rs table → AreBoundTypes v table types parents rs ↔ AreTypes types parents ps
types_exact v table types parents rs ps is = (
  λ b. record { items = b.items; spelled = (is v b.items).0 b.bound; first = b.first; different = b.different; same_words = b.same_words; same_pairs = b.same_pairs },
  λ i. record { items = i.items; bound = (is v i.items).1 i.spelled; first = i.first; different = i.different; same_words = i.same_words; same_pairs = i.same_pairs },
)

module _ (n : Name) (y : RawSections) (ss : Parts) (table : Names) (h : SectionsAre no_sections ss y table) where
  -- all that is read is added to nothing
  all_tasks : TasksSay table (only (codes ":task") ss) y.tasks
  all_tasks = subst (TasksSay table (only (codes ":task") ss)) (sym h.tasks.1) h.tasks.2

  all_actions : ActionsSay table (only (codes ":action") ss) y.actions
  all_actions = subst (ActionsSay table (only (codes ":action") ss)) (sym h.actions.1) h.actions.2

  all_methods : MethodsSay table (only (codes ":method") ss) y.methods
  all_methods = subst (MethodsSay table (only (codes ":method") ss)) (sym h.methods.1) h.methods.2

  module _ (d : Domain) where
    abbrev calls : Declared × List Word × List Word
    calls = (domain_words d, words_of_tasks d.names d.tasks, words_of_actions d.names d.actions)

    same_types : AreBoundTypes (domain_words d) table (type_words d.names d.types) d.types.parents (or_none y.types) ↔ AreTypes (type_words d.names d.types) d.types.parents (parts_in (section (codes ":types") ss))
    same_types = types_exact (domain_words d) table (type_words d.names d.types) d.types.parents (or_none y.types) (parts_in (section (codes ":types") ss)) h.types

    common_to : (many : List Word) → AreSomeDomainSections many ss → IsBoundDomain table (domain_of (n, y)) d → AreDomainSections many d ss
    common_to many some b = record {
      domain_form = some.form;
      domain_requires = some.requires;
      types = same_types.0 b.types;
      constants_spelled = (h.constants.0 (domain_words d) d.constants).0 b.constants;
      predicates = (h.predicates (domain_words d) d.predicates).0 b.predicates;
      actions = (all_actions (domain_words d) d.actions).0 b.actions;
    }

    domain_to : AreSomeDomainSections hddl_many ss → IsBoundDomain table (domain_of (n, y)) d → AreHddlDomainSections d ss
    domain_to some b = record { common = common_to hddl_many some b; tasks = (all_tasks (domain_words d) d.tasks).0 b.tasks; methods = (all_methods calls d.methods).0 b.methods }

    domain_by : (many : List Word) → AreDomainSections many d ss → Each (IsTask (domain_words d)) d.tasks (only (codes ":task") ss)
        → Each (IsMethod (domain_words d) (words_of_tasks d.names d.tasks) (words_of_actions d.names d.actions)) d.methods (only (codes ":method") ss) → IsBoundDomain table (domain_of (n, y)) d
    domain_by many i tasks methods = record {
      types = same_types.1 i.types;
      constants = (h.constants.0 (domain_words d) d.constants).1 i.constants_spelled;
      predicates = (h.predicates (domain_words d) d.predicates).1 i.predicates;
      tasks = (all_tasks (domain_words d) d.tasks).1 tasks;
      actions = (all_actions (domain_words d) d.actions).1 i.actions;
      methods = (all_methods calls d.methods).1 methods;
    }

    pub domain_from : AreHddlDomainSections d ss → IsBoundDomain table (domain_of (n, y)) d
    domain_from i = domain_by hddl_many i.common i.tasks i.methods

  -- a domain of PDDL has no tasks and no methods
  pub pddl_domain_from : (c : Pddl) (constants : List Object) → AreDomainSections domain_many (pddl_domain c constants) ss → IsBoundDomain table (domain_of (n, y)) (pddl_domain c constants)
  pddl_domain_from c constants i =
      let d = pddl_domain c constants in
      domain_by d domain_many i (subst (Each (IsTask (domain_words d)) []) (sym (no_tasks ss i.domain_form)) tt)
      (subst (Each (IsMethod (domain_words d) [] (words_of_actions d.names d.actions)) []) (sym (no_methods ss i.domain_form)) tt)

  pddl_tasks : are_sections domain_once domain_many ss ≡ true → HasNoTasks (domain_of (n, y))
  pddl_tasks form = (
    none_listed IsTask IsReadTask no_words y.tasks table (subst (λ ps. TasksSay table ps y.tasks) (no_tasks ss form) all_tasks),
    none_listed IsMethodOf IsReadMethod (no_words, [], []) y.methods table (subst (λ ps. MethodsSay table ps y.methods) (no_methods ss form) all_methods),
  )

  -- the network of a problem was read
  abbrev IsTopOf : Declared → List Word → List Word → MethodSchema → Parts → Type 0
  IsTopOf v tasks actions m htn = IsBoundTop v table tasks actions (or_none (or_empty y.network).params) (network_of (or_empty y.network)) m ↔ IsTop v tasks actions m htn

  top_there : (htn : Parts) → section (codes ":htn") ss ≡ Some htn → (v : Declared) (tasks actions : List Word) (m : MethodSchema) → IsTopOf v tasks actions m htn
  top_there htn e v tasks actions m = go y.network (subst (λ s. NetworkSays table s y.network) e h.network)
    where
      go : (o : Option RawParts) → NetworkSays table (Some htn) o → IsBoundTop v table tasks actions (or_none (or_empty o).params) (network_of (or_empty o)) m ↔ IsTop v tasks actions m htn
      go None k = absurd k
      go (Some z) k = top_exact htn z table k v tasks actions m

  module _ (v : Declared) (x : Problem) where
    problem_common : (once : List Word) → AreSomeProblemSections once ss → Together (IsBoundObject v table false) (or_none y.objects) x.objects → Together (IsBoundFact v table) (or_none y.init) x.init
        → IsBoundFormula v table (or_true y.goal) [] x.goal → AreProblemSections once v x ss
    problem_common once some objects init goal = record {
      problem_form = some.form;
      problem_requires = some.requires;
      of_domain = some.of_domain;
      others_spelled = (h.objects.1 v x.objects).0 objects;
      init_form = some.init_form;
      init = (h.init v x.init).0 init;
      goal = (h.goal v [] x.goal).0 goal;
    }

  module _ (v : Declared) (tasks actions : List Word) (x : Problem) (m : MethodSchema) where
    problem_to : AreSomeHddlProblemSections hddl_problem_once ss → IsBoundProblem table v tasks actions (problem_of (n, y)) x m → AreHddlProblemSections v tasks actions x m ss
    problem_to some b = go (section (codes ":htn") ss) refl some.top
      where
        go : (o : Option Parts) → section (codes ":htn") ss ≡ o → IsThere AreNetworkParts o → AreHddlProblemSections v tasks actions x m ss
        go None e t = absurd t
        go (Some htn) e t = record { common = problem_common v x hddl_problem_once some.common b.objects b.init b.goal; htn = htn; htn_there = e; top = (top_there htn e v tasks actions m).0 b.top }

    pub problem_from : AreHddlProblemSections v tasks actions x m ss → IsBoundProblem table v tasks actions (problem_of (n, y)) x m
    problem_from i = record {
      objects = (h.objects.1 v x.objects).1 i.others_spelled;
      init = (h.init v x.init).1 i.init;
      goal = (h.goal v [] x.goal).1 i.goal;
      top = (top_there i.htn i.htn_there v tasks actions m).1 i.top;
    }

  -- a problem of PDDL has no network
  pddl_network : are_sections problem_once [] ss ≡ true → HasNoNetwork (problem_of (n, y))
  pddl_network form =
      let e : y.network ≡ None = subst (λ s. NetworkSays table s y.network) (no_htn ss form) h.network in
      (ap (λ o. or_none (or_empty o).params) e, ap (λ o. network_of (or_empty o)) e)

  pub pddl_problem_from : (v : Declared) (x : Problem) → AreProblemSections problem_once v x ss → IsBoundPddlProblem table v (problem_of (n, y)) x
  pddl_problem_from v x i =
      let none = pddl_network i.problem_form in
      record { objects = (h.objects.1 v x.objects).1 i.others_spelled; init = (h.init v x.init).1 i.init; goal = (h.goal v [] x.goal).1 i.goal; params = none.0; net = none.1 }

-- a text, and what was read of it
module _ (l : Language) (d : Definition) (kind : Word) (text : List ℕ) (names left later : Names) (x : Name × RawSections) (is : IsRead l d names text x left) (keeps : Keeps left later) where
  abbrev Text : Word → Parts → Parts
  Text w ss = part (name (codes "define")) (part (headed kind (part (name w) nothing)) ss)

  known : DefinitionIs (parts_at text 0) x later
  known = stands (DefinitionIs (parts_at text 0)) names left (definition_read l d names (parts_at text 0)) x is.gives (definition_exact (parts_at text 0) l d names) later keeps

  pub read_of : (w : Word) (ss : Parts) → IsDefinition kind text w ss → IsHeaded w ss x later
  read_of w ss i = known kind w ss ((says_as_placed text (Text w ss)).0 i.is)

  headed_of : {Are : Parts → Type 0} (s : IsDefined kind Are (parts_at text 0)) → IsHeaded s.0 s.1 x later
  headed_of s = known kind s.0 s.1 s.2

  defined_of : {Are : Parts → Type 0} → IsFaultless text → (s : IsDefined kind Are (parts_at text 0)) → (w : Word) → w ≡ s.0 → IsDefinition kind text w s.1
  defined_of f s w e = subst (λ w. IsDefinition kind text w s.1) (sym e) (record { clean = clean text f; is = (says_as_placed text (Text s.0 s.1)).1 s.2; named = s.3 })

-- both texts, by the sections that were read of them
module _ (l : Language) (text other : List ℕ) (table : Names) (names left : Names) (y : Name × RawSections) (dr : IsRead l definition.Domain names text y left) (dk : Keeps left table)
    (names' left' : Names) (z : Name × RawSections) (pr : IsRead l definition.Problem names' other z left') (pk : Keeps left' table) where
  abbrev Domains : (Parts → Type 0) → Type 0
  Domains Are = IsDefined (codes "domain") Are (parts_at text 0)

  abbrev Problems : (Parts → Type 0) → Type 0
  Problems Are = IsDefined (codes "problem") Are (parts_at other 0)

  domain_headed : {Are : Parts → Type 0} (s : Domains Are) → IsHeaded s.0 s.1 y table
  domain_headed s = headed_of l definition.Domain (codes "domain") text names left table y dr dk s

  problem_headed : {Are : Parts → Type 0} (t : Problems Are) → IsHeaded t.0 t.1 z table
  problem_headed t = headed_of l definition.Problem (codes "problem") other names' left' table z pr pk t

  -- with the names of what was read
  abbrev texts_of : {DomainAre ProblemAre : Parts → Type 0} → IsFaultless text → IsFaultless other → (s : Domains DomainAre) (t : Problems ProblemAre) (w u : Word) → w ≡ named table y.0 → u ≡ named table z.0 → AreDefinitions text other w u
  texts_of tf of s t w u e f = record {
    domain_sections = s.1;
    problem_sections = t.1;
    domain_text = defined_of l definition.Domain (codes "domain") text names left table y dr dk tf s w (e ∙ (domain_headed s).0);
    problem_text = defined_of l definition.Problem (codes "problem") other names' left' table z pr pk of t u (f ∙ (problem_headed t).0);
  }

  domain_read_of : (w u : Word) (texts : AreDefinitions text other w u) → IsHeaded w texts.domain_sections y table
  domain_read_of w u texts = read_of l definition.Domain (codes "domain") text names left table y dr dk w texts.domain_sections texts.domain_text

  problem_read_of : (w u : Word) (texts : AreDefinitions text other w u) → IsHeaded u texts.problem_sections z table
  problem_read_of w u texts = read_of l definition.Problem (codes "problem") other names' left' table z pr pk u texts.problem_sections texts.problem_text

  spelled : Domains (AreSomeDomainSections hddl_many) → Problems (AreSomeHddlProblemSections hddl_problem_once) → IsFaultless text → IsFaultless other → (h : Hddl) → IsBoundHddl table (domain_of y) (problem_of z) h → SpellsHddl text other h
  spelled s t tf of h b = record {
    texts = texts_of tf of s t (named h.names h.domain) (named h.names h.problem) b.domain_name b.problem_name;
    sections = record {
      constants = b.constants;
      others = b.others;
      objects = b.objects;
      in_domain = domain_to y.0 y.1 s.1 table (domain_headed s).1 (hddl_domain h b.constants) s.4 b.in_domain;
      in_problem = problem_to z.0 z.1 t.1 table (problem_headed t).1 (hddl_words h) (task_words h) (action_words h) (hddl_problem h b.others) h.top t.4 b.in_problem;
    };
  }

  bound : (h : Hddl) → SpellsHddl text other h → IsBoundHddl table (domain_of y) (problem_of z) h
  bound h c =
      let hd = domain_read_of (named h.names h.domain) (named h.names h.problem) c.texts in
      let hp = problem_read_of (named h.names h.domain) (named h.names h.problem) c.texts in
      record {
        domain_name = sym hd.0;
        problem_name = sym hp.0;
        constants = c.sections.constants;
        others = c.sections.others;
        objects = c.sections.objects;
        in_domain = domain_from y.0 y.1 c.texts.domain_sections table hd.1 (hddl_domain h c.sections.constants) c.sections.in_domain;
        in_problem = problem_from z.0 z.1 c.texts.problem_sections table hp.1 (hddl_words h) (task_words h) (action_words h) (hddl_problem h c.sections.others) h.top c.sections.in_problem;
      }

  pddl_is_spelled : Domains (AreSomeDomainSections domain_many) → Problems (AreSomeProblemSections problem_once) → IsFaultless text → IsFaultless other → (c : Pddl) → IsBoundPddl table (domain_of y) (problem_of z) c → SpellsPddl text other c
  pddl_is_spelled s t tf of c b = record {
    texts = texts_of tf of s t (named c.names c.domain) (named c.names c.problem) b.domain_name b.problem_name;
    sections = record {
      constants = b.constants;
      others = b.others;
      objects = b.objects;
      in_domain = common_to y.0 y.1 s.1 table (domain_headed s).1 (pddl_domain c b.constants) domain_many s.4 b.in_domain;
      in_problem = problem_common z.0 z.1 t.1 table (problem_headed t).1 (pddl_words c) (pddl_problem c b.others) problem_once t.4 b.in_problem.objects b.in_problem.init b.in_problem.goal;
    };
  }

  pddl_is_bound : (c : Pddl) → SpellsPddl text other c → IsBoundPddl table (domain_of y) (problem_of z) c
  pddl_is_bound c i =
      let hd = domain_read_of (named c.names c.domain) (named c.names c.problem) i.texts in
      let hp = problem_read_of (named c.names c.domain) (named c.names c.problem) i.texts in
      record {
        domain_name = sym hd.0;
        problem_name = sym hp.0;
        constants = i.sections.constants;
        others = i.sections.others;
        objects = i.sections.objects;
        in_domain = pddl_domain_from y.0 y.1 i.texts.domain_sections table hd.1 c i.sections.constants i.sections.in_domain;
        in_problem = pddl_problem_from z.0 z.1 i.texts.problem_sections table hp.1 (pddl_words c) (pddl_problem c i.sections.others) i.sections.in_problem;
      }

module _ (l : Language) (text other : List ℕ) (table : Names) (d : RawDomain) (p : RawProblem) (r : AreRead l text other table d p) where
  -- what holds of what the sections give holds of what was read
  of_read : (P : RawDomain → RawProblem → Type 0) → P (domain_of r.domain_read.0) (problem_of r.problem_read.0) → P d p
  of_read P h = subst (λ d. P d p) (sym r.domain_read.1) (subst (P (domain_of r.domain_read.0)) (sym r.problem_read.1) h)

  of_sections : (P : RawDomain → RawProblem → Type 0) → P d p → P (domain_of r.domain_read.0) (problem_of r.problem_read.0)
  of_sections P h = subst (λ d. P d (problem_of r.problem_read.0)) r.domain_read.1 (subst (P d) r.problem_read.1 h)

pub hddl_spelled : BoundHddlIsSpelled
hddl_spelled text other table d p r tf of h b =
    let dr = r.domain_read in
    let pr = r.problem_read in
    spelled language.Hddl text other table r.before_domain r.behind_domain dr.0 dr.2 r.keeps_domain r.before_problem r.behind_problem pr.0 pr.2 r.keeps_problem
    ((whole_definitions hddl domain (parts_at text 0)).0 dr.2.whole) ((whole_definitions hddl problem (parts_at other 0)).0 pr.2.whole) tf of h (of_sections language.Hddl text other table d p r (λ d p. IsBoundHddl table d p h) b)

pub hddl_bound : SpelledHddlIsBound
hddl_bound text other table d p r h c =
    let dr = r.domain_read in
    let pr = r.problem_read in
    of_read language.Hddl text other table d p r (λ d p. IsBoundHddl table d p h)
    (bound language.Hddl text other table r.before_domain r.behind_domain dr.0 dr.2 r.keeps_domain r.before_problem r.behind_problem pr.0 pr.2 r.keeps_problem h c)

pub pddl_spelled : BoundPddlIsSpelled
pddl_spelled text other table d p r tf of c b =
    let dr = r.domain_read in
    let pr = r.problem_read in
    pddl_is_spelled language.Pddl text other table r.before_domain r.behind_domain dr.0 dr.2 r.keeps_domain r.before_problem r.behind_problem pr.0 pr.2 r.keeps_problem
    ((whole_definitions pddl domain (parts_at text 0)).0 dr.2.whole) ((whole_definitions pddl problem (parts_at other 0)).0 pr.2.whole) tf of c (of_sections language.Pddl text other table d p r (λ d p. IsBoundPddl table d p c) b)

pub pddl_bound : SpelledPddlIsBound
pddl_bound text other table d p r c i =
    let dr = r.domain_read in
    let pr = r.problem_read in
    of_read language.Pddl text other table d p r (λ d p. IsBoundPddl table d p c)
    (pddl_is_bound language.Pddl text other table r.before_domain r.behind_domain dr.0 dr.2 r.keeps_domain r.before_problem r.behind_problem pr.0 pr.2 r.keeps_problem c i)

-- what a PDDL text cannot say is not read of it
pub domains_have_no_tasks : OfEachWhole (IsDomainRead language.Pddl) (λ text table. HasNoTasks)
domains_have_no_tasks text names later x r k =
    let s = (whole_definitions pddl domain (parts_at text 0)).0 r.2.whole in
    let hd = headed_of language.Pddl definition.Domain (codes "domain") text names x.1 later r.0 r.2 k s in
    subst HasNoTasks (sym r.1) (pddl_tasks r.0.0 r.0.1 s.1 later hd.1 s.4.form)

pub problems_have_no_network : OfEachWhole (IsProblemRead language.Pddl) (λ text table. HasNoNetwork)
problems_have_no_network text names later x r k =
    let s = (whole_definitions pddl problem (parts_at text 0)).0 r.2.whole in
    let hp = headed_of language.Pddl definition.Problem (codes "problem") text names x.1 later r.0 r.2 k s in
    subst HasNoNetwork (sym r.1) (pddl_network r.0.0 r.0.1 s.1 later hp.1 s.4.form)
