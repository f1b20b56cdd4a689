-- The domain, the problem and the whole value, of HDDL or of PDDL, that something read stands for, once its names are bound.
-- Source: this project's.
use Rattle.std.specs.Prelude.{◌≡◌, ◌⊎◌, ◌↔◌, true, false, ◌++◌, List, [], codes}
use Rattle.htn_base.specs.Different.{AreDifferent}
use Rattle.text_forms.specs.Words.{Word, word_at}
use Rattle.plan_texts.specs.Declared.{Declared, named, type_words}
use Rattle.plan_texts.specs.Domains.{Domain, domain_words, Problem}
use Rattle.plan_texts.specs.SpellsHddl.{words_of_tasks, words_of_actions, hddl_words, task_words, action_words, hddl_domain, hddl_problem}
use Rattle.plan_texts.specs.SpellsPddl.{pddl_words, pddl_domain, pddl_problem}
use Rattle.plan_texts.specs.Together.{Together}
use Rattle.plan_texts.specs.Types.{Has, TypeItem, Mentions, IsPairSaid, IsPairOf}
use Rattle.plan_model.specs.declared.schemas.MethodSchema.{MethodSchema}
use Rattle.plan_model.specs.declared.types.Object.{Object}
use Rattle.plan_model.specs.declared.types.Parent.{Parent}
use Rattle.plan_model.specs.declared.values.Hddl.{Hddl}
use Rattle.plan_model.specs.declared.values.Pddl.{Pddl}
use Rattle.gd_reader.specs.declared.typed_lists.RawParam.{RawParam}
use Rattle.gd_reader.specs.Terms.{Names}
use Rattle.hddl_reader.specs.declared.networks.RawNet.{RawNet}
use Rattle.hddl_reader.specs.declared.sections.RawDomain.{RawDomain}
use Rattle.hddl_reader.specs.declared.sections.RawProblem.{RawProblem}
use Rattle.text_values.specs.form_spellings.Bound.{IsBoundObject, IsBoundFormula, IsBoundType}
use Rattle.text_values.specs.form_spellings.BoundSchemas.{IsBoundPredicate, IsBoundTask, IsBoundAction, IsBoundMethod, IsBoundTop, IsBoundFact}

-- The types are object and those that are mentioned, each once, and the pairs are those that are written, or object for a type without
-- a parent.
pub record AreBoundTypes (v : Declared) (table : Names) (types : List Word) (parents : List Parent) (rs : List RawParam) : Type 0 where
  pub items : List TypeItem
  pub bound : Together (IsBoundType v table) rs items
  pub first : word_at types 0 ≡ codes "object"
  pub different : AreDifferent types
  pub same_words : (w : Word) → Has types w ↔ ((w ≡ codes "object") ⊎ Mentions items w)
  pub same_pairs : (c q : Word) → IsPairOf types parents c q ↔ IsPairSaid items c q

-- each part of the domain in the order in which it is read
pub record IsBoundDomain (table : Names) (r : RawDomain) (d : Domain) : Type 0 where
  pub types : AreBoundTypes (domain_words d) table (type_words d.names d.types) d.types.parents r.types
  pub constants : Together (IsBoundObject (domain_words d) table true) r.constants d.constants
  pub predicates : Together (IsBoundPredicate (domain_words d) table) r.predicates d.predicates
  pub tasks : Together (IsBoundTask (domain_words d) table) r.tasks d.tasks
  pub actions : Together (IsBoundAction (domain_words d) table) r.actions d.actions
  pub methods : Together (IsBoundMethod (domain_words d) table (words_of_tasks d.names d.tasks) (words_of_actions d.names d.actions)) r.methods d.methods

-- v has the words that the problem may use, and tasks and actions have these
pub record IsBoundProblem (table : Names) (v : Declared) (tasks actions : List Word) (r : RawProblem) (p : Problem) (network : MethodSchema) : Type 0 where
  pub objects : Together (IsBoundObject v table false) r.objects p.objects
  pub init : Together (IsBoundFact v table) r.init p.init
  pub goal : IsBoundFormula v table r.goal [] p.goal
  pub top : IsBoundTop v table tasks actions r.params r.net network

-- the value has a domain and a problem of these names, to which what was read is bound: constants in front of the problem's own objects
pub record IsBoundHddl (table : Names) (d : RawDomain) (p : RawProblem) (h : Hddl) : Type 0 where
  pub domain_name : named h.names h.domain ≡ named table d.name
  pub problem_name : named h.names h.problem ≡ named table p.name
  pub constants : List Object
  pub others : List Object
  pub objects : h.objects ≡ constants ++ others
  pub in_domain : IsBoundDomain table d (hddl_domain h constants)
  pub in_problem : IsBoundProblem table (hddl_words h) (task_words h) (action_words h) p (hddl_problem h others) h.top

abbrev pub no_network : RawNet
no_network = record { subs = []; ordered = false; pairs = []; constraints = [] }

-- a problem of PDDL, which has no network
pub record IsBoundPddlProblem (table : Names) (v : Declared) (r : RawProblem) (p : Problem) : Type 0 where
  pub objects : Together (IsBoundObject v table false) r.objects p.objects
  pub init : Together (IsBoundFact v table) r.init p.init
  pub goal : IsBoundFormula v table r.goal [] p.goal
  pub params : r.params ≡ []
  pub net : r.net ≡ no_network

-- likewise of PDDL, where the domain has no tasks and no methods
pub record IsBoundPddl (table : Names) (d : RawDomain) (p : RawProblem) (c : Pddl) : Type 0 where
  pub domain_name : named c.names c.domain ≡ named table d.name
  pub problem_name : named c.names c.problem ≡ named table p.name
  pub constants : List Object
  pub others : List Object
  pub objects : c.objects ≡ constants ++ others
  pub in_domain : IsBoundDomain table d (pddl_domain c constants)
  pub in_problem : IsBoundPddlProblem table (pddl_words c) p (pddl_problem c others)
