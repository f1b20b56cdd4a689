-- Values that are equal once each number of a name or a type is replaced by its words.
-- Source: this project's.
use Rattle.std.specs.Prelude.{ℕ, ◌≡◌, ◌↔◌, Bool, List, map, Option, option_map}
use Rattle.text_forms.specs.Words.{Word, word_at}
use Rattle.plan_texts.specs.Declared.{Declared, named, type_words}
use Rattle.plan_texts.specs.Types.{Has, IsPairOf}
use Rattle.plan_texts.specs.Domains.{Domain, domain_words}
use Rattle.plan_texts.specs.SpellsPddl.{pddl_words, pddl_domain}
use Rattle.plan_texts.specs.SpellsHddl.{hddl_words, hddl_domain}
use Rattle.plan_texts.specs.Said.{Typed, typed, Said, said, Done, done}
use Rattle.plan_model.specs.declared.terms.Term.{Term}
use Rattle.plan_model.specs.declared.networks.Head.{Head}
use Rattle.plan_model.specs.declared.networks.Child.{Child}
use Rattle.plan_model.specs.declared.networks.Pair.{Pair}
use Rattle.plan_model.specs.declared.networks.Constraint.{Constraint}
use Rattle.plan_model.specs.declared.types.Object.{Object}
use Rattle.plan_model.specs.declared.schemas.Predicate.{Predicate}
use Rattle.plan_model.specs.declared.schemas.TaskSchema.{TaskSchema}
use Rattle.plan_model.specs.declared.schemas.ActionSchema.{ActionSchema}
use Rattle.plan_model.specs.declared.schemas.MethodSchema.{MethodSchema}
use Rattle.plan_model.specs.declared.values.Pddl.{Pddl}
use Rattle.plan_model.specs.declared.values.Hddl.{Hddl}

module _ (v : Declared) where
  -- word, word of the type, whether it is a constant
  abbrev pub object_said : Object → Word × Word × Bool
  object_said x = (named v.names x.name, word_at v.types x.ty, x.constant)

  abbrev pub predicate_said : Predicate → Word × List Typed
  predicate_said d = (named v.names d.name, map (typed v) d.params)

  abbrev pub action_said : ActionSchema → Word × List Typed × Said × Done
  action_said a = (named v.names a.name, map (typed v) a.params, said v a.pre, done v a.eff)

  abbrev pub task_said : TaskSchema → Word × List Typed
  task_said t = (named v.names t.name, map (typed v) t.params)

  -- id, head, arguments
  abbrev pub Call : Type 0
  Call = Option Word × Head × List Term

  abbrev pub child_said : Child → Call
  child_said x = (option_map (named v.names) x.id, x.head, x.args)

  -- parameters, subtasks, pairs, constraints
  abbrev pub Network : Type 0
  Network = List Typed × List Call × List Pair × List Constraint

  abbrev pub network_said : MethodSchema → Network
  network_said m = (map (typed v) m.params, map child_said m.children, m.pairs, m.constraints)

  abbrev pub method_said : MethodSchema → Word × ℕ × List Term × Said × Network
  method_said m = (named v.names m.name, m.task, m.task_args, said v m.pre, network_said m)

-- The types are compared as a set of words and a set of pairs; unions where a variable is of one.
pub record AreAlikeDomains (c d : Domain) : Type 0 where
  pub types : (w : Word) → Has (type_words c.names c.types) w ↔ Has (type_words d.names d.types) w
  pub pairs : (w u : Word) → IsPairOf (type_words c.names c.types) c.types.parents w u ↔ IsPairOf (type_words d.names d.types) d.types.parents w u
  pub objects : map (object_said (domain_words c)) c.constants ≡ map (object_said (domain_words d)) d.constants
  pub predicates : map (predicate_said (domain_words c)) c.predicates ≡ map (predicate_said (domain_words d)) d.predicates
  pub actions : map (action_said (domain_words c)) c.actions ≡ map (action_said (domain_words d)) d.actions

-- all objects are compared, those of the problem too
pub record AreAlikePddl (c d : Pddl) : Type 0 where
  pub domains : named c.names c.domain ≡ named d.names d.domain
  pub problems : named c.names c.problem ≡ named d.names d.problem
  pub declared : AreAlikeDomains (pddl_domain c c.objects) (pddl_domain d d.objects)
  pub open declared use *
  pub init : c.init ≡ d.init
  pub goal : said (pddl_words c) c.goal ≡ said (pddl_words d) d.goal

pub record AreAlikeHddl (c d : Hddl) : Type 0 where
  pub domains : named c.names c.domain ≡ named d.names d.domain
  pub problems : named c.names c.problem ≡ named d.names d.problem
  pub declared : AreAlikeDomains (hddl_domain c c.objects) (hddl_domain d d.objects)
  pub open declared use *
  pub tasks : map (task_said (hddl_words c)) c.tasks ≡ map (task_said (hddl_words d)) d.tasks
  pub methods : map (method_said (hddl_words c)) c.methods ≡ map (method_said (hddl_words d)) d.methods
  pub top : method_said (hddl_words c) c.top ≡ method_said (hddl_words d) d.top
  pub init : c.init ≡ d.init
  pub goal : said (hddl_words c) c.goal ≡ said (hddl_words d) d.goal
