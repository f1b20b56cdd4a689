-- What spells an HDDL value: two texts, sections in any order.
-- Source: the full syntax definition of HDDL, Höller et al., "HDDL: An Extension to PDDL for Expressing Hierarchical Planning Problems", AAAI 2020: domains and problems with an initial task network.
use Rattle.std.specs.Prelude.{ℕ, ◌≡◌, ◌++◌, List, [], ◌∷◌, map, codes, Some}
use Rattle.text_forms.specs.Lists.{Parts}
use Rattle.text_forms.specs.Words.{Word}
use Rattle.plan_texts.specs.Declared.{Declared, named, type_words, union_words, words_with}
use Rattle.plan_texts.specs.TypedLists.{Each}
use Rattle.plan_texts.specs.Sections.{section, only, problem_once}
use Rattle.plan_texts.specs.Networks.{IsTask, IsMethod, IsTop}
use Rattle.plan_texts.specs.Domains.{Domain, domain_words, Problem, AreDomainSections, AreProblemSections, AreDefinitions}
use Rattle.plan_model.specs.declared.types.Object.{Object}
use Rattle.plan_model.specs.declared.schemas.TaskSchema.{TaskSchema}
use Rattle.plan_model.specs.declared.schemas.ActionSchema.{ActionSchema}
use Rattle.plan_model.specs.declared.schemas.MethodSchema.{MethodSchema}
use Rattle.plan_model.specs.declared.values.Hddl.{Hddl}

abbrev pub hddl_many : List Word
hddl_many = codes ":action" ∷ codes ":task" ∷ codes ":method" ∷ []

abbrev pub hddl_problem_once : List Word
hddl_problem_once = codes ":htn" ∷ problem_once

abbrev pub words_of_tasks : List Word → List TaskSchema → List Word
words_of_tasks names tasks = map (λ (t : TaskSchema). named names t.name) tasks

abbrev pub words_of_actions : List Word → List ActionSchema → List Word
words_of_actions names actions = map (λ (a : ActionSchema). named names a.name) actions

-- the sections of a domain with tasks and methods
pub record AreHddlDomainSections (d : Domain) (domain : Parts) : Type 0 where
  pub common : AreDomainSections hddl_many d domain
  pub open common use *
  pub tasks : Each (IsTask (domain_words d)) d.tasks (only (codes ":task") domain)
  pub methods : Each (IsMethod (domain_words d) (words_of_tasks d.names d.tasks) (words_of_actions d.names d.actions)) d.methods (only (codes ":method") domain)

-- the sections of a problem with a network, where tasks and actions have these words
pub record AreHddlProblemSections (v : Declared) (tasks actions : List Word) (p : Problem) (network : MethodSchema) (problem : Parts) : Type 0 where
  pub common : AreProblemSections hddl_problem_once v p problem
  pub open common use *
  pub htn : Parts
  pub htn_there : section (codes ":htn") problem ≡ Some htn
  pub top : IsTop v tasks actions network htn

abbrev pub hddl_types : Hddl → List Word
hddl_types c = type_words c.names c.types

abbrev pub hddl_unions : Hddl → List (List Word)
hddl_unions c = union_words c.names c.types

-- the words that the problem may use
abbrev pub hddl_words : Hddl → Declared
hddl_words c = words_with c.names c.types c.predicates c.objects

-- the words that the domain may use: of the objects its constants alone
abbrev pub hddl_domain_words : Hddl → List Object → Declared
hddl_domain_words c constants = words_with c.names c.types c.predicates constants

abbrev pub task_words : Hddl → List Word
task_words c = words_of_tasks c.names c.tasks

abbrev pub action_words : Hddl → List Word
action_words c = words_of_actions c.names c.actions

-- the part of the domain, whose constants these are
abbrev pub hddl_domain : Hddl → List Object → Domain
hddl_domain c constants = record { names = c.names; types = c.types; constants = constants; predicates = c.predicates; tasks = c.tasks; actions = c.actions; methods = c.methods }

-- the part of the problem, whose own objects these are
abbrev pub hddl_problem : Hddl → List Object → Problem
hddl_problem c others = record { objects = others; init = c.init; goal = c.goal }

-- the sections of a domain and of a problem spell the value
pub record AreHddlSections (c : Hddl) (domain problem : Parts) : Type 0 where
  pub constants : List Object
  pub others : List Object
  pub objects : c.objects ≡ constants ++ others
  pub in_domain : AreHddlDomainSections (hddl_domain c constants) domain
  pub open in_domain use {domain_form, domain_requires, types, constants_spelled, predicates, tasks, actions, methods}
  pub in_problem : AreHddlProblemSections (hddl_words c) (task_words c) (action_words c) (hddl_problem c others) c.top problem
  pub open in_problem use {problem_form, problem_requires, of_domain, others_spelled, init_form, init, goal, htn, htn_there, top}

-- two texts spell the value
pub record SpellsHddl (domain problem : List ℕ) (c : Hddl) : Type 0 where
  pub texts : AreDefinitions domain problem (named c.names c.domain) (named c.names c.problem)
  pub open texts use *
  pub sections : AreHddlSections c texts.domain_sections texts.problem_sections
