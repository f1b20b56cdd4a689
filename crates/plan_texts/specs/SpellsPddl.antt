-- What spells a PDDL value: two texts, sections in any order.
-- Source: appendix A (grammar) of Fox and Long, "PDDL2.1", JAIR 20, 2003, level 1: domains and problems.
use Rattle.std.specs.Prelude.{ℕ, ◌≡◌, ◌++◌, List, []}
use Rattle.text_forms.specs.Lists.{Parts}
use Rattle.text_forms.specs.Words.{Word}
use Rattle.plan_texts.specs.Declared.{Declared, named, type_words, words_with}
use Rattle.plan_texts.specs.Sections.{domain_many, problem_once}
use Rattle.plan_texts.specs.Domains.{Domain, Problem, AreDomainSections, AreProblemSections, AreDefinitions}
use Rattle.plan_model.specs.declared.types.Object.{Object}
use Rattle.plan_model.specs.declared.values.Pddl.{Pddl}

abbrev pub pddl_types : Pddl → List Word
pddl_types c = type_words c.names c.types

-- the words that the problem may use
abbrev pub pddl_words : Pddl → Declared
pddl_words c = words_with c.names c.types c.predicates c.objects

-- the words that the domain may use: of the objects its constants alone
abbrev pub pddl_domain_words : Pddl → List Object → Declared
pddl_domain_words c constants = words_with c.names c.types c.predicates constants

-- the part of the domain, whose constants these are
abbrev pub pddl_domain : Pddl → List Object → Domain
pddl_domain c constants = record { names = c.names; types = c.types; constants = constants; predicates = c.predicates; tasks = []; actions = c.actions; methods = [] }

-- the part of the problem, whose own objects these are
abbrev pub pddl_problem : Pddl → List Object → Problem
pddl_problem c others = record { objects = others; init = c.init; goal = c.goal }

-- the sections of a domain and of a problem spell the value
pub record ArePddlSections (c : Pddl) (domain problem : Parts) : Type 0 where
  pub constants : List Object
  pub others : List Object
  pub objects : c.objects ≡ constants ++ others
  pub in_domain : AreDomainSections domain_many (pddl_domain c constants) domain
  pub open in_domain use *
  pub in_problem : AreProblemSections problem_once (pddl_words c) (pddl_problem c others) problem
  pub open in_problem use *

-- two texts spell the value
pub record SpellsPddl (domain problem : List ℕ) (c : Pddl) : Type 0 where
  pub texts : AreDefinitions domain problem (named c.names c.domain) (named c.names c.problem)
  pub open texts use *
  pub sections : ArePddlSections c texts.domain_sections texts.problem_sections
