-- What was read of the text of a domain and of that of a problem is bound to exactly the values that the two texts spell.
use Rattle.std.specs.Prelude.{◌≡◌, ℕ, List, []}
use Rattle.text_forms.specs.Faults.{IsFaultless}
use Rattle.plan_texts.specs.SpellsHddl.{SpellsHddl}
use Rattle.plan_texts.specs.SpellsPddl.{SpellsPddl}
use Rattle.plan_model.specs.declared.values.Hddl.{Hddl}
use Rattle.plan_model.specs.declared.values.Pddl.{Pddl}
use Rattle.gd_reader.specs.Terms.{Names, Keeps}
use Rattle.hddl_reader.specs.declared.sections.Language.{Language}
use Rattle.hddl_reader.specs.declared.sections.Language.TheVariants as language
use Rattle.hddl_reader.specs.declared.sections.RawDomain.{RawDomain}
use Rattle.hddl_reader.specs.declared.sections.RawProblem.{RawProblem}
use Rattle.hddl_reader.specs.Definitions.{IsDomainRead, IsProblemRead}
use Rattle.text_values.specs.form_spellings.BoundTexts.{IsBoundHddl, no_network, IsBoundPddl}

-- a domain and a problem that were read of two texts of one language, in a table that keeps the words of both
pub record AreRead (l : Language) (domain problem : List ℕ) (table : Names) (d : RawDomain) (p : RawProblem) : Type 0 where
  pub before_domain : Names
  pub behind_domain : Names
  pub domain_read : IsDomainRead l before_domain domain (d, behind_domain)
  pub keeps_domain : Keeps behind_domain table
  pub before_problem : Names
  pub behind_problem : Names
  pub problem_read : IsProblemRead l before_problem problem (p, behind_problem)
  pub keeps_problem : Keeps behind_problem table

-- A bad byte is no token, so what was read does not tell of it: the texts are without one.
abbrev pub BoundHddlIsSpelled : Type 0
BoundHddlIsSpelled = (domain problem : List ℕ) (table : Names) (d : RawDomain) (p : RawProblem) → AreRead language.Hddl domain problem table d p → IsFaultless domain → IsFaultless problem → (h : Hddl) → IsBoundHddl table d p h → SpellsHddl domain problem h

abbrev pub SpelledHddlIsBound : Type 0
SpelledHddlIsBound = (domain problem : List ℕ) (table : Names) (d : RawDomain) (p : RawProblem) → AreRead language.Hddl domain problem table d p → (h : Hddl) → SpellsHddl domain problem h → IsBoundHddl table d p h

abbrev pub BoundPddlIsSpelled : Type 0
BoundPddlIsSpelled = (domain problem : List ℕ) (table : Names) (d : RawDomain) (p : RawProblem) → AreRead language.Pddl domain problem table d p → IsFaultless domain → IsFaultless problem → (c : Pddl) → IsBoundPddl table d p c → SpellsPddl domain problem c

abbrev pub SpelledPddlIsBound : Type 0
SpelledPddlIsBound = (domain problem : List ℕ) (table : Names) (d : RawDomain) (p : RawProblem) → AreRead language.Pddl domain problem table d p → (c : Pddl) → SpellsPddl domain problem c → IsBoundPddl table d p c

-- what was read of a domain of PDDL, and of a problem
abbrev pub HasNoTasks : RawDomain → Type 0
HasNoTasks d = (d.tasks ≡ []) × (d.methods ≡ [])

abbrev pub HasNoNetwork : RawProblem → Type 0
HasNoNetwork p = (p.params ≡ []) × (p.net ≡ no_network)
