-- Two texts that spell a sound value have no fault: of tokens, of form, or of names.
-- Source: this project's.
use Rattle.std.specs.Prelude.{ℕ, ◌+◌, ◌≤◌, List, length}
use Rattle.text_forms.specs.Faults.{IsFaultless}
use Rattle.plan_model.specs.declared.types.Types.{Types}
use Rattle.plan_model.specs.declared.values.Hddl.{Hddl}
use Rattle.plan_model.specs.declared.values.Pddl.{Pddl}
use Rattle.plan_texts.specs.SoundProblem.{IsSoundProblem}
use Rattle.plan_texts.specs.SpellsHddl.{SpellsHddl}
use Rattle.plan_texts.specs.SpellsPddl.{SpellsPddl}
use Rattle.plan_model.specs.plan_meaning.Laws.{AreOrdered}
use Rattle.gd_reader.specs.Terms.{Names, Keeps}
use Rattle.hddl_reader.specs.declared.sections.Language.{Language}
use Rattle.hddl_reader.specs.declared.sections.Language.TheVariants as language
use Rattle.hddl_reader.specs.declared.sections.RawDomain.{RawDomain}
use Rattle.hddl_reader.specs.declared.sections.RawProblem.{RawProblem}
use Rattle.hddl_reader.specs.Definitions.{IsDomainRead}
use Rattle.hddl_reader.specs.names.Faults.{HasDomainFault, HasProblemFault, HasNoFault}
use Rattle.hddl_reader.specs.names.Types.{most_types}
use Rattle.text_values.specs.form_spellings.ReadTexts.{AreRead}
use Rattle.text_values.specs.form_spellings.SoundPddl.{IsSoundPddl}
use Rattle.text_values.specs.form_spellings.Depth.{IsShallow}

-- The texts have no fault of tokens and are read as a domain and a problem, whose names have no fault, in whatever table of words they
-- are read.
pub record AreFaultless (l : Language) (domain problem : List ℕ) : Type 0 where
  pub domain_tokens : IsFaultless domain
  pub problem_tokens : IsFaultless problem
  pub table : Names
  pub d : RawDomain
  pub p : RawProblem
  pub read : AreRead l domain problem table d p
  pub domain_names : (before behind table : Names) (d : RawDomain) → IsDomainRead l before domain (d, behind) → Keeps behind table → HasNoFault (HasDomainFault l table d)
  pub problem_names : (table : Names) (d : RawDomain) (p : RawProblem) → AreRead l domain problem table d p → HasNoFault (HasProblemFault table d p)

-- object, and at most so many other types as a domain of the language may have
abbrev pub HasFewTypes : Language → Types → Type 0
HasFewTypes l types = length types.names ≤ most_types l + 1

-- What spells a sound value of HDDL whose networks have no cycle and that has few types is faultless, if no list stands too deep.
abbrev pub SpelledHddlIsFaultless : Type 0
SpelledHddlIsFaultless =
    (domain problem : List ℕ) (h : Hddl) → SpellsHddl domain problem h → IsShallow domain → IsShallow problem → IsSoundProblem h → AreOrdered h
    → HasFewTypes language.Hddl h.types → AreFaultless language.Hddl domain problem

-- and what spells such a value of PDDL
abbrev pub SpelledPddlIsFaultless : Type 0
SpelledPddlIsFaultless =
    (domain problem : List ℕ) (c : Pddl) → SpellsPddl domain problem c → IsShallow domain → IsShallow problem → IsSoundPddl c
    → HasFewTypes language.Pddl c.types → AreFaultless language.Pddl domain problem
