-- The value that is bound of a domain and a problem of a language, without faults, is what they say in words.
-- Source: this project's.
use Rattle.gd_reader.specs.Terms.{Names}
use Rattle.hddl_reader.specs.declared.sections.Language.{Language}
use Rattle.hddl_reader.specs.declared.sections.RawDomain.{RawDomain}
use Rattle.hddl_reader.specs.declared.sections.RawProblem.{RawProblem}
use Rattle.plan_model.specs.declared.values.Hddl.{Hddl}
use Rattle.text_values.specs.form_spellings.BoundTexts.{IsBoundHddl}
use Rattle.hddl_bind.specs.declared.bound_domain.BoundDomain.{BoundDomain}
use Rattle.hddl_bind.specs.WholeDomains.{IsDomainBound}
use Rattle.hddl_bind.specs.WholeProblems.{with_start, IsProblemBound}
use Rattle.text_values.specs.form_spellings.binding_laws.WholeFaults.{AreInOrder}

module _ (before left : Names) (d : RawDomain) (p : RawProblem) where
  -- the domain is bound with an earlier table, and the problem with one that keeps its words; the last one has the word for the top
  -- method too
  abbrev pub IsBoundBoth : Type 0
  IsBoundBoth = (l : Language) (b : BoundDomain) (h : Hddl) → AreInOrder before (with_start left) d p → IsDomainBound l before d b → IsProblemBound b p left h → IsBoundHddl (with_start left) d p h

abbrev pub OfAllBound : (Names → Names → RawDomain → RawProblem → Type 0) → Type 0
OfAllBound P = (before left : Names) (d : RawDomain) (p : RawProblem) → P before left d p
