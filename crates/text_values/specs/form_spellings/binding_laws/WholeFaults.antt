-- In each language: what is refused of a whole domain and a whole problem by the numbers of names is the least fault in words; what is bound has none.
-- Source: this project's.
use Rattle.htn_base.specs.Different.{AreDifferent}
use Rattle.htn_base.specs.declared.fault.Fault.{Fault}
use Rattle.gd_reader.specs.Terms.{Names, Keeps}
use Rattle.hddl_reader.specs.declared.sections.Language.{Language}
use Rattle.hddl_reader.specs.declared.sections.RawDomain.{RawDomain}
use Rattle.hddl_reader.specs.declared.sections.RawProblem.{RawProblem}
use Rattle.plan_model.specs.declared.values.Hddl.{Hddl}
use Rattle.hddl_reader.specs.names.Faults.{HasDomainFault, HasNoFault, IsLeastNameFault, HasNoNameFault}
use Rattle.hddl_bind.specs.declared.bound_domain.BoundDomain.{BoundDomain}
use Rattle.hddl_bind.specs.declared.errors.BindError.TheVariants.{Bad}
use Rattle.hddl_bind.specs.WholeDomains.{IsDomainBound, IsDomainRefused}
use Rattle.hddl_bind.specs.WholeProblems.{IsProblemBound, IsProblemRefused}
use Rattle.text_values.specs.form_spellings.binding_laws.InOrder.{IsDomainInOrder, IsProblemInOrder}

-- A domain and a problem that were read, in a table that keeps the words with which the domain was bound.
pub record AreInOrder (before names : Names) (d : RawDomain) (p : RawProblem) : Type 0 where
  pub differ : AreDifferent names
  pub keeps : Keeps before names
  pub domain : IsDomainInOrder names d
  pub problem : IsProblemInOrder names p

module _ (before names : Names) (d : RawDomain) (p : RawProblem) where
  -- a domain that is refused, with whatever problem
  abbrev pub IsLeastOfDomain : Type 0
  IsLeastOfDomain = (l : Language) (f : Fault) → AreInOrder before names d p → IsDomainRefused l before d (Bad f) → IsLeastNameFault l names d p f.file f.code f.at

  -- a domain that is bound, with whatever problem
  abbrev pub DomainHasNone : Type 0
  DomainHasNone = (l : Language) (b : BoundDomain) → AreInOrder before names d p → IsDomainBound l before d b → HasNoFault (HasDomainFault l names d)

  -- a problem that is refused, over a domain that is bound
  abbrev pub IsLeastOfProblem : Type 0
  IsLeastOfProblem = (l : Language) (b : BoundDomain) (f : Fault) → AreInOrder before names d p → IsDomainBound l before d b → IsProblemRefused b p (Bad f)
      → IsLeastNameFault l names d p f.file f.code f.at

  -- both are bound
  abbrev pub BothHaveNone : Type 0
  BothHaveNone = (l : Language) (b : BoundDomain) (left : Names) (h : Hddl) → AreInOrder before names d p → IsDomainBound l before d b → IsProblemBound b p left h → HasNoNameFault l names d p

abbrev pub OfAllInOrder : (Names → Names → RawDomain → RawProblem → Type 0) → Type 0
OfAllInOrder P = (before names : Names) (d : RawDomain) (p : RawProblem) → P before names d p
