-- The faults of two texts of a language, a domain's and a problem's: of tokens, of form and of names; the least; and none.
-- Source: this project's. A text is looked through phase by phase: tokens first (a bad byte, a list without an end or too deep, a stray
-- parenthesis), then the form, then the names; the next phase only where the one before found nothing, and the problem only where the
-- domain has no fault.
use Rattle.std.specs.Prelude.{ℕ, ◌≡◌, Some, List}
use Rattle.text_forms.specs.Faults.{fault, IsFaultless}
use Rattle.text_forms.specs.Faults as tokens
use Rattle.text_forms.specs.form_grammar.Definitions.{definition_fault}
use Rattle.text_forms.specs.form_grammar.Sections as grammar
use Rattle.gd_reader.specs.Terms.{Names, Keeps}
use Rattle.hddl_reader.specs.declared.sections.Language.{Language}
use Rattle.hddl_reader.specs.declared.sections.RawDomain.{RawDomain}
use Rattle.hddl_reader.specs.declared.sections.RawProblem.{RawProblem}
use Rattle.hddl_reader.specs.Definitions.{language_of, IsDomainRead, IsProblemRead}
use Rattle.hddl_reader.specs.names.Faults.{HasDomainFault, HasProblemFault, HasNoFault, IsLeast}

-- The text is read as this domain, with the words of a table.
pub record IsDomainOf (l : Language) (text : List ℕ) (table : Names) (d : RawDomain) : Type 0 where
  pub before : Names
  pub behind : Names
  pub read : IsDomainRead l before text (d, behind)
  pub keeps : Keeps behind table

pub record IsProblemOf (l : Language) (text : List ℕ) (table : Names) (p : RawProblem) : Type 0 where
  pub before : Names
  pub behind : Names
  pub read : IsProblemRead l before text (p, behind)
  pub keeps : Keeps behind table

-- The text of a domain has no fault: it is read as this one, whose names have none.
pub record IsGoodDomain (l : Language) (text : List ℕ) (table : Names) (d : RawDomain) : Type 0 where
  pub tokens : IsFaultless text
  pub read : IsDomainOf l text table d
  pub names : HasNoFault (HasDomainFault l table d)

-- nor has that of a problem over it
pub record IsGoodProblem (l : Language) (text : List ℕ) (table : Names) (d : RawDomain) (p : RawProblem) : Type 0 where
  pub tokens : IsFaultless text
  pub read : IsProblemOf l text table p
  pub names : HasNoFault (HasProblemFault table d p)

-- The least fault of a domain's text, in the first phase in which it has one.
pub data IsLeastOfDomain (l : Language) (text : List ℕ) (code at : ℕ) : Type 0 where
  domain_tokens : tokens.IsLeast text (fault code at) → IsLeastOfDomain l text code at
  domain_form : IsFaultless text → definition_fault (language_of l) grammar.domain text ≡ Some (fault code at) → IsLeastOfDomain l text code at
  domain_names : (table : Names) (d : RawDomain) → IsFaultless text → IsDomainOf l text table d → IsLeast (HasDomainFault l table d) code at
      → IsLeastOfDomain l text code at

-- The same of a problem's text, over a domain's without faults.
pub data IsLeastOfProblem (l : Language) (domain text : List ℕ) (code at : ℕ) : Type 0 where
  problem_tokens : tokens.IsLeast text (fault code at) → IsLeastOfProblem l domain text code at
  problem_form : IsFaultless text → definition_fault (language_of l) grammar.problem text ≡ Some (fault code at) → IsLeastOfProblem l domain text code at
  problem_names : (table : Names) (d : RawDomain) (p : RawProblem) → IsGoodDomain l domain table d → IsFaultless text → IsProblemOf l text table p
      → IsLeast (HasProblemFault table d p) code at → IsLeastOfProblem l domain text code at

-- the least of both, where the domain is file 0 and the problem file 1
pub data IsLeastFault (l : Language) (domain problem : List ℕ) : (file code at : ℕ) → Type 0 where
  in_domain : {code at : ℕ} → IsLeastOfDomain l domain code at → IsLeastFault l domain problem 0 code at
  in_problem : {code at : ℕ} (table : Names) (d : RawDomain) → IsGoodDomain l domain table d → IsLeastOfProblem l domain problem code at
      → IsLeastFault l domain problem 1 code at

-- neither text has a fault
pub record HaveNoFault (l : Language) (domain problem : List ℕ) : Type 0 where
  pub table : Names
  pub d : RawDomain
  pub p : RawProblem
  pub domain_is : IsGoodDomain l domain table d
  pub problem_is : IsGoodProblem l problem table d p
