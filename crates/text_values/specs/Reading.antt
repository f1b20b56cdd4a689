-- What each of two texts of a language comes to on the way to their value.
-- Source: this project's.
use Rattle.std.specs.Prelude.{ℕ, ◌≡◌, ◌+◌, ◌≤◌, ◌⊎◌, List, Some, length}
use Rattle.htn_base.specs.Limits.{longest_input}
use Rattle.htn_base.specs.Different.{AreDifferent}
use Rattle.text_forms.specs.Faults.{fault, IsFaultless}
use Rattle.text_forms.specs.Faults as tokens
use Rattle.text_forms.specs.form_grammar.Definitions.{definition_fault}
use Rattle.text_forms.specs.form_grammar.Sections as grammar
use Rattle.gd_reader.specs.Terms.{Names}
use Rattle.hddl_bind.specs.declared.bound_domain.BoundDomain.{BoundDomain}
use Rattle.hddl_bind.specs.declared.errors.BindError.{BindError}
use Rattle.hddl_bind.specs.declared.errors.BindError.TheVariants as bind_errors
use Rattle.hddl_bind.specs.WholeDomains.{IsDomainBound, IsDomainRefused}
use Rattle.hddl_reader.specs.declared.sections.Language.{Language}
use Rattle.hddl_reader.specs.declared.sections.RawDomain.{RawDomain}
use Rattle.hddl_reader.specs.declared.sections.RawProblem.{RawProblem}
use Rattle.hddl_reader.specs.Definitions.{language_of, IsDomainRead, IsProblemRead}
use Rattle.plan_model.specs.declared.values.Hddl.{Hddl}
use Rattle.text_forms.specs.declared.sexpr_text.read_error.ReadError.{ReadError}
use Rattle.text_forms.specs.declared.sexpr_text.read_error.ReadError.TheVariants as errors
use Rattle.text_values.specs.TextFaults.{IsDomainOf, IsLeastOfDomain, IsLeastOfProblem}
use Rattle.text_values.specs.ReadAs.{AreReadAs}

-- the text has no fault of tokens, and was read as this domain
pub record ReadsDomain (l : Language) (text : List ℕ) (before behind : Names) (d : RawDomain) : Type 0 where
  pub tokens : IsFaultless text
  pub read : IsDomainRead l before text (d, behind)

pub record ReadsProblem (l : Language) (text : List ℕ) (before behind : Names) (p : RawProblem) : Type 0 where
  pub tokens : IsFaultless text
  pub read : IsProblemRead l before text (p, behind)

-- the refusal of a text by its tokens or its form; or memory ran out
abbrev pub RefusesForm : Language → grammar.Definition → ℕ → List ℕ → ReadError → Type 0
RefusesForm l kind file text errors.Memory = Unit {0}
RefusesForm l kind file text (errors.Bad f) = (f.file ≡ file)
    × (tokens.IsLeast text (fault f.code f.at) ⊎ (IsFaultless text × (definition_fault (language_of l) kind text ≡ Some (fault f.code f.at))))

-- a refusal of names, as that of a reader
abbrev pub read_error : BindError → ReadError
read_error bind_errors.Memory = errors.Memory
read_error (bind_errors.Bad f) = errors.Bad f

-- the least fault of a domain's names
abbrev pub RefusesNames : Language → Names → RawDomain → ReadError → Type 0
RefusesNames l table d errors.Memory = Unit {0}
RefusesNames l table d (errors.Bad f) = IsDomainRefused l table d (bind_errors.Bad f)

-- The text of a domain has no fault of tokens or form, and is bound to this over the words of a table.
pub record IsBoundText (l : Language) (text : List ℕ) (table : Names) (b : BoundDomain) : Type 0 where
  pub short : length text ≤ longest_input
  pub differ : AreDifferent table
  pub few : length table ≤ longest_input + 1
  pub d : RawDomain
  pub tokens : IsFaultless text
  pub read : IsDomainOf l text table d
  pub bound : IsDomainBound l table d b

abbrev pub RefusesDomain : Language → List ℕ → ReadError → Type 0
RefusesDomain l text errors.Memory = Unit {0}
RefusesDomain l text (errors.Bad f) = (f.file ≡ 0) × IsLeastOfDomain l text f.code f.at

-- what a problem's text comes to over each domain's text that is bound so
abbrev pub IsReadOver : Language → Names → BoundDomain → List ℕ → Hddl → Type 0
IsReadOver l table b text h = (domain : List ℕ) → IsBoundText l domain table b → AreReadAs domain text l h

-- the least fault of a problem's text over that of a domain; or memory ran out
abbrev pub RefusesOver : Language → (domain text : List ℕ) → ReadError → Type 0
RefusesOver l domain text errors.Memory = Unit {0}
RefusesOver l domain text (errors.Bad f) = (f.file ≡ 1) × IsLeastOfProblem l domain text f.code f.at

abbrev pub RefusesProblem : Language → Names → BoundDomain → List ℕ → ReadError → Type 0
RefusesProblem l table b text e = (domain : List ℕ) → IsBoundText l domain table b → RefusesOver l domain text e
