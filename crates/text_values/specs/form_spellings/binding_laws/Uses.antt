-- The faults of declarations and uses, in words.
-- Source: this project's.
use Rattle.std.specs.Prelude.{ℕ, ◌≡◌, ◌⊎◌, ◌↔◌, List}
use Rattle.text_forms.specs.Words.{Word}
use Rattle.gd_reader.specs.Terms.{Names}
use Rattle.hddl_reader.specs.declared.sections.RawDomain.{RawDomain}
use Rattle.hddl_reader.specs.declared.sections.RawProblem.{RawProblem}
use Rattle.hddl_reader.specs.names.Standing.{InDomain, InProblem}
use Rattle.hddl_reader.specs.names.Uses.{Scope, Kind, predicate, subtask, task, Use, declares, applies, refers}
use Rattle.hddl_reader.specs.names.Named.{IsUnknown, HasWrongArity, UnknownType, UnknownPredicate, UnknownTask, UnknownObject, UnknownVariable, WrongArity}
use Rattle.text_values.specs.form_spellings.binding_laws.Kinds.{IsKindFault}
use Rattle.text_values.specs.form_spellings.binding_laws.Terms.{IsTermFault}

abbrev pub unknown_code : Kind → ℕ
unknown_code predicate = 13
unknown_code subtask = 14
unknown_code task = 14

module _ (names : Names) (d : RawDomain) (objects : List Word) where
  -- 11 at a type of a declared word; 13, 14 or 17 at a name that is applied; 15 or 16 at a term
  abbrev pub HasUseFault : Scope → Use → (code at : ℕ) → Type 0
  HasUseFault here (declares x) code at = IsKindFault names d x.ty code at
  HasUseFault here (applies kind a) code at = (a.head.at ≡ at) × (((code ≡ unknown_code kind) × IsUnknown names d kind a) ⊎ ((code ≡ 17) × HasWrongArity names d kind a))
  HasUseFault here (refers t) code at = IsTermFault names objects here t code at

  -- one of the declarations and uses that stand somewhere has the fault
  abbrev pub HasFaultIn : (Scope → Use → Type 0) → (code at : ℕ) → Type 0
  HasFaultIn Stands code at = (here : Scope) × (u : Use) × Stands here u × HasUseFault here u code at

  -- the sentence of its code
  abbrev pub IsSaid : (Scope → Use → Type 0) → (code at : ℕ) → Type 0
  IsSaid Stands code at = ((code ≡ 11) × UnknownType names d Stands objects at)
      ⊎ (((code ≡ 13) × UnknownPredicate names d Stands objects at)
      ⊎ (((code ≡ 14) × UnknownTask names d Stands objects at)
      ⊎ (((code ≡ 15) × UnknownObject names d Stands objects at)
      ⊎ (((code ≡ 16) × UnknownVariable names d Stands objects at)
      ⊎ ((code ≡ 17) × WrongArity names d Stands objects at)))))

  -- the faults of what stands somewhere are the sentences on it
  abbrev pub AreSaid : (Scope → Use → Type 0) → Type 0
  AreSaid Stands = (code at : ℕ) → HasFaultIn Stands code at ↔ IsSaid Stands code at

abbrev pub AreSaidOfDomains : Type 0
AreSaidOfDomains = (names : Names) (d : RawDomain) (objects : List Word) → AreSaid names d objects (InDomain names d)

abbrev pub AreSaidOfProblems : Type 0
AreSaidOfProblems = (names : Names) (d : RawDomain) (p : RawProblem) (objects : List Word) → AreSaid names d objects (InProblem names p)
