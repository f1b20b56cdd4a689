-- The faults of names in a domain and in a problem, one sentence for each code; the least; and none.
-- Source: this project's.
use Rattle.std.specs.Prelude.{ℕ, ◌≡◌, ◌<◌, ◌≤◌, ◌⊎◌, List, [], ◌++◌, map}
use Rattle.text_forms.specs.Words.{Word}
use Rattle.gd_reader.specs.Terms.{Names}
use Rattle.hddl_reader.specs.declared.networks.RawNet.{RawNet}
use Rattle.hddl_reader.specs.declared.sections.Language.{Language}
use Rattle.hddl_reader.specs.declared.sections.RawDomain.{RawDomain}
use Rattle.hddl_reader.specs.declared.sections.RawMethod.{RawMethod}
use Rattle.hddl_reader.specs.declared.sections.RawProblem.{RawProblem}
use Rattle.htn_base.specs.Lists.{One}
use Rattle.hddl_reader.specs.names.Words.{callables, param_word, param_at, head_at, IsSecond}
use Rattle.hddl_reader.specs.names.Standing.{InDomain, InProblem}
use Rattle.hddl_reader.specs.names.Types.{TypeCycle, TooManyTypes}
use Rattle.hddl_reader.specs.names.Networks.{ids, UnknownSubtaskId, CyclicOrder, TooManySubtasks}
use Rattle.hddl_reader.specs.names.Named.{UnknownType, UnknownPredicate, UnknownTask, UnknownObject, UnknownVariable, WrongArity}

-- 10: the word of a second declaration. Each of these has a space of names of its own.
pub data DuplicateInDomain (names : Names) (d : RawDomain) (at : ℕ) : Type 0 where
  task_or_action : IsSecond [] (map (head_at names) (callables d)) at → DuplicateInDomain names d at
  method : IsSecond [] (map (λ (m : RawMethod). head_at names m.head) d.methods) at → DuplicateInDomain names d at
  predicate : IsSecond [] (map (head_at names) d.predicates) at → DuplicateInDomain names d at
  constant : IsSecond [] (map (param_at names) d.constants) at → DuplicateInDomain names d at
  subtask_id : One (λ (m : RawMethod). IsSecond [] (ids names m.net.subs) at) d.methods → DuplicateInDomain names d at

abbrev pub constants : Names → RawDomain → List Word
constants names d = map (param_word names) d.constants

-- constants and objects have one space
pub data DuplicateInProblem (names : Names) (d : RawDomain) (p : RawProblem) (at : ℕ) : Type 0 where
  object : IsSecond (constants names d) (map (param_at names) p.objects) at → DuplicateInProblem names d p at
  subtask_id : IsSecond [] (ids names p.net.subs) at → DuplicateInProblem names d p at

abbrev pub OfNetworks : (RawNet → Type 0) → RawDomain → Type 0
OfNetworks P d = One (λ (m : RawMethod). P m.net) d.methods

-- The faults of a domain, each at its place and with its code. It names its own constants only.
pub data HasDomainFault (l : Language) (names : Names) (d : RawDomain) (at : ℕ) : ℕ → Type 0 where
  duplicate_name : DuplicateInDomain names d at → HasDomainFault l names d at 10
  unknown_type : UnknownType names d (InDomain names d) (constants names d) at → HasDomainFault l names d at 11
  type_cycle : TypeCycle names d at → HasDomainFault l names d at 12
  unknown_predicate : UnknownPredicate names d (InDomain names d) (constants names d) at → HasDomainFault l names d at 13
  unknown_task : UnknownTask names d (InDomain names d) (constants names d) at → HasDomainFault l names d at 14
  unknown_object : UnknownObject names d (InDomain names d) (constants names d) at → HasDomainFault l names d at 15
  unknown_variable : UnknownVariable names d (InDomain names d) (constants names d) at → HasDomainFault l names d at 16
  wrong_arity : WrongArity names d (InDomain names d) (constants names d) at → HasDomainFault l names d at 17
  unknown_subtask_id : OfNetworks (λ n. UnknownSubtaskId names n at) d → HasDomainFault l names d at 19
  cyclic_order : OfNetworks (λ n. CyclicOrder names n at) d → HasDomainFault l names d at 20
  too_many_subtasks : OfNetworks (λ n. TooManySubtasks n at) d → HasDomainFault l names d at 21
  too_many_types : TooManyTypes l names d at → HasDomainFault l names d at 22

-- a problem names the constants of its domain and its own objects
abbrev pub objects : Names → RawDomain → RawProblem → List Word
objects names d p = constants names d ++ map (param_word names) p.objects

-- the faults of a problem, beside its domain; types, predicates, tasks and actions are the domain's
pub data HasProblemFault (names : Names) (d : RawDomain) (p : RawProblem) (at : ℕ) : ℕ → Type 0 where
  duplicate_name : DuplicateInProblem names d p at → HasProblemFault names d p at 10
  unknown_type : UnknownType names d (InProblem names p) (objects names d p) at → HasProblemFault names d p at 11
  unknown_predicate : UnknownPredicate names d (InProblem names p) (objects names d p) at → HasProblemFault names d p at 13
  unknown_task : UnknownTask names d (InProblem names p) (objects names d p) at → HasProblemFault names d p at 14
  unknown_object : UnknownObject names d (InProblem names p) (objects names d p) at → HasProblemFault names d p at 15
  unknown_variable : UnknownVariable names d (InProblem names p) (objects names d p) at → HasProblemFault names d p at 16
  wrong_arity : WrongArity names d (InProblem names p) (objects names d p) at → HasProblemFault names d p at 17
  unknown_subtask_id : UnknownSubtaskId names p.net at → HasProblemFault names d p at 19
  cyclic_order : CyclicOrder names p.net at → HasProblemFault names d p at 20
  too_many_subtasks : TooManySubtasks p.net at → HasProblemFault names d p at 21

-- the domain is file 0, the problem file 1
pub data HasNameFault (l : Language) (names : Names) (d : RawDomain) (p : RawProblem) : (file code at : ℕ) → Type 0 where
  in_domain : {code at : ℕ} → HasDomainFault l names d at code → HasNameFault l names d p 0 code at
  in_problem : {code at : ℕ} → HasProblemFault names d p at code → HasNameFault l names d p 1 code at

-- by offset, then code
abbrev pub IsInFront : (code at code' at' : ℕ) → Type 0
IsInFront code at code' at' = (at < at') ⊎ ((at ≡ at') × (code ≤ code'))

-- the least fault of one text
pub record IsLeast (HasFault : ℕ → ℕ → Type 0) (code at : ℕ) : Type 0 where
  pub is : HasFault at code
  pub least : (code' at' : ℕ) → HasFault at' code' → IsInFront code at code' at'

-- the least by file, offset and code
pub record IsLeastNameFault (l : Language) (names : Names) (d : RawDomain) (p : RawProblem) (file code at : ℕ) : Type 0 where
  pub is : HasNameFault l names d p file code at
  pub least : (file' code' at' : ℕ) → HasNameFault l names d p file' code' at' → (file < file') ⊎ ((file ≡ file') × IsInFront code at code' at')

abbrev pub HasNoFault : (ℕ → ℕ → Type 0) → Type 0
HasNoFault HasFault = (at code : ℕ) → HasFault at code → ⊥

abbrev pub HasNoNameFault : Language → Names → RawDomain → RawProblem → Type 0
HasNoNameFault l names d p = (file code at : ℕ) → HasNameFault l names d p file code at → ⊥
