-- Laws of the faults of names.
use Rattle.std.specs.Prelude.{ℕ, List, ◌≡◌, ◌≢◌, ◌≤◌, ◌⊎◌, ◌↔◌}
use Rattle.gd_reader.specs.Terms.{Names}
use Rattle.hddl_reader.specs.declared.networks.RawNet.{RawNet}
use Rattle.hddl_reader.specs.declared.networks.RawPair.{RawPair}
use Rattle.hddl_reader.specs.declared.sections.Language.{Language}
use Rattle.hddl_reader.specs.declared.sections.RawDomain.{RawDomain}
use Rattle.hddl_reader.specs.declared.sections.RawProblem.{RawProblem}
use Rattle.hddl_reader.specs.names.Networks.{IsUnknownId, ClosesOrder, CyclicOrder, TooManySubtasks}
use Rattle.hddl_reader.specs.names.Types.{TypeCycle}
use Rattle.hddl_reader.specs.names.Faults.{HasDomainFault, HasProblemFault, HasNameFault, IsLeast, IsLeastNameFault, HasNoFault, HasNoNameFault}

-- at most one fault is the least of one text
abbrev pub OneIsLeast : (ℕ → ℕ → Type 0) → Type 0
OneIsLeast HasFault = (code at code' at' : ℕ) → IsLeast HasFault code at → IsLeast HasFault code' at' → (code ≡ code') × (at ≡ at')

abbrev pub OneIsLeastOfDomain : Type 0
OneIsLeastOfDomain = (l : Language) (names : Names) (d : RawDomain) → OneIsLeast (HasDomainFault l names d)

abbrev pub OneIsLeastOfProblem : Type 0
OneIsLeastOfProblem = (names : Names) (d : RawDomain) (p : RawProblem) → OneIsLeast (HasProblemFault names d p)

-- what is said of a domain and a problem, for all of them
abbrev pub OfAllTexts : (Language → Names → RawDomain → RawProblem → Type 0) → Type 0
OfAllTexts P = (l : Language) (names : Names) (d : RawDomain) (p : RawProblem) → P l names d p

module _ (l : Language) (names : Names) (d : RawDomain) (p : RawProblem) where
  -- at most one is the least of the two
  abbrev pub OneIsLeastOfBoth : Type 0
  OneIsLeastOfBoth = (file code at file' code' at' : ℕ) → IsLeastNameFault l names d p file code at → IsLeastNameFault l names d p file' code' at'
      → (file ≡ file') × ((code ≡ code') × (at ≡ at'))

  -- the least is the domain's, or the problem's where the domain has none
  abbrev pub IsLeastByFile : Type 0
  IsLeastByFile = (file code at : ℕ) → IsLeastNameFault l names d p file code at
      ↔ (((file ≡ 0) × IsLeast (HasDomainFault l names d) code at) ⊎ ((file ≡ 1) × HasNoFault (HasDomainFault l names d) × IsLeast (HasProblemFault names d p) code at))

  -- neither has one
  abbrev pub IsNoneByFile : Type 0
  IsNoneByFile = HasNoNameFault l names d p ↔ (HasNoFault (HasDomainFault l names d) × HasNoFault (HasProblemFault names d p))

  abbrev pub AreNameCodes : Type 0
  AreNameCodes = (file code at : ℕ) → HasNameFault l names d p file code at → (10 ≤ code) × ((code ≤ 22) × (code ≢ 18))

-- what is said of a network, for all of them
abbrev pub OfAllNetworks : (Names → RawNet → Type 0) → Type 0
OfAllNetworks P = (names : Names) (n : RawNet) → P names n

module _ (names : Names) (n : RawNet) where
  -- one cycle at most is a fault
  abbrev pub OneCycleIsAFault : Type 0
  OneCycleIsAFault = (at at' : ℕ) → CyclicOrder names n at → CyclicOrder names n at' → at ≡ at'

  -- the limit comes before the cycle
  abbrev pub LimitComesFirst : Type 0
  LimitComesFirst = (at at' : ℕ) → CyclicOrder names n at → TooManySubtasks n at' → ⊥

  -- a pair with an unknown id closes no cycle
  abbrev pub UnknownIdsCloseNone : Type 0
  UnknownIdsCloseNone = (earlier : List RawPair) (x : RawPair) (at : ℕ) → IsUnknownId names n at x.first ⊎ IsUnknownId names n at x.then → ClosesOrder names n earlier x → ⊥

-- one cycle at most is a fault of the types
abbrev pub OneTypeCycleIsAFault : Type 0
OneTypeCycleIsAFault = (names : Names) (d : RawDomain) (at at' : ℕ) → TypeCycle names d at → TypeCycle names d at' → at ≡ at'
