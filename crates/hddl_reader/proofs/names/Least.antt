-- The least fault is one, and stands in the domain where the domain has one.
use Rattle.std.proofs.Common.{ℕ, ◌≡◌, ◌≢◌, ◌<◌, ◌≤◌, ◌⊎◌, inl, inr, refl, sym, subst, arith}
use Rattle.std.proofs.lemmas.Option.{slice_get_within}
use Rattle.htn_base.specs.Limits.{most_subtasks}
use Rattle.gd_reader.specs.Terms.{Names}
use Rattle.hddl_reader.specs.declared.networks.RawNet.{RawNet}
use Rattle.hddl_reader.specs.declared.sections.Language.{Language}
use Rattle.hddl_reader.specs.declared.sections.RawDomain.{RawDomain}
use Rattle.hddl_reader.specs.declared.sections.RawProblem.{RawProblem}
use Rattle.hddl_reader.specs.names.Faults.{HasDomainFault, HasProblemFault, HasNameFault, in_domain, in_problem, IsInFront, IsLeast, IsLeastNameFault, HasNoFault}
use Rattle.hddl_reader.specs.names.Laws.{OneIsLeast, OneIsLeastOfBoth, IsLeastByFile, IsNoneByFile, AreNameCodes, LimitComesFirst}

in_front_of_each_other : (code at code' at' : ℕ) → IsInFront code at code' at' → IsInFront code' at' code at → (code ≡ code') × (at ≡ at')
in_front_of_each_other code at code' at' (inl l) (inl m) = absurd (omega arith)
in_front_of_each_other code at code' at' (inl l) (inr m) = absurd (let e = m.0 in omega arith)
in_front_of_each_other code at code' at' (inr l) (inl m) = absurd (let e = l.0 in omega arith)
in_front_of_each_other code at code' at' (inr l) (inr m) = (let a = l.1 in let b = m.1 in omega arith, l.0)

pub one_is_least : (HasFault : ℕ → ℕ → Type 0) → OneIsLeast HasFault
one_is_least HasFault code at code' at' x y = in_front_of_each_other code at code' at' (x.least code' at' y.is) (y.least code at x.is)

module _ (l : Language) (names : Names) (d : RawDomain) (p : RawProblem) where
  files : (file code at file' code' at' : ℕ) → (file < file') ⊎ ((file ≡ file') × IsInFront code at code' at') → (file' < file) ⊎ ((file' ≡ file) × IsInFront code' at' code at)
      → (file ≡ file') × ((code ≡ code') × (at ≡ at'))
  files file code at file' code' at' (inl l) (inl m) = absurd (omega arith)
  files file code at file' code' at' (inl l) (inr m) = absurd (let e = m.0 in omega arith)
  files file code at file' code' at' (inr l) (inl m) = absurd (let e = l.0 in omega arith)
  files file code at file' code' at' (inr l) (inr m) = (l.0, in_front_of_each_other code at code' at' l.1 m.1)

  pub one_is_least_name : OneIsLeastOfBoth l names d p
  one_is_least_name file code at file' code' at' x y = files file code at file' code' at' (x.least file' code' at' y.is) (y.least file code at x.is)

  none_of_files : HasNoFault (HasDomainFault l names d) × HasNoFault (HasProblemFault names d p) → (file code at : ℕ) → HasNameFault l names d p file code at → ⊥
  none_of_files nones file code at (in_domain f) = nones.0 at code f
  none_of_files nones file code at (in_problem f) = nones.1 at code f

  pub none_by_file : IsNoneByFile l names d p
  none_by_file = ((λ nothing. ((λ at code f. nothing 0 code at (in_domain f)), (λ at code f. nothing 1 code at (in_problem f)))), none_of_files)

  -- no other fault stands in front of it
  abbrev IsFront : (file code at : ℕ) → Type 0
  IsFront file code at = (file' code' at' : ℕ) → HasNameFault l names d p file' code' at' → (file < file') ⊎ ((file ≡ file') × IsInFront code at code' at')

  abbrev IsLeastInItsFile : (file code at : ℕ) → Type 0
  IsLeastInItsFile file code at = ((file ≡ 0) × IsLeast (HasDomainFault l names d) code at) ⊎ ((file ≡ 1) × HasNoFault (HasDomainFault l names d) × IsLeast (HasProblemFault names d p) code at)

  same_file : (file : ℕ) (P : Type 0) → (file < file) ⊎ ((file ≡ file) × P) → P
  same_file file P (inl l) = absurd (omega arith)
  same_file file P (inr x) = x.1

  no_earlier_file : (file : ℕ) (P : Type 0) → file ≡ 0 → (1 < file) ⊎ ((1 ≡ file) × P) → ⊥
  no_earlier_file file P z (inl l) = omega arith
  no_earlier_file file P z (inr x) = let e = x.0 in omega arith

  least_in_file : (file code at : ℕ) → HasNameFault l names d p file code at → IsFront file code at → IsLeastInItsFile file code at
  least_in_file file code at (in_domain f) front = inl (refl, record { is = f; least = λ c a g. same_file 0 _ (front 0 c a (in_domain g)) })
  least_in_file file code at (in_problem f) front =
      inr (refl, (λ a c g. no_earlier_file 0 _ refl (front 0 c a (in_domain g))), record { is = f; least = λ c a g. same_file 1 _ (front 1 c a (in_problem g)) })

  domain_front : (code at : ℕ) → IsLeast (HasDomainFault l names d) code at → IsFront 0 code at
  domain_front code at x file' code' at' (in_domain g) = inr (refl, x.least code' at' g)
  domain_front code at x file' code' at' (in_problem g) = inl (omega arith)

  problem_front : (code at : ℕ) → HasNoFault (HasDomainFault l names d) → IsLeast (HasProblemFault names d p) code at → IsFront 1 code at
  problem_front code at none x file' code' at' (in_domain g) = absurd (none at' code' g)
  problem_front code at none x file' code' at' (in_problem g) = inr (refl, x.least code' at' g)

  least_of_both : (file code at : ℕ) → IsLeastInItsFile file code at → IsLeastNameFault l names d p file code at
  least_of_both file code at (inl x) = subst (λ file. IsLeastNameFault l names d p file code at) (sym x.0) (record { is = in_domain x.1.is; least = domain_front code at x.1 })
  least_of_both file code at (inr x) = subst (λ file. IsLeastNameFault l names d p file code at) (sym x.0) (record { is = in_problem x.2.is; least = problem_front code at x.1 x.2 })

  pub least_by_file : IsLeastByFile l names d p
  least_by_file file code at = ((λ x. least_in_file file code at x.is x.least), least_of_both file code at)

  domain_codes : (code at : ℕ) → HasDomainFault l names d at code → (10 ≤ code) × ((code ≤ 22) × (code ≢ 18))
  domain_codes code at (HasDomainFault.duplicate_name x) = (omega arith, (omega arith, λ e. omega arith))
  domain_codes code at (HasDomainFault.unknown_type x) = (omega arith, (omega arith, λ e. omega arith))
  domain_codes code at (HasDomainFault.type_cycle x) = (omega arith, (omega arith, λ e. omega arith))
  domain_codes code at (HasDomainFault.unknown_predicate x) = (omega arith, (omega arith, λ e. omega arith))
  domain_codes code at (HasDomainFault.unknown_task x) = (omega arith, (omega arith, λ e. omega arith))
  domain_codes code at (HasDomainFault.unknown_object x) = (omega arith, (omega arith, λ e. omega arith))
  domain_codes code at (HasDomainFault.unknown_variable x) = (omega arith, (omega arith, λ e. omega arith))
  domain_codes code at (HasDomainFault.wrong_arity x) = (omega arith, (omega arith, λ e. omega arith))
  domain_codes code at (HasDomainFault.unknown_subtask_id x) = (omega arith, (omega arith, λ e. omega arith))
  domain_codes code at (HasDomainFault.cyclic_order x) = (omega arith, (omega arith, λ e. omega arith))
  domain_codes code at (HasDomainFault.too_many_subtasks x) = (omega arith, (omega arith, λ e. omega arith))
  domain_codes code at (HasDomainFault.too_many_types x) = (omega arith, (omega arith, λ e. omega arith))

  problem_codes : (code at : ℕ) → HasProblemFault names d p at code → (10 ≤ code) × ((code ≤ 22) × (code ≢ 18))
  problem_codes code at (HasProblemFault.duplicate_name x) = (omega arith, (omega arith, λ e. omega arith))
  problem_codes code at (HasProblemFault.unknown_type x) = (omega arith, (omega arith, λ e. omega arith))
  problem_codes code at (HasProblemFault.unknown_predicate x) = (omega arith, (omega arith, λ e. omega arith))
  problem_codes code at (HasProblemFault.unknown_task x) = (omega arith, (omega arith, λ e. omega arith))
  problem_codes code at (HasProblemFault.unknown_object x) = (omega arith, (omega arith, λ e. omega arith))
  problem_codes code at (HasProblemFault.unknown_variable x) = (omega arith, (omega arith, λ e. omega arith))
  problem_codes code at (HasProblemFault.wrong_arity x) = (omega arith, (omega arith, λ e. omega arith))
  problem_codes code at (HasProblemFault.unknown_subtask_id x) = (omega arith, (omega arith, λ e. omega arith))
  problem_codes code at (HasProblemFault.cyclic_order x) = (omega arith, (omega arith, λ e. omega arith))
  problem_codes code at (HasProblemFault.too_many_subtasks x) = (omega arith, (omega arith, λ e. omega arith))

  pub are_name_codes : AreNameCodes l names d p
  are_name_codes file code at (in_domain f) = domain_codes code at f
  are_name_codes file code at (in_problem f) = problem_codes code at f

pub limit_comes_first : (names : Names) (n : RawNet) → LimitComesFirst names n
limit_comes_first names n at at' x y = let past = slice_get_within n.subs most_subtasks y.0 y.1 in let within = x.0 in omega arith
