-- What is refused is the least fault, and what is bound has none.
use Rattle.std.proofs.Common.{ℕ, ◌≡◌, inl, inr, List, [], ◌++◌, Some, None, subst, ◌∙◌, arith}
use Rattle.std.specs.Prelude.{◌⊎◌, ◌↔◌, codes}
use Rattle.htn_base.specs.Different.{AreDifferent}
use Rattle.gd_reader.specs.Terms.{Names, Keeps}
use Rattle.hddl_reader.specs.declared.sections.Language.{Language}
use Rattle.hddl_reader.specs.declared.sections.RawDomain.{RawDomain}
use Rattle.hddl_reader.specs.declared.sections.RawProblem.{RawProblem}
use Rattle.hddl_reader.specs.names.Faults.{HasDomainFault, HasProblemFault, IsLeast, HasNoFault}
use Rattle.htn_base.specs.Lists.{Has}
use Rattle.hddl_reader.specs.names.Types.{most_types}
use Rattle.hddl_reader.proofs.names.Least.{least_by_file, none_by_file}
use Rattle.name_binding.specs.declared.faults.Spot.{Spot}
use Rattle.name_binding.specs.Spots.{spot, noted, AreLeastOf}
use Rattle.name_binding.specs.Cycle.{IsSectionFault}
use Rattle.hddl_bind.specs.Callables.{declared}
use Rattle.hddl_bind.specs.DeclaredNames.{known_in, second_names}
use Rattle.hddl_bind.specs.DomainSchemas.{schemas_faults}
use Rattle.hddl_bind.specs.WholeDomains.{DomainBinding, IsObject, bound_by, faults_by}
use Rattle.hddl_bind.specs.WholeProblems.{ProblemBinding}
use Rattle.hddl_bind.specs.WholeProblems as problem
use Rattle.text_values.specs.form_spellings.binding_laws.InOrder.{IsDomainInOrder}
use Rattle.text_values.specs.form_spellings.binding_laws.Kinds.{AreTypesOf}
use Rattle.text_values.specs.form_spellings.binding_laws.TypeWords.{AreTypesIn}
use Rattle.text_values.specs.form_spellings.binding_laws.WholeFaults.{AreInOrder, IsLeastOfDomain, DomainHasNone, IsLeastOfProblem, BothHaveNone, OfAllInOrder}
use Rattle.text_values.proofs.form_spellings.binding_laws.DomainFaults.{domain_faults_are}
use Rattle.text_values.proofs.form_spellings.binding_laws.LeastSpots.{least_is, none_is}
use Rattle.text_values.proofs.form_spellings.binding_laws.ProblemFaults.{problem_faults_are}
use Rattle.text_values.proofs.form_spellings.binding_laws.TableKeeps.{number_is, keeps_longer, keeps_word}
use Rattle.text_values.proofs.form_spellings.binding_laws.TypeWords.{has_types}

no_spots : AreLeastOf (λ s. ⊥) []
no_spots = record { sound = λ k d l. absurd (omega arith); least = λ s f. absurd f }

-- of a domain in order, bound with an earlier table that this one keeps
module _ (before names : Names) (d : RawDomain) (differ : AreDifferent names) (keeps : Keeps before names) (domain : IsDomainInOrder names d)
    (object : ℕ) (of_object : IsObject before object) where
  pub types_by : AreTypesIn names object d.types
  types_by =
      let n = number_is before (codes "object") object of_object in
      let l = keeps_longer before names keeps in
      let m = n.0 in
      record { differ = differ; known = omega arith; is_object = keeps_word before names object keeps n.0 ∙ n.1; words_in = domain.words.types }

  module _ (l : Language) (x : DomainBinding l object d) where
    abbrev others : List Spot
    others = second_names d ++ schemas_faults (known_in x.kinds d) (declared d.tasks d.actions) d x.cycles

    domain_are : (code at : ℕ) → (IsSectionFault (most_types l) object d.types (spot at code) ⊎ Has others (spot at code)) ↔ HasDomainFault l names d at code
    domain_are code at = domain_faults_are l names object d domain types_by x.kinds x.are_kinds.types x.cycles x.are_cycles at code

    pub least_by : (code at : ℕ) → noted None (faults_by l object d x) ≡ Some (spot at code) → IsLeast (HasDomainFault l names d) code at
    least_by code at e = least_is (IsSectionFault (most_types l) object d.types) (HasDomainFault l names d) x.types others x.are_of_types domain_are code at e

    pub none_by : faults_by l object d x ≡ [] → HasNoFault (HasDomainFault l names d)
    none_by e = none_is (IsSectionFault (most_types l) object d.types) (HasDomainFault l names d) x.types others x.are_of_types domain_are e

module _ (before names : Names) (d : RawDomain) (p : RawProblem) (is : AreInOrder before names d p) (object : ℕ) (of_object : IsObject before object) where
  pub types_in : AreTypesIn names object d.types
  types_in = types_by before names d is.differ is.keeps is.domain object of_object

  module _ (l : Language) (x : DomainBinding l object d) where
    pub types_are : AreTypesOf names d x.kinds
    types_are = (has_types names object d x.kinds types_in x.are_kinds.types).0

    pub domain_least : (code at : ℕ) → noted None (faults_by l object d x) ≡ Some (spot at code) → IsLeast (HasDomainFault l names d) code at
    domain_least code at e = least_by before names d is.differ is.keeps is.domain object of_object l x code at e

    pub domain_none : faults_by l object d x ≡ [] → HasNoFault (HasDomainFault l names d)
    domain_none e = none_by before names d is.differ is.keeps is.domain object of_object l x e

    module _ (y : ProblemBinding (bound_by l object d x) p) where
      listed : List Spot
      listed = problem.faults_by (bound_by l object d x) p y

      problem_are : (code at : ℕ) → (⊥ ⊎ Has (problem.faults_by (bound_by l object d x) p y) (spot at code)) ↔ HasProblemFault names d p at code
      problem_are code at =
          let are = problem_faults_are names d is.domain x.kinds types_are y.unions p is.problem y.cycle y.is_cycle at code in
          (λ f. elim f [ inl none ↦ absurd none | inr h ↦ are.0 h ], λ f. inr (are.1 f))

      pub problem_least : (code at : ℕ) → noted None (problem.faults_by (bound_by l object d x) p y) ≡ Some (spot at code) → IsLeast (HasProblemFault names d p) code at
      problem_least code at e = least_is (λ s. ⊥) (HasProblemFault names d p) [] (problem.faults_by (bound_by l object d x) p y) no_spots problem_are code at e

      pub problem_none : problem.faults_by (bound_by l object d x) p y ≡ [] → HasNoFault (HasProblemFault names d p)
      problem_none e = none_is (λ s. ⊥) (HasProblemFault names d p) [] (problem.faults_by (bound_by l object d x) p y) no_spots problem_are e

pub is_least_of_domain : OfAllInOrder IsLeastOfDomain
is_least_of_domain before names d p l f is (file, (object, of_object, (x, e))) = (least_by_file l names d p f.file f.code f.at).1 (inl (file, domain_least before names d p is object of_object l x f.code f.at e))

pub domain_has_none : OfAllInOrder DomainHasNone
domain_has_none before names d p l b is (object, of_object, (x, e, same)) = domain_none before names d p is object of_object l x e

pub is_least_of_problem : OfAllInOrder IsLeastOfProblem
is_least_of_problem before names d p l b f is (object, of_object, (x, e, same)) (file, (y, g)) =
    let r = subst (λ b. (y : ProblemBinding b p) × (noted None (problem.faults_by b p y) ≡ Some (spot f.at f.code))) same (y, g) in
    (least_by_file l names d p f.file f.code f.at).1
    (inr (file, domain_none before names d p is object of_object l x e, problem_least before names d p is object of_object l x r.0 f.code f.at r.1))

pub both_have_none : OfAllInOrder BothHaveNone
both_have_none before names d p l b left h is (object, of_object, (x, e, same)) (start, of_start, (y, none, value)) =
    let r = subst (λ b. (y : ProblemBinding b p) × (problem.faults_by b p y ≡ [])) same (y, none) in
    (none_by_file l names d p).1 (domain_none before names d p is object of_object l x e, problem_none before names d p is object of_object l x r.0 r.1)
