-- A whole domain and a whole problem: what was noted part by part is all that is noted, and how it is judged.
use Rattle.std.proofs.Common.{ℕ, ◌≡◌, Option, Some, None, Result, IfOk, IfErr, length, refl, ap, sym, subst, ◌∙◌}
use Rattle.name_binding.specs.Spots.{noted}
use Rattle.name_binding.specs.declared.faults.Spot.{Spot}
use Rattle.name_binding.proofs.Least.{none_is_noted}
use Rattle.gd_reader.specs.Terms.{Names}
use Rattle.hddl_reader.specs.declared.sections.Language.{Language}
use Rattle.hddl_reader.specs.declared.sections.RawDomain.{RawDomain}
use Rattle.hddl_reader.specs.declared.sections.RawProblem.{RawProblem}
use Rattle.plan_model.specs.declared.types.Types.{Types}
use Rattle.plan_model.specs.declared.values.Hddl.{Hddl}
use Rattle.name_binding.specs.Kinds.{Kinds}
use Rattle.name_binding.specs.Listed.{name_of, types_bound}
use Rattle.name_binding.specs.Parents.{pairs_in_order}
use Rattle.name_binding.specs.Unions.{AreWith}
use Rattle.name_binding.specs.declared.known.Known.{Known}
use Rattle.hddl_bind.specs.Callables.{declared}
use Rattle.hddl_bind.proofs.Steps.{noted_two, noted_three}
use Rattle.hddl_bind.specs.declared.bound_domain.BoundDomain.{BoundDomain}
use Rattle.hddl_bind.specs.declared.domain_names.DomainNames.{DomainNames}
use Rattle.hddl_bind.specs.declared.domain_schemas.DomainSchemas.{DomainSchemas}
use Rattle.hddl_bind.specs.declared.errors.BindError.{BindError}
use Rattle.hddl_bind.specs.declared.problem_parts.ProblemParts.{ProblemParts}
use Rattle.hddl_bind.specs.DeclaredNames.{known_in, second_names, second_objects}
use Rattle.hddl_bind.specs.DomainSchemas.{schemas_bound, schemas_faults, AreSchemasNoted}
use Rattle.hddl_bind.specs.Judged.{judged_by}
use Rattle.hddl_bind.specs.ProblemParts.{parts_bound, parts_faults, ArePartsNoted}
use Rattle.hddl_bind.specs.WholeDomains.{AreKindsOf, with_schemas, IsSectionNoted, IsDomainNoted, IsObject, IsDomainBound, IsDomainRefused}
use Rattle.hddl_bind.specs.WholeProblems.{known_with, known_by, parts_by, extended, with_start, together, IsStart, IsProblemNoted, IsNotedWithStart, IsProblemBound, IsProblemRefused}
use Rattle.hddl_bind.specs.WholeUnions.{problem_unions}

module _ (l : Language) (object : ℕ) (d : RawDomain) (kinds : Kinds) (are : AreKindsOf object d kinds) where
  pub domain_noted : (old one two new : Option Spot) (names : DomainNames) (types : Types) (schemas : DomainSchemas) (b : BoundDomain)
      → IsSectionNoted l object d old one → two ≡ noted one (second_names d)
      → names.known ≡ known_in kinds d → names.callables ≡ declared d.tasks d.actions
      → types ≡ types_bound names.known.types (pairs_in_order names.known.types.types d.types)
      → schemas ≡ schemas_bound names.known names.callables d
      → AreSchemasNoted names.known names.callables d two new
      → b ≡ with_schemas d.name types schemas names
      → IsDomainNoted l object d old new b
  domain_noted old one two new names types schemas b (spots, least, first) second known called listed bound (cycles, are_cycles, third) made =
      let typed : types ≡ types_bound kinds (pairs_in_order kinds.types d.types) = listed ∙ ap (λ (k : Known). types_bound k.types (pairs_in_order k.types.types d.types)) known in
      let parts : schemas ≡ schemas_bound (known_in kinds d) (declared d.tasks d.actions) d = bound ∙ (λ i. schemas_bound (known i) (called i) d) in
      let last : new ≡ noted two (schemas_faults (known_in kinds d) (declared d.tasks d.actions) d cycles) = third ∙ (λ i. noted two (schemas_faults (known i) (called i) d cycles)) in (
        record { kinds = kinds; are_kinds = are; types = spots; are_of_types = least; cycles = cycles; are_cycles = are_cycles },
        noted_three old one two new spots (second_names d) (schemas_faults (known_in kinds d) (declared d.tasks d.actions) d cycles) first second last,
        made ∙ (λ i. with_schemas d.name (typed i) (parts i) (record { known = known i; callables = called i })),
      )

-- a domain that is noted is judged
module _ (l : Language) (names : Names) (d : RawDomain) (object : ℕ) (is : IsObject names object) (b : BoundDomain) where
  pub domain_bound_if : (least : Option Spot) → IsDomainNoted l object d None least b → (r : Result BoundDomain BindError) → r ≡ judged_by 0 b least → IfOk r (IsDomainBound l names d)
  domain_bound_if None (x, all, made) r e = subst (λ s. IfOk s (IsDomainBound l names d)) (sym e) (object, is, (x, none_is_noted _ (sym all), made))
  domain_bound_if (Some s) n r e = subst (λ t. IfOk t (IsDomainBound l names d)) (sym e) tt

  pub domain_refused_if : (least : Option Spot) → IsDomainNoted l object d None least b → (r : Result BoundDomain BindError) → r ≡ judged_by 0 b least → IfErr r (IsDomainRefused l names d)
  domain_refused_if None n r e = subst (λ s. IfErr s (IsDomainRefused l names d)) (sym e) tt
  domain_refused_if (Some s) (x, all, made) r e = subst (λ t. IfErr t (IsDomainRefused l names d)) (sym e) (refl, (object, is, (x, sym all)))

module _ (d : BoundDomain) (p : RawProblem) where
  pub problem_noted : (start : ℕ) (old one new : Option Spot) (names : DomainNames) (parts : ProblemParts) (more : BoundDomain)
      → AreWith (problem_unions d.names.known.types p) d.names.known.types.unions names.known.types.unions
      → names.known ≡ known_with d.names.known names.known.types.unions p → names.callables ≡ d.names.callables
      → one ≡ noted old (second_objects d.names.known.objects p.objects)
      → parts ≡ parts_bound names.known names.callables (name_of start) (length d.tasks) p
      → ArePartsNoted names.known names.callables p one new
      → more ≡ extended d names.known.types.unions parts.objects names.known
      → IsProblemNoted d p start old new more parts
  problem_noted start old one new names parts more unions known called first made (cycle, is_cycle, second) whole =
      let us = names.known.types.unions in
      let now = known_with d.names.known us p in
      let last : new ≡ noted one (parts_faults now d.names.callables p cycle) = second ∙ (λ i. noted one (parts_faults (known i) (called i) p cycle)) in (
        record { unions = us; are_unions = unions; cycle = cycle; is_cycle = is_cycle },
        noted_two old one new (second_objects d.names.known.objects p.objects) (parts_faults now d.names.callables p cycle) first last,
        made ∙ (λ i. parts_bound (known i) (called i) (name_of start) (length d.tasks) p),
        whole ∙ ap (extended d us parts.objects) known,
      )

-- a problem that is noted is judged
module _ (names : Names) (d : BoundDomain) (p : RawProblem) (now : Names) (is : now ≡ with_start names) (more : BoundDomain) (parts : ProblemParts) where
  pub problem_bound_if : (least : Option Spot) → IsNotedWithStart d p now None least more parts → (r : Result Hddl BindError) → r ≡ judged_by 1 (together now more p.name parts) least → IfOk r (IsProblemBound d p names)
  problem_bound_if None (start, is_start, (x, all, made, whole)) r e =
      let value : together now more p.name parts ≡ together (with_start names) (extended d x.unions (parts_by d x.unions p start).objects (known_by d x.unions p)) p.name (parts_by d x.unions p start) =
      (λ i. together (is i) (whole i) p.name parts)
      ∙ ap (λ (q : ProblemParts). together (with_start names) (extended d x.unions q.objects (known_by d x.unions p)) p.name q) made in
      subst (λ s. IfOk s (IsProblemBound d p names)) (sym e) (start, subst (λ ns. IsStart ns start) is is_start, (x, none_is_noted _ (sym all), value))
  problem_bound_if (Some s) n r e = subst (λ t. IfOk t (IsProblemBound d p names)) (sym e) tt

  pub problem_refused_if : (least : Option Spot) → IsNotedWithStart d p now None least more parts → (r : Result Hddl BindError) → r ≡ judged_by 1 (together now more p.name parts) least → IfErr r (IsProblemRefused d p)
  problem_refused_if None n r e = subst (λ s. IfErr s (IsProblemRefused d p)) (sym e) tt
  problem_refused_if (Some s) (start, is_start, (x, all, made, whole)) r e = subst (λ t. IfErr t (IsProblemRefused d p)) (sym e) (refl, (x, sym all))
