-- The least fault of one text is that of both.
use Rattle.std.proofs.Common.{ℕ, List, sym, subst, Result, Ok, Err}
use Rattle.std.specs.Prelude.{IfErr}
use Rattle.gd_reader.specs.Terms.{Names}
use Rattle.hddl_reader.specs.declared.sections.Language.{Language}
use Rattle.plan_model.specs.declared.values.Hddl.{Hddl}
use Rattle.hddl_bind.specs.declared.bound_domain.BoundDomain.{BoundDomain}
use Rattle.text_forms.specs.declared.sexpr_text.read_error.ReadError.{ReadError}
use Rattle.text_forms.specs.declared.sexpr_text.read_error.ReadError.TheVariants as errors
use Rattle.text_values.specs.TextFaults.{IsLeastFault, in_domain, in_problem}
use Rattle.text_values.specs.Reading.{RefusesDomain, RefusesOver, RefusesProblem, IsBoundText}
use Rattle.text_values.specs.Values.{IsRefusal}
use Rattle.text_values.proofs.DomainTexts.{good_domain}

module _ (l : Language) (domain problem : List ℕ) where
  pub domain_refused : (e : ReadError) → RefusesDomain l domain e → IsRefusal domain problem l e
  domain_refused errors.Memory h = tt
  domain_refused (errors.Bad f) (file, least) = subst (λ n. IsLeastFault l domain problem n f.code f.at) (sym file) (in_domain least)

  refused : (table : Names) (b : BoundDomain) → IsBoundText l domain table b → (e : ReadError) → RefusesOver l domain problem e → IsRefusal domain problem l e
  refused table b bound errors.Memory h = tt
  refused table b bound (errors.Bad f) (file, least) =
      subst (λ n. IsLeastFault l domain problem n f.code f.at) (sym file) (in_problem table bound.d (good_domain l domain table b bound) least)

  pub problem_refused : (table : Names) (b : BoundDomain) → IsBoundText l domain table b → (r : Result Hddl ReadError)
      → IfErr r (RefusesProblem l table b problem) → IfErr r (IsRefusal domain problem l)
  problem_refused table b bound (Ok h) is = tt
  problem_refused table b bound (Err e) is = refused table b bound e (is domain bound)
