-- Two texts have one least fault, or none; and so has the text of a plan.
use Rattle.std.proofs.Common.{ℕ, ◌≡◌, List, length, Option, Some, refl, sym, ap, ◌∙◌, inl, inr, arith}
use Rattle.text_forms.specs.Faults.{Fault, fault}
use Rattle.text_forms.specs.Faults as tokens
use Rattle.text_forms.specs.Placed.{parts_at}
use Rattle.text_forms.specs.form_grammar.Codes.{Form, complete, unfinished, wrong, Whole}
use Rattle.text_forms.specs.form_grammar.Definitions.{definition_form, definition_fault}
use Rattle.text_forms.specs.form_grammar.Plans.{steps_form, steps_fault}
use Rattle.text_forms.specs.form_grammar.Sections as grammar
use Rattle.text_forms.specs.form_grammar.Texts.{fault_or, last_word}
use Rattle.gd_reader.specs.Terms.{Names}
use Rattle.hddl_reader.specs.declared.sections.Language.{Language}
use Rattle.hddl_reader.specs.declared.sections.RawDomain.{RawDomain}
use Rattle.hddl_reader.specs.declared.sections.RawProblem.{RawProblem}
use Rattle.hddl_reader.specs.Definitions.{language_of}
use Rattle.hddl_reader.specs.names.Faults.{HasDomainFault, HasProblemFault, IsInFront, IsLeast}
use Rattle.text_values.specs.TextFaults.{IsDomainOf, IsProblemOf, IsGoodDomain, IsGoodProblem, IsLeastOfDomain, domain_tokens, domain_form, domain_names, IsLeastOfProblem, problem_tokens, problem_form, problem_names, IsLeastFault, in_domain, in_problem, HaveNoFault}
use Rattle.plan_model.specs.declared.steps.GroundAction.{GroundAction}
use Rattle.plan_text.specs.Plans.{IsPlanFault, IsPlanRead}
use Rattle.text_values.specs.OneFault.{HaveOneFault, HasOnePlanFault}
use Rattle.text_values.proofs.Alike.{AlikeDomain}
use Rattle.text_values.proofs.DefinitionPairs.{domains_alike, problems_alike}
use Rattle.text_values.proofs.NameFaults.{domain_fault, problem_fault}

-- a code and a place
abbrev IsOne : (code at more place : ℕ) → Type 0
IsOne code at more place = (code ≡ more) × (at ≡ place)

in_front_both : (code at more place : ℕ) → IsInFront code at more place → IsInFront more place code at → IsOne code at more place
in_front_both code at more place (inl l) (inl k) = absurd (omega (arith, l, k))
in_front_both code at more place (inl l) (inr (e, few)) = absurd (omega (arith, l, e))
in_front_both code at more place (inr (e, few)) (inl k) = absurd (omega (arith, e, k))
in_front_both code at more place (inr (e, few)) (inr (f, less)) = (omega (arith, few, less), e)

-- of two readings with the same faults the least fault is one
one_of_names : (P Q : ℕ → ℕ → Type 0) → ((at code : ℕ) → P at code → Q at code) → ((at code : ℕ) → Q at code → P at code) → (code at more place : ℕ) → IsLeast P code at → IsLeast Q more place → IsOne code at more place
one_of_names P Q forth back code at more place x y = in_front_both code at more place (x.least more place (back place more y.is)) (y.least code at (forth at code x.is))

one_token : (text : List ℕ) (f g : Fault) → tokens.IsLeast text f → tokens.IsLeast text g → IsOne f.code f.at g.code g.at
one_token text f g x y = in_front_both f.code f.at g.code g.at (x.least g y.is) (y.least f x.is)

-- a whole form has no fault, and a form has one fault at most
whole_none : (g : Form) (due f : Fault) → Whole g → fault_or due g ≡ Some f → ⊥
whole_none complete due f w e = cc
whole_none unfinished due f w e = w
whole_none (wrong code at) due f w e = w

one_told : (told : Option Fault) (f g : Fault) → told ≡ Some f → told ≡ Some g → f ≡ g
one_told told f g e h = let k : Some f ≡ Some g = sym e ∙ h in cc

one_form : (told : Option Fault) (code at more place : ℕ) → told ≡ Some (fault code at) → told ≡ Some (fault more place) → IsOne code at more place
one_form told code at more place e f = let g = one_told told (fault code at) (fault more place) e f in (ap (λ z. z.code) g, ap (λ z. z.at) g)

module _ (l : Language) (text : List ℕ) where
  abbrev Tells : ℕ → ℕ → Type 0
  Tells code at = definition_fault (language_of l) grammar.domain text ≡ Some (fault code at)

  domain_whole : (table : Names) (d : RawDomain) → IsDomainOf l text table d → (code at : ℕ) → Tells code at → ⊥
  domain_whole table d r code at e = whole_none (definition_form (language_of l) grammar.domain (parts_at text 0)) (fault 5 (length text)) (fault code at) r.read.2.whole e

  same_domain : (t u : Names) (d e : RawDomain) → IsDomainOf l text t d → IsDomainOf l text u e → AlikeDomain t u d e
  same_domain t u d e r s = domains_alike l text r.before s.before d e r.behind s.behind r.read s.read t u r.keeps s.keeps

  names_over : (t u : Names) (d e : RawDomain) → IsDomainOf l text t d → IsDomainOf l text u e → (at code : ℕ) → HasDomainFault l t d at code → HasDomainFault l u e at code
  names_over t u d e r s = domain_fault t u d e (same_domain t u d e r s) l

  one_of_domain : (code at more place : ℕ) → IsLeastOfDomain l text code at → IsLeastOfDomain l text more place → IsOne code at more place
  one_of_domain code at more place (domain_tokens x) (domain_tokens y) = one_token text (fault code at) (fault more place) x y
  one_of_domain code at more place (domain_tokens x) (domain_form none e) = absurd (none (fault code at) x.is)
  one_of_domain code at more place (domain_tokens x) (domain_names t d none r k) = absurd (none (fault code at) x.is)
  one_of_domain code at more place (domain_form none e) (domain_tokens y) = absurd (none (fault more place) y.is)
  one_of_domain code at more place (domain_form none e) (domain_form also f) = one_form (definition_fault (language_of l) grammar.domain text) code at more place e f
  one_of_domain code at more place (domain_form none e) (domain_names t d also r k) = absurd (domain_whole t d r code at e)
  one_of_domain code at more place (domain_names t d none r k) (domain_tokens y) = absurd (none (fault more place) y.is)
  one_of_domain code at more place (domain_names t d none r k) (domain_form also f) = absurd (domain_whole t d r more place f)
  one_of_domain code at more place (domain_names t d none r k) (domain_names u e also s j) =
      one_of_names (HasDomainFault l t d) (HasDomainFault l u e) (names_over t u d e r s) (names_over u t e d s r) code at more place k j

  good_or_fault : (t : Names) (d : RawDomain) → IsGoodDomain l text t d → (code at : ℕ) → IsLeastOfDomain l text code at → ⊥
  good_or_fault t d good code at (domain_tokens x) = good.tokens (fault code at) x.is
  good_or_fault t d good code at (domain_form none e) = domain_whole t d good.read code at e
  good_or_fault t d good code at (domain_names u e none r k) = good.names at code (names_over u t e d r good.read at code k.is)

module _ (l : Language) (domain text : List ℕ) where
  abbrev TellsToo : ℕ → ℕ → Type 0
  TellsToo code at = definition_fault (language_of l) grammar.problem text ≡ Some (fault code at)

  problem_whole : (table : Names) (p : RawProblem) → IsProblemOf l text table p → (code at : ℕ) → TellsToo code at → ⊥
  problem_whole table p r code at e = whole_none (definition_form (language_of l) grammar.problem (parts_at text 0)) (fault 5 (length text)) (fault code at) r.read.2.whole e

  problem_names_over : (t u : Names) (d e : RawDomain) (p q : RawProblem) → IsDomainOf l domain t d → IsDomainOf l domain u e → IsProblemOf l text t p → IsProblemOf l text u q → (at code : ℕ) → HasProblemFault t d p at code → HasProblemFault u e q at code
  problem_names_over t u d e p q r s k j = problem_fault t u d e (same_domain l domain t u d e r s) p q (problems_alike l text k.before j.before p q k.behind j.behind k.read j.read t u k.keeps j.keeps)

  one_of_problem : (code at more place : ℕ) → IsLeastOfProblem l domain text code at → IsLeastOfProblem l domain text more place → IsOne code at more place
  one_of_problem code at more place (problem_tokens x) (problem_tokens y) = one_token text (fault code at) (fault more place) x y
  one_of_problem code at more place (problem_tokens x) (problem_form none e) = absurd (none (fault code at) x.is)
  one_of_problem code at more place (problem_tokens x) (problem_names t d p good none r k) = absurd (none (fault code at) x.is)
  one_of_problem code at more place (problem_form none e) (problem_tokens y) = absurd (none (fault more place) y.is)
  one_of_problem code at more place (problem_form none e) (problem_form also f) = one_form (definition_fault (language_of l) grammar.problem text) code at more place e f
  one_of_problem code at more place (problem_form none e) (problem_names t d p good also r k) = absurd (problem_whole t p r code at e)
  one_of_problem code at more place (problem_names t d p good none r k) (problem_tokens y) = absurd (none (fault more place) y.is)
  one_of_problem code at more place (problem_names t d p good none r k) (problem_form also f) = absurd (problem_whole t p r more place f)
  one_of_problem code at more place (problem_names t d p good none r k) (problem_names u e q well also s j) =
      one_of_names (HasProblemFault t d p) (HasProblemFault u e q) (problem_names_over t u d e p q good.read well.read r s) (problem_names_over u t e d q p well.read good.read s r) code at more place k j

  good_or_problem_fault : (t : Names) (d : RawDomain) (p : RawProblem) → IsGoodDomain l domain t d → IsGoodProblem l text t d p → (code at : ℕ) → IsLeastOfProblem l domain text code at → ⊥
  good_or_problem_fault t d p good well code at (problem_tokens x) = well.tokens (fault code at) x.is
  good_or_problem_fault t d p good well code at (problem_form none e) = problem_whole t p well.read code at e
  good_or_problem_fault t d p good well code at (problem_names u e q also none r k) = well.names at code (problem_names_over u t e d q p also.read good.read r well.read at code k.is)

module _ (l : Language) (domain problem : List ℕ) where
  one : (file code at : ℕ) → IsLeastFault l domain problem file code at → (other more place : ℕ) → IsLeastFault l domain problem other more place → (file ≡ other) × (code ≡ more) × (at ≡ place)
  one file code at (in_domain x) other more place (in_domain y) = let e = one_of_domain l domain code at more place x y in (refl, e.0, e.1)
  one file code at (in_domain x) other more place (in_problem t d good y) = absurd (good_or_fault l domain t d good code at x)
  one file code at (in_problem t d good x) other more place (in_domain y) = absurd (good_or_fault l domain t d good more place y)
  one file code at (in_problem t d good x) other more place (in_problem u e well y) = let s = one_of_problem l domain problem code at more place x y in (refl, s.0, s.1)

  none : HaveNoFault l domain problem → (file code at : ℕ) → IsLeastFault l domain problem file code at → ⊥
  none good file code at (in_domain x) = good_or_fault l domain good.table good.d good.domain_is code at x
  none good file code at (in_problem t d well x) = good_or_problem_fault l domain problem good.table good.d good.p good.domain_is good.problem_is code at x

  pub have_one_fault : HaveOneFault l domain problem
  have_one_fault = record { one = one; none = none }

module _ (text : List ℕ) where
  one_plan_fault : (f g : Fault) → IsPlanFault text f → IsPlanFault text g → f ≡ g
  one_plan_fault f g (inl x) (inl y) = let e = one_token text f g x y in λ i. fault (e.0 i) (e.1 i)
  one_plan_fault f g (inl x) (inr (none, code, e)) = absurd (none f x.is)
  one_plan_fault f g (inr (none, code, e)) (inl y) = absurd (none g y.is)
  one_plan_fault f g (inr (none, code, e)) (inr (also, more, h)) = one_told (steps_fault text) f g e h

  plan_or_fault : (steps : List GroundAction) → IsPlanRead text steps → (f : Fault) → IsPlanFault text f → ⊥
  plan_or_fault steps r f (inl x) = r.tokens f x.is
  plan_or_fault steps r f (inr (none, code, e)) = whole_none (steps_form (parts_at text 0)) (fault 8 (last_word 0 (parts_at text 0))) f r.whole e

  pub has_one_plan_fault : HasOnePlanFault text
  has_one_plan_fault = record { one = one_plan_fault; none = plan_or_fault }
