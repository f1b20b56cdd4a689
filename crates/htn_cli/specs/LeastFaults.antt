-- The least fault of three texts: those of a domain and a problem, and one more.
-- Source: this project's.
use Rattle.std.specs.Prelude.{ℕ, List}
use Rattle.hddl_reader.specs.declared.sections.Language.{Language}
use Rattle.hddl_reader.specs.declared.sections.Language.TheVariants as language
use Rattle.text_forms.specs.Faults.{fault}
use Rattle.text_values.specs.TextFaults.{HaveNoFault, IsLeastFault}
use Rattle.hplan_text.specs.HPlanFaults as hplans
use Rattle.plan_text.specs.Plans.{IsPlanFault}

-- that of the two, in their language, or, where these have none, that of the third
pub data IsLeastOfThree (l : Language) (domain problem : List ℕ) (IsThird : (code at : ℕ) → Type 0) : (file code at : ℕ) → Type 0 where
  of_problem : {file code at : ℕ} → IsLeastFault l domain problem file code at → IsLeastOfThree l domain problem IsThird file code at
  of_third : {code at : ℕ} → HaveNoFault l domain problem → IsThird code at → IsLeastOfThree l domain problem IsThird 2 code at

-- the third is a plan
abbrev pub IsLeastWithPlan : Language → (domain problem plan : List ℕ) → (file code at : ℕ) → Type 0
IsLeastWithPlan l domain problem plan = IsLeastOfThree l domain problem (λ code at. IsPlanFault plan (fault code at))

-- the third is a hierarchical plan
abbrev pub IsLeastWithHPlan : (domain problem hplan : List ℕ) → (file code at : ℕ) → Type 0
IsLeastWithHPlan domain problem hplan = IsLeastOfThree language.Hddl domain problem (λ code at. hplans.IsLeastFault hplan (fault code at))
