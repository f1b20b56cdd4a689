-- That a fault is one: two texts of a language have one least fault or none, and so has the text of a plan.
-- Source: this project's.
use Rattle.std.specs.Prelude.{ℕ, ◌≡◌, List}
use Rattle.text_forms.specs.Faults.{Fault}
use Rattle.hddl_reader.specs.declared.sections.Language.{Language}
use Rattle.text_values.specs.TextFaults.{IsLeastFault, HaveNoFault}
use Rattle.plan_model.specs.declared.steps.GroundAction.{GroundAction}
use Rattle.plan_text.specs.Plans.{IsPlanFault, IsPlanRead}

-- in one file, with one code and at one place, whatever tables of words the texts were read into
pub record HaveOneFault (l : Language) (domain problem : List ℕ) : Type 0 where
  pub one : (file code at : ℕ) → IsLeastFault l domain problem file code at → (other more place : ℕ) → IsLeastFault l domain problem other more place → (file ≡ other) × (code ≡ more) × (at ≡ place)
  pub none : HaveNoFault l domain problem → (file code at : ℕ) → IsLeastFault l domain problem file code at → ⊥

pub record HasOnePlanFault (text : List ℕ) : Type 0 where
  pub one : (f g : Fault) → IsPlanFault text f → IsPlanFault text g → f ≡ g
  pub none : (steps : List GroundAction) → IsPlanRead text steps → (f : Fault) → IsPlanFault text f → ⊥
