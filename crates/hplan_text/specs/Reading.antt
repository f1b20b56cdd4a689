-- What is read of a text as a hierarchical plan, and why one isn't read.
-- Source: this project's.
use Rattle.std.specs.Prelude.{ℕ, ◌≡◌, List}
use Rattle.text_forms.specs.Faults.{fault}
use Rattle.text_forms.specs.declared.sexpr_text.read_error.ReadError.{ReadError}
use Rattle.text_forms.specs.declared.sexpr_text.read_error.ReadError.TheVariants as errors
use Rattle.hplan_text.specs.declared.values.HPlan.{HPlan}
use Rattle.hplan_text.specs.SpellsHPlan.{SpellsHPlan}
use Rattle.hplan_text.specs.HPlanFaults.{IsFaultless, IsLeastFault}

-- the text has no fault, and spells the plan
pub record IsHPlanRead (text : List ℕ) (plan : HPlan) : Type 0 where
  pub faultless : IsFaultless text
  pub spelled : SpellsHPlan text plan

-- and it spells no other plan
pub record IsReadAlone (text : List ℕ) (plan : HPlan) : Type 0 where
  pub read : IsHPlanRead text plan
  pub only : (other : HPlan) → SpellsHPlan text other → other ≡ plan

-- why a text isn't read as a hierarchical plan; or memory ran out
abbrev pub RefusesHPlan : ℕ → List ℕ → ReadError → Type 0
RefusesHPlan file text errors.Memory = Unit {0}
RefusesHPlan file text (errors.Bad f) = (f.file ≡ file) × IsLeastFault text (fault f.code f.at)

-- a text spells one plan at most
abbrev pub SpellsOneHPlan : List ℕ → Type 0
SpellsOneHPlan text = (plan other : HPlan) → SpellsHPlan text plan → SpellsHPlan text other → plan ≡ other
