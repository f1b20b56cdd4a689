-- What is read of a text as a classical plan, and why one isn't read.
-- Source: this project's; a plan of PDDL 2.1, level 1 (Fox and Long, JAIR 20, 2003), without times.
use Rattle.std.specs.Prelude.{ℕ, ◌≡◌, ◌⊎◌, List, Some}
use Rattle.text_forms.specs.Faults.{Fault, fault, IsLeast, IsFaultless}
use Rattle.text_forms.specs.Placed.{parts_at}
use Rattle.text_forms.specs.form_grammar.Codes.{Whole}
use Rattle.text_forms.specs.form_grammar.Plans.{steps_form, steps_fault}
use Rattle.plan_model.specs.declared.steps.GroundAction.{GroundAction}
use Rattle.plan_texts.specs.PlanText.{SpellsPlan, ArePrintableSteps}
use Rattle.text_forms.specs.declared.sexpr_text.read_error.ReadError.{ReadError}
use Rattle.text_forms.specs.declared.sexpr_text.read_error.ReadError.TheVariants as errors

-- The text has no fault of tokens, its tokens are a whole plan, and it spells these steps, whose words are folded names.
pub record IsPlanRead (text : List ℕ) (steps : List GroundAction) : Type 0 where
  pub tokens : IsFaultless text
  pub whole : Whole (steps_form (parts_at text 0))
  pub spelled : SpellsPlan text steps
  pub folded : ArePrintableSteps steps

-- the least fault of a text as a plan: that of its tokens, and where they have none, the one of its form
abbrev pub IsPlanFault : List ℕ → Fault → Type 0
IsPlanFault text f = IsLeast text f ⊎ (IsFaultless text × (f.code ≡ 8) × (steps_fault text ≡ Some f))

-- why a text isn't read as a plan; or memory ran out
abbrev pub RefusesPlan : ℕ → List ℕ → ReadError → Type 0
RefusesPlan file text errors.Memory = Unit {0}
RefusesPlan file text (errors.Bad f) = (f.file ≡ file) × IsPlanFault text (fault f.code f.at)
