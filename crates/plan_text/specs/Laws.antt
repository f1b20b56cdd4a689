-- What holds of plans as texts.
-- Source: this project's.
use Rattle.std.specs.Prelude.{ℕ, ◌≡◌, ◌↔◌, List, None}
use Rattle.text_forms.specs.Faults.{IsFaultless}
use Rattle.text_forms.specs.form_grammar.Plans.{steps_fault}
use Rattle.plan_model.specs.declared.steps.GroundAction.{GroundAction}
use Rattle.plan_texts.specs.PlanText.{SpellsPlan, plan_text, ArePrintableSteps}

-- Neither the tokens of the text nor its form has a fault.
abbrev pub HasNoFault : List ℕ → Type 0
HasNoFault text = IsFaultless text × (steps_fault text ≡ None)

abbrev pub SpellsSomePlan : List ℕ → Type 0
SpellsSomePlan text = (steps : List GroundAction) × SpellsPlan text steps

-- A text has no fault exactly where it spells a plan.
abbrev pub IsFaultlessExactlyWhereSpelled : List ℕ → Type 0
IsFaultlessExactlyWhereSpelled text = HasNoFault text ↔ SpellsSomePlan text

-- the words of a plan that a text spells are folded names, so that it can be printed
abbrev pub SpellsPrintableSteps : List ℕ → Type 0
SpellsPrintableSteps text = (steps : List GroundAction) → SpellsPlan text steps → ArePrintableSteps steps

-- What is printed for the steps has no fault, and spells these steps and no others.
pub record IsReadBack (steps : List GroundAction) : Type 0 where
  pub faultless : HasNoFault (plan_text steps)
  pub spelled : SpellsPlan (plan_text steps) steps
  pub only : (others : List GroundAction) → SpellsPlan (plan_text steps) others → others ≡ steps

abbrev pub PrintableStepsAreReadBack : Type 0
PrintableStepsAreReadBack = (steps : List GroundAction) → ArePrintableSteps steps → IsReadBack steps
