-- What spells a classical plan, and what is printed for one.
-- Source: this project's; a plan of PDDL 2.1, level 1 (Fox and Long, JAIR 20, 2003), without times. Some planners put a number and a colon before a step.
use Rattle.std.specs.Prelude.{ℕ, ◌≡◌, true, List, [], ◌∷◌, map}
use Rattle.text_forms.specs.Bytes.{is_clean}
use Rattle.text_forms.specs.Tokens.{symbols}
use Rattle.text_forms.specs.Lists.{Part, Parts, name, group, nothing, part, written_all}
use Rattle.text_forms.specs.Words.{Word}
use Rattle.text_forms.specs.StepWords.{is_step_name, is_mark}
use Rattle.text_forms.specs.Printing.{headed, rows, is_folded_word}
use Rattle.plan_texts.specs.Printed.{all_parts}
use Rattle.plan_texts.specs.Types.{EachIs}
use Rattle.plan_model.specs.declared.steps.GroundAction.{GroundAction}

abbrev pub AreArgs : List Word → Parts → Type 0
AreArgs [] nothing = Unit {0}
AreArgs (w ∷ ws) nothing = ⊥
AreArgs [] (part p ps) = ⊥
AreArgs (w ∷ ws) (part p ps) = (p ≡ name w) × (is_step_name w ≡ true) × AreArgs ws ps

-- ( NAME NAME* )
abbrev pub IsStep : GroundAction → Part → Type 0
IsStep s p = (ps : Parts) × (p ≡ headed s.name ps) × (is_step_name s.name ≡ true) × AreArgs s.args ps

-- one list for each step, with at most one mark before it
abbrev pub AreSteps : List GroundAction → Parts → Type 0
AreSteps [] nothing = Unit {0}
AreSteps (s ∷ ss) nothing = ⊥
AreSteps ss (part (name w) nothing) = ⊥
AreSteps ss (part (name w) (part (name u) ps)) = ⊥
AreSteps ss (part (name w) (part (group qs) ps)) = (is_mark w ≡ true) × AreSteps ss (part (group qs) ps)
AreSteps [] (part (group qs) ps) = ⊥
AreSteps (s ∷ ss) (part (group qs) ps) = IsStep s (group qs) × AreSteps ss ps

pub record SpellsPlan (text : List ℕ) (steps : List GroundAction) : Type 0 where
  pub parts : Parts
  pub clean : is_clean text ≡ true
  pub is : symbols text ≡ written_all parts
  pub spelled : AreSteps steps parts

abbrev pub step_part : GroundAction → Part
step_part s = headed s.name (all_parts (map name s.args))

-- a line for each step
abbrev pub plan_text : List GroundAction → List ℕ
plan_text steps = rows (all_parts (map step_part steps))

abbrev pub IsStepWord : Word → Type 0
IsStepWord w = (is_folded_word w ≡ true) × (is_step_name w ≡ true)

-- each word is a folded name
abbrev pub ArePrintableSteps : List GroundAction → Type 0
ArePrintableSteps steps = EachIs (λ (s : GroundAction). IsStepWord s.name × EachIs IsStepWord s.args) steps

-- the text spells one list of steps at most
abbrev pub SpellsOnePlan : List ℕ → Type 0
SpellsOnePlan text = (steps others : List GroundAction) → SpellsPlan text steps → SpellsPlan text others → steps ≡ others

-- what is printed for the steps spells them, if they are printable
abbrev pub IsSpelledByItsText : List GroundAction → Type 0
IsSpelledByItsText steps = ArePrintableSteps steps → SpellsPlan (plan_text steps) steps
