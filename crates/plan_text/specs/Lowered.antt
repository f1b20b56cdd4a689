-- A text of a plan and the same text in lower case.
-- Source: this project's.
use Rattle.std.specs.Prelude.{ℕ, ◌≡◌, List, length, Option, MatchOption}
use Rattle.htn_base.specs.Words.{folded, IsFolded}
use Rattle.text_forms.specs.Tokens.{symbols}
use Rattle.plan_model.specs.declared.steps.GroundAction.{GroundAction}
use Rattle.plan_texts.specs.PlanText.{SpellsPlan}
use Rattle.plan_text.specs.Coming.{steps_in}

-- the text in lower case, or none where it is so
abbrev pub IsInLowerCase : List ℕ → Option (List ℕ) → Type 0
IsInLowerCase text o = MatchOption o (IsFolded text) (λ t. t ≡ folded text)

abbrev pub IsNoPlan : List ℕ → Type 0
IsNoPlan text = (steps : List GroundAction) → SpellsPlan text steps → ⊥

-- so many steps are spelled by the text
pub record IsLookedThrough (text : List ℕ) (lower : Option (List ℕ)) (count : ℕ) : Type 0 where
  pub lower_is : IsInLowerCase text lower
  pub steps : List GroundAction
  pub spelled : SpellsPlan text steps
  pub counted : count ≡ length (steps_in (symbols text))
