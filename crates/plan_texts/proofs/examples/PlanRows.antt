-- Plans: what spells, and what is refused.
use Rattle.std.proofs.Common.{ℕ, ◌≡◌, true, false, List, [], ◌∷◌, codes, refl, ap, ◌∙◌}
use Rattle.text_forms.specs.StepWords.{is_step_name, is_mark}
use Rattle.plan_texts.specs.PlanText.{AreSteps, plan_text}
use Rattle.plan_model.specs.declared.steps.GroundAction.{GroundAction}
use Rattle.plan_texts.proofs.examples.RowWords.{head_word, parts}

abbrev step : List (List ℕ) → GroundAction
step [] = record { name = []; args = [] }
step (w ∷ ws) = record { name = w; args = ws }

-- with and without a number before the step; a reserved word is a name here
pub plan : AreSteps (step (codes "go" ∷ codes "a" ∷ []) ∷ step (codes "and" ∷ codes "or" ∷ []) ∷ []) (parts (codes "; slots 1\n0: (GO a)\n(and or)\n"))
plan = (refl, ((_, refl, refl, (refl, refl, tt)), ((_, refl, refl, (refl, refl, tt)), tt)))

pub empty : AreSteps [] (parts (codes ";\n"))
empty = tt

pub two_marks : (ss : List GroundAction) → AreSteps ss (parts (codes "0: 1: (go)")) → ⊥
two_marks [] e = e
two_marks (s ∷ ss) e = e

pub mark_at_end : (ss : List GroundAction) → AreSteps ss (parts (codes "0:")) → ⊥
mark_at_end [] e = e
mark_at_end (s ∷ ss) e = e

pub colon_alone : is_mark (codes ":") ≡ false
colon_alone = refl

pub letter_in_mark : is_mark (codes "1a:") ≡ false
letter_in_mark = refl

pub no_colon : is_mark (codes "12") ≡ false
no_colon = refl

pub variable_in_plan : (s : GroundAction) → AreSteps (s ∷ []) (parts (codes "(?go)")) → ⊥
variable_in_plan s e = let f : false ≡ true = ap is_step_name (ap head_word e.0.1) ∙ e.0.2 in cc

pub printed : plan_text (step (codes "htn_start" ∷ codes "htn_s1" ∷ []) ∷ step (codes "a" ∷ []) ∷ []) ≡ codes "(htn_start htn_s1)\n(a)\n"
printed = refl
