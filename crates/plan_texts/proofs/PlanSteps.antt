-- A text spells one plan alone, and a printed plan is spelled by its text.
use Rattle.std.proofs.Common.{ℕ, ◌≡◌, List, [], ◌∷◌, map, refl, ap, ap₂, sym, ◌∙◌}
use Rattle.text_forms.specs.Lists.{Part, Parts, name, group, nothing, part}
use Rattle.text_forms.specs.Words.{Word}
use Rattle.text_forms.specs.Printing.{ArePrintableParts}
use Rattle.text_forms.proofs.OneNesting.{one_nesting}
use Rattle.text_forms.proofs.Printed.{symbols-rows, clean-rows}
use Rattle.plan_texts.specs.Printed.{all_parts}
use Rattle.plan_texts.specs.Types.{EachIs}
use Rattle.plan_texts.specs.PlanText.{AreArgs, IsStep, AreSteps, SpellsPlan, step_part, plan_text, IsStepWord, ArePrintableSteps}
use Rattle.plan_model.specs.declared.steps.GroundAction.{GroundAction}

word_of : Part → Word
word_of (name w) = w
word_of (group ps) = []

words_of : Parts → List Word
unfolding word_of
words_of nothing = []
words_of (part p ps) = word_of p ∷ words_of ps

step_of : Parts → GroundAction
unfolding words_of
step_of nothing = record { name = []; args = [] }
step_of (part p ps) = record { name = word_of p; args = words_of ps }

steps_of : Parts → List GroundAction
unfolding step_of
steps_of nothing = []
steps_of (part (name w) ps) = steps_of ps
steps_of (part (group qs) ps) = step_of qs ∷ steps_of ps

args-are : (ws : List Word) (ps : Parts) → AreArgs ws ps → ws ≡ words_of ps
unfolding words_of
args-are [] nothing e = refl
args-are [] (part p ps) e = absurd e
args-are (w ∷ ws) nothing e = absurd e
args-are (w ∷ ws) (part p ps) e = ap₂ (λ x xs. x ∷ xs) (sym (ap word_of e.0)) (args-are ws ps e.2)

step-is : (s : GroundAction) (qs : Parts) → IsStep s (group qs) → s ≡ step_of qs
unfolding step_of
step-is s qs e =
    let f : qs ≡ part (name s.name) e.0 = inside e.1 in
    let g = args-are s.args e.0 e.3 in
    (λ i. record { name = s.name; args = g i }) ∙ ap step_of (sym f)
  where
    inside : {ps rs : Parts} → group ps ≡ group rs → ps ≡ rs
    inside h = cc

steps-are : (ss : List GroundAction) (ps : Parts) → AreSteps ss ps → ss ≡ steps_of ps
unfolding steps_of
steps-are [] nothing e = refl
steps-are (s ∷ ss) nothing e = absurd e
steps-are [] (part (name w) nothing) e = absurd e
steps-are (s ∷ ss) (part (name w) nothing) e = absurd e
steps-are [] (part (name w) (part (name u) ps)) e = absurd e
steps-are (s ∷ ss) (part (name w) (part (name u) ps)) e = absurd e
steps-are [] (part (name w) (part (group qs) ps)) e = absurd e.1
steps-are (s ∷ ss) (part (name w) (part (group qs) ps)) e = ap₂ (λ x xs. x ∷ xs) (step-is s qs e.1.0) (steps-are ss ps e.1.1)
steps-are [] (part (group qs) ps) e = absurd e
steps-are (s ∷ ss) (part (group qs) ps) e = ap₂ (λ x xs. x ∷ xs) (step-is s qs e.0) (steps-are ss ps e.1)

pub one-plan : (text : List ℕ) (ss us : List GroundAction) → SpellsPlan text ss → SpellsPlan text us → ss ≡ us
one-plan text ss us e f =
    let same : e.parts ≡ f.parts = one_nesting e.parts f.parts (sym e.is ∙ f.is) in
    steps-are ss e.parts e.spelled ∙ ap steps_of same ∙ sym (steps-are us f.parts f.spelled)

args-printed : (ws : List Word) → EachIs IsStepWord ws → AreArgs ws (all_parts (map name ws)) × ArePrintableParts (all_parts (map name ws))
args-printed [] e = (tt, tt)
args-printed (w ∷ ws) e = let g = args-printed ws e.1 in ((refl, e.0.1, g.0), (e.0.0, g.1))

steps-printed : (ss : List GroundAction) → ArePrintableSteps ss → AreSteps ss (all_parts (map step_part ss)) × ArePrintableParts (all_parts (map step_part ss))
steps-printed [] e = (tt, tt)
steps-printed (s ∷ ss) e =
    let g = steps-printed ss e.1 in let a = args-printed s.args e.0.1 in
    (((all_parts (map name s.args), refl, e.0.0.1, a.0), g.0), ((e.0.0.0, a.1), g.1))

pub printed-plan : (ss : List GroundAction) → ArePrintableSteps ss → SpellsPlan (plan_text ss) ss
printed-plan ss e =
    let g = steps-printed ss e in
    record { parts = all_parts (map step_part ss); clean = clean-rows (all_parts (map step_part ss)) g.1; is = symbols-rows (all_parts (map step_part ss)) g.1; spelled = g.0 }
