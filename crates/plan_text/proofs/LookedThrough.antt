-- A text whose steps were counted in lower case.
use Rattle.std.proofs.Common.{◌≡◌, ◌∙◌, ℕ, Some, None, Option, List, length, sym, ap, subst, arith}
use Rattle.htn_base.specs.Words.{folded}
use Rattle.htn_base.proofs.TableLemmas.{IsFolded-folded}
use Rattle.text_forms.specs.Faults.{IsFaultless}
use Rattle.text_forms.specs.Placed.{parts_at}
use Rattle.text_forms.specs.Tokens.{symbols}
use Rattle.text_forms.specs.form_grammar.Codes.{Whole, complete}
use Rattle.text_forms.specs.form_grammar.Plans.{steps_form}
use Rattle.plan_model.specs.declared.steps.GroundAction.{GroundAction}
use Rattle.plan_texts.specs.PlanText.{SpellsPlan}
use Rattle.plan_text.specs.Coming.{said_at, TellsCount, steps_in, IsSpelledFrom}
use Rattle.plan_text.specs.Lowered.{IsInLowerCase, IsNoPlan, IsLookedThrough}
use Rattle.plan_text.specs.Plans.{IsPlanRead}
use Rattle.plan_text.proofs.Exactly.{spelled}
use Rattle.plan_text.proofs.Flat.{faultless}
use Rattle.plan_text.proofs.Folded.{printable}
use Rattle.plan_text.proofs.Lowered.{symbols-lower, spelled-lower, lower-spelled}
use Rattle.plan_text.proofs.NextSteps.{are-said}
use Rattle.plan_text.proofs.Whole.{steps-are, spelled-whole}

spelled-in : (text : List ℕ) (steps : List GroundAction) → SpellsPlan text steps → steps_in (symbols text) ≡ steps
spelled-in text steps s = are-said (symbols text) steps (s.parts, s.is, s.spelled)

pub looked-through : (text : List ℕ) (lower : Option (List ℕ)) (n : ℕ) → IsInLowerCase text lower → TellsCount (folded text) (Some n) → IsLookedThrough text lower n
looked-through text lower n l t =
    let s = lower-spelled text t.0 t.1 in
    record { lower_is = l; steps = t.0; spelled = s; counted = t.2 ∙ ap length (sym (spelled-in text t.0 s)) }

pub plan-is-read : (text : List ℕ) (n : ℕ) → TellsCount (folded text) (Some n) → IsPlanRead text (steps_in (symbols text))
plan-is-read text n t =
    let s = lower-spelled text t.0 t.1 in
    subst (IsPlanRead text) (sym (spelled-in text t.0 s)) (record {
      tokens = faultless text t.0 s;
      whole = subst Whole (sym (spelled-whole text t.0 s)) tt;
      spelled = s;
      folded = printable text t.0 s;
    })

pub no-plan : (text : List ℕ) → TellsCount (folded text) None → IsNoPlan text
no-plan text t steps s = t steps (spelled-lower text steps s)

pub steps-begin : (text : List ℕ) (lower : Option (List ℕ)) (n : ℕ) → IsLookedThrough text lower n → IsSpelledFrom (folded text) 0
steps-begin text lower n l = record { lower = IsFolded-folded text; within = omega arith; steps = l.steps; spelled = spelled-lower text l.steps l.spelled }

pub same-steps : (text : List ℕ) → steps_in (said_at (folded text) 0) ≡ steps_in (symbols text)
same-steps text = ap steps_in (symbols-lower text)

-- a text without faults whose tokens are a whole plan spells one
pub spells-one : (text s : List ℕ) → s ≡ text → IsFaultless text → steps_form (parts_at s 0) ≡ complete → IsNoPlan text → ⊥
spells-one text s e f w none =
    let h = ap (λ t. steps_form (parts_at t 0)) (sym e) ∙ w in
    let steps = steps-are (parts_at text 0) h in
    none steps.0 (spelled text steps.0 f h steps.1)
