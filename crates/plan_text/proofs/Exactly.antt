-- A text has no fault exactly where it spells a plan, and what is printed is read back.
use Rattle.std.proofs.Common.{◌≡◌, ℕ, ◌+◌, inl, inr, true, List, [], ◌∷◌, refl, ap}
use Rattle.text_forms.specs.Bytes.{Class, blank, opening, closing, letter, bad, classes, are_good}
use Rattle.text_forms.specs.Faults.{Fault, fault, open_after, HasFault, IsFaultless}
use Rattle.text_forms.specs.Placed.{parts_at, parts_of}
use Rattle.text_forms.specs.form_grammar.Codes.{complete}
use Rattle.text_forms.specs.form_grammar.Plans.{steps_form}
use Rattle.text_forms.specs.form_grammar.Texts.{fault_or, last_word}
use Rattle.plan_model.specs.declared.steps.GroundAction.{GroundAction}
use Rattle.plan_texts.specs.PlanText.{AreSteps, SpellsPlan, plan_text}
use Rattle.plan_texts.proofs.PlanSteps.{one-plan, printed-plan}
use Rattle.plan_text.specs.Laws.{HasNoFault, IsFaultlessExactlyWhereSpelled, PrintableStepsAreReadBack}
use Rattle.plan_text.proofs.Flat.{faultless}
use Rattle.plan_text.proofs.Forms.{no-fault}
use Rattle.plan_text.proofs.Whole.{steps-are, whole-said, spelled-whole}

-- A text without faults of tokens has no bad byte.
good : (ps : List ℕ) (at : ℕ) (cs : List Class) → ((f : Fault) → HasFault ps at cs f → ⊥) → are_good cs ≡ true
good ps at [] none = refl
good ps at (bad ∷ cs) none = absurd (none (fault 1 at) (inl (1, refl, refl)))
good ps at (blank ∷ cs) none = good (open_after ps at blank) (at + 1) cs (λ f h. none f (inr h))
good ps at (opening ∷ cs) none = good (open_after ps at opening) (at + 1) cs (λ f h. none f (inr h))
good ps at (closing ∷ cs) none = good (open_after ps at closing) (at + 1) cs (λ f h. none f (inr h))
good ps at (letter ∷ cs) none = good (open_after ps at letter) (at + 1) cs (λ f h. none f (inr h))

-- The steps of a whole form are spelled.
pub spelled : (text : List ℕ) (steps : List GroundAction) → IsFaultless text → steps_form (parts_at text 0) ≡ complete → AreSteps steps (parts_of (parts_at text 0)) → SpellsPlan text steps
spelled text steps none e a = record { parts = parts_of (parts_at text 0); clean = good [] 0 (classes text) none; is = whole-said text e; spelled = a }

pub no-fault-spelled : (text : List ℕ) (steps : List GroundAction) → SpellsPlan text steps → HasNoFault text
no-fault-spelled text steps s = (faultless text steps s, ap (fault_or (fault 8 (last_word 0 (parts_at text 0)))) (spelled-whole text steps s))

pub exactly : (text : List ℕ) → IsFaultlessExactlyWhereSpelled text
exactly text = (
  λ h. (let e = no-fault (fault 8 (last_word 0 (parts_at text 0))) (steps_form (parts_at text 0)) h.1 in
      let ss = steps-are (parts_at text 0) e in
      (ss.0, spelled text ss.0 h.0 e ss.1)),
  λ s. no-fault-spelled text s.0 s.1,
)

pub read-back : PrintableStepsAreReadBack
read-back steps p =
    let s = printed-plan steps p in
    record { faultless = no-fault-spelled (plan_text steps) steps s; spelled = s; only = λ others o. one-plan (plan_text steps) others steps o s }
