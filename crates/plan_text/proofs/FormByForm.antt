-- Arguments and steps, passed over one after another.
use Rattle.std.proofs.Common.{◌≡◌, ◌∙◌, ℕ, true, false, Some, refl, sym, ap, subst}
use Rattle.text_forms.specs.Faults.{fault}
use Rattle.text_forms.specs.Placed.{Placed, cut, close, word, list}
use Rattle.text_forms.specs.StepWords.{is_step_name}
use Rattle.text_forms.specs.Words.{Word}
use Rattle.text_forms.specs.form_grammar.Codes.{complete, wrong, ◌followed_by◌}
use Rattle.text_forms.specs.form_grammar.Plans.{step, args, step_rows, steps_form}
use Rattle.text_forms.specs.form_grammar.Rows.{form}
use Rattle.text_forms.specs.form_grammar.Texts.{fault_or, last_word}
use Rattle.plan_text.specs.Departing.{StepComes, rest_fault}
use Rattle.plan_text.proofs.Forms.{head-name, head-wrong, arg-name, arg-wrong, mark-form, no-fault}

-- Names were passed over up to p.
pub record ArgsAreNames (whole p : Placed) : Type 0 where
  pub same : form step_rows args whole ≡ form step_rows args p

pub args-begin : (p : Placed) → ArgsAreNames p p
args-begin p = record { same = refl }

pub args-next : (whole p q : Placed) (at : ℕ) (w : Word) → ArgsAreNames whole p → p ≡ word at w q → is_step_name w ≡ true → ArgsAreNames whole q
args-next whole p q at w r e t = record { same = r.same ∙ ap (form step_rows args) e ∙ arg-name at w q t }

pub args-end : (whole p : Placed) (at : ℕ) → ArgsAreNames whole p → p ≡ close at → form step_rows args whole ≡ complete
args-end whole p at r e = r.same ∙ ap (form step_rows args) e

pub args-wrong : (whole p q : Placed) (at : ℕ) (w : Word) → ArgsAreNames whole p → p ≡ word at w q → is_step_name w ≡ false → form step_rows args whole ≡ wrong 8 at
args-wrong whole p q at w r e t = r.same ∙ ap (form step_rows args) e ∙ arg-wrong at w q t

pub args-list : (whole p q t : Placed) (at : ℕ) → ArgsAreNames whole p → p ≡ list at q t → form step_rows args whole ≡ wrong 8 at
args-list whole p q t at r e = r.same ∙ ap (form step_rows args) e

-- a step behind its name
pub step-is : (p q : Placed) (at : ℕ) (w : Word) → p ≡ word at w q → is_step_name w ≡ true → form step_rows step p ≡ form step_rows args q
step-is p q at w e t = ap (form step_rows step) e ∙ head-name at w q t

pub step-wrong : (p q : Placed) (at : ℕ) (w : Word) → p ≡ word at w q → is_step_name w ≡ false → form step_rows step p ≡ wrong 8 at
step-wrong p q at w e t = ap (form step_rows step) e ∙ head-wrong at w q t

-- a step that comes next, in the rest of a plan
comes-fault : (p q r : Placed) → StepComes p q r → (last : ℕ) → (later : ℕ) × (rest_fault last p ≡ fault_or (fault 8 (last_word later r)) (form step_rows step q followed_by steps_form r))
comes-fault cut q r c last = absurd c
comes-fault (close at) q r c last = absurd c
comes-fault (list at x y) q r c last = (last, λ i. fault_or (fault 8 (last_word last (c.1 i))) (form step_rows step (c.0 i) followed_by steps_form (c.1 i)))
comes-fault (word at w cut) q r c last = absurd c
comes-fault (word at w (close b)) q r c last = absurd c
comes-fault (word at w (word b v x)) q r c last = absurd c
comes-fault (word at w (list b x y)) q r c last = (
  at,
  ap (fault_or (fault 8 (last_word at y))) (mark-form at w (list b x y) c.0) ∙ (λ i. fault_or (fault 8 (last_word at (c.2 i))) (form step_rows step (c.1 i) followed_by steps_form (c.2 i))),
)

-- Steps were passed over up to p.
pub record AreSteps (whole p : Placed) : Type 0 where
  pub last : ℕ
  pub same : rest_fault 0 whole ≡ rest_fault last p

pub steps-begin : (p : Placed) → AreSteps p p
steps-begin p = record { last = 0; same = refl }

pub steps-next : (whole p q r : Placed) → AreSteps whole p → StepComes p q r → form step_rows step q ≡ complete → AreSteps whole r
steps-next whole p q r h c i =
    let f = comes-fault p q r c h.last in
    record { last = f.0; same = h.same ∙ f.1 ∙ ap (λ g. fault_or (fault 8 (last_word f.0 r)) (g followed_by steps_form r)) i }

pub steps-end : (whole p : Placed) → AreSteps whole p → p ≡ cut → steps_form whole ≡ complete
steps-end whole p h e = no-fault (fault 8 (last_word 0 whole)) (steps_form whole) (h.same ∙ ap (rest_fault h.last) e)

pub steps-stop : (whole p : Placed) (at : ℕ) → AreSteps whole p → ((last : ℕ) → rest_fault last p ≡ Some (fault 8 at)) → rest_fault 0 whole ≡ Some (fault 8 at)
steps-stop whole p at h f = h.same ∙ f h.last

pub steps-wrong : (whole p q r : Placed) (at : ℕ) → AreSteps whole p → StepComes p q r → form step_rows step q ≡ wrong 8 at → rest_fault 0 whole ≡ Some (fault 8 at)
steps-wrong whole p q r at h c e =
    let f = comes-fault p q r c h.last in
    h.same ∙ f.1 ∙ ap (λ g. fault_or (fault 8 (last_word f.0 r)) (g followed_by steps_form r)) e

-- what comes next
pub comes-list : (p q r : Placed) (at : ℕ) → p ≡ list at q r → StepComes p q r
comes-list p q r at e = subst (λ p. StepComes p q r) (sym e) (refl, refl)
