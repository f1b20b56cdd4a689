-- The forms of a plan, token by token.
use Rattle.std.proofs.Common.{◌≡◌, ℕ, Bool, true, false, if◌then◌else◌, None, refl, ap}
use Rattle.text_forms.specs.Faults.{Fault}
use Rattle.text_forms.specs.Placed.{Placed, word}
use Rattle.text_forms.specs.StepWords.{is_step_name, is_mark}
use Rattle.text_forms.specs.Words.{Word}
use Rattle.text_forms.specs.form_grammar.Codes.{Form, complete, unfinished, wrong, ◌followed_by◌}
use Rattle.text_forms.specs.form_grammar.Plans.{step, args, step_rows, steps_form}
use Rattle.text_forms.specs.form_grammar.Rows.{go, stop, if_allowed, form}
use Rattle.text_forms.specs.form_grammar.Texts.{text_form, marked_lists, behind_mark, fault_or}

-- a word where a name is due
abbrev at_name : ℕ → Placed → Bool → Form
at_name at p test = elim (if_allowed test 8 args) [ go next ↦ form step_rows next p | stop code ↦ wrong code at ]

pub head-name : (at : ℕ) (w : Word) (p : Placed) → is_step_name w ≡ true → form step_rows step (word at w p) ≡ form step_rows args p
head-name at w p e = ap (at_name at p) e

pub head-wrong : (at : ℕ) (w : Word) (p : Placed) → is_step_name w ≡ false → form step_rows step (word at w p) ≡ wrong 8 at
head-wrong at w p e = ap (at_name at p) e

pub arg-name : (at : ℕ) (w : Word) (p : Placed) → is_step_name w ≡ true → form step_rows args (word at w p) ≡ form step_rows args p
arg-name at w p e = ap (at_name at p) e

pub arg-wrong : (at : ℕ) (w : Word) (p : Placed) → is_step_name w ≡ false → form step_rows args (word at w p) ≡ wrong 8 at
arg-wrong at w p e = ap (at_name at p) e

-- a whole list whose first word is a name
name-whole : (at : ℕ) (p : Placed) (test : Bool) → at_name at p test ≡ complete → (test ≡ true) × (form step_rows args p ≡ complete)
name-whole at p true e = (refl, e)
name-whole at p false e = absurd (cc)

pub head-whole : (at : ℕ) (w : Word) (p : Placed) → form step_rows step (word at w p) ≡ complete → (is_step_name w ≡ true) × (form step_rows args p ≡ complete)
head-whole at w p e = name-whole at p (is_step_name w) e

pub arg-whole : (at : ℕ) (w : Word) (p : Placed) → form step_rows args (word at w p) ≡ complete → (is_step_name w ≡ true) × (form step_rows args p ≡ complete)
arg-whole at w p e = name-whole at p (is_step_name w) e

-- behind a mark
abbrev pub marked_form : Placed → Form
marked_form p = text_form step_rows (marked_lists is_mark step) behind_mark p

abbrev at_mark : ℕ → Placed → Bool → Form
at_mark at p test = elim (if test then go behind_mark else stop 8) [ go next ↦ text_form step_rows (marked_lists is_mark step) next p | stop code ↦ wrong code at ]

pub mark-form : (at : ℕ) (w : Word) (p : Placed) → is_mark w ≡ true → steps_form (word at w p) ≡ marked_form p
mark-form at w p e = ap (at_mark at p) e

pub mark-wrong : (at : ℕ) (w : Word) (p : Placed) → is_mark w ≡ false → steps_form (word at w p) ≡ wrong 8 at
mark-wrong at w p e = ap (at_mark at p) e

mark-whole-by : (at : ℕ) (p : Placed) (test : Bool) → at_mark at p test ≡ complete → (test ≡ true) × (marked_form p ≡ complete)
mark-whole-by at p true e = (refl, e)
mark-whole-by at p false e = absurd (cc)

pub mark-whole : (at : ℕ) (w : Word) (p : Placed) → steps_form (word at w p) ≡ complete → (is_mark w ≡ true) × (marked_form p ≡ complete)
mark-whole at w p e = mark-whole-by at p (is_mark w) e

-- a list and the rest
pub first-whole : (f g : Form) → f followed_by g ≡ complete → f ≡ complete
first-whole complete g e = refl
first-whole unfinished g e = cc
first-whole (wrong code at) g e = cc

pub then-whole : (f g : Form) → f followed_by g ≡ complete → g ≡ complete
then-whole complete g e = e
then-whole unfinished g e = cc
then-whole (wrong code at) g e = cc

pub behind-whole : (f g : Form) → f ≡ complete → f followed_by g ≡ g
behind-whole f g e = ap (λ f. f followed_by g) e

pub no-fault : (e : Fault) (f : Form) → fault_or e f ≡ None → f ≡ complete
no-fault e complete h = refl
no-fault e unfinished h = cc
no-fault e (wrong code at) h = cc
