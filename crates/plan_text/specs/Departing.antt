-- Which token of a plan's text is the first that departs from the form of a plan, step by step.
-- Source: this project's.
use Rattle.std.specs.Prelude.{ℕ, ◌≡◌, ◌≤◌, ◌<◌, true, List, Option, Some, None, Result, Ok, Err}
use Rattle.text_forms.specs.Faults.{Fault, fault}
use Rattle.text_forms.specs.Placed.{Placed, cut, close, word, list, parts_at, IsWhole}
use Rattle.text_forms.specs.StepWords.{is_mark}
use Rattle.text_forms.specs.Tokens.{token_count}
use Rattle.text_forms.specs.form_grammar.Codes.{Form, complete, wrong}
use Rattle.text_forms.specs.form_grammar.Plans.{step, args, step_rows, steps_form, steps_fault}
use Rattle.text_forms.specs.form_grammar.Rows.{form}
use Rattle.text_forms.specs.form_grammar.Texts.{fault_or, last_word}

-- the tokens are a whole text of the form, or the token at an offset departs
abbrev pub Tells : Form → Option ℕ → Type 0
Tells f None = f ≡ complete
Tells f (Some at) = f ≡ wrong 8 at

-- the arguments of a step, up to the end of its list
abbrev pub TellsArgs : Placed → Option ℕ → Type 0
TellsArgs p = Tells (form step_rows args p)

-- a step behind its parenthesis
abbrev pub TellsStep : Placed → Option ℕ → Type 0
TellsStep p = Tells (form step_rows step p)

-- a step comes next, perhaps behind a mark: what is inside its list and what is behind it
abbrev pub StepComes : (p inside behind : Placed) → Type 0
StepComes cut inside behind = ⊥
StepComes (close at) inside behind = ⊥
StepComes (list at q r) inside behind = (q ≡ inside) × (r ≡ behind)
StepComes (word at w cut) inside behind = ⊥
StepComes (word at w (close b)) inside behind = ⊥
StepComes (word at w (word b v q)) inside behind = ⊥
StepComes (word at w (list b q r)) inside behind = (is_mark w ≡ true) × (q ≡ inside) × (r ≡ behind)

-- the fault of a plan's rest, where the last word in front of it stands at a place
abbrev pub rest_fault : ℕ → Placed → Option Fault
rest_fault last p = fault_or (fault 8 (last_word last p)) (steps_form p)

-- the whole list of the next step, or the end of the text, or the fault of the rest
abbrev pub TellsNext : List ℕ → ℕ → Result (Option (ℕ × ℕ)) ℕ → Type 0
TellsNext text i (Ok None) = parts_at text i ≡ cut
TellsNext text i (Ok (Some x)) = StepComes (parts_at text i) (parts_at text x.0) (parts_at text x.1) × IsWhole (parts_at text x.0) × (i < x.1) × (x.1 ≤ token_count text)
TellsNext text i (Err at) = (last : ℕ) → rest_fault last (parts_at text i) ≡ Some (fault 8 at)

-- all steps
abbrev pub TellsPlan : List ℕ → Option ℕ → Type 0
TellsPlan text None = steps_form (parts_at text 0) ≡ complete
TellsPlan text (Some at) = steps_fault text ≡ Some (fault 8 at)
