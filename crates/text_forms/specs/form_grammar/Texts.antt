-- A whole text: the end of the tokens completes it, or comes too early.
use Rattle.std.specs.Prelude.{ℕ, Bool, true, false, if◌then◌else◌, Option, Some, None, List, length}
use Rattle.text_forms.specs.Faults.{Fault, fault}
use Rattle.text_forms.specs.Placed.{parts_at, Placed, cut, close, word, list}
use Rattle.text_forms.specs.Words.{Word}
use Rattle.text_forms.specs.form_grammar.Codes.{Form, complete, unfinished, wrong, ◌followed_by◌}
use Rattle.text_forms.specs.form_grammar.Rows.{Next, go, stop, Rows, form, front}

-- What the next token of a text may be outside all lists, where something is due. No list is open, so no parenthesis closes one.
-- A list is read by rows, and may leave something else due behind it.
pub record TextRow (X T : Type 0) : Type 0 where
  pub may_end : Bool
  pub at_word : Word → Next T
  pub at_list : Next (X × (Option Word → T))

abbrev pub TextRows : Type 0 → Type 0 → Type 0
TextRows X T = T → TextRow X T

abbrev pub text_form : {X T : Type 0} → Rows X → TextRows X T → T → Placed → Form
text_form rows texts due cut = if (texts due).may_end then complete else unfinished
text_form rows texts due (close at) = wrong 8 at
text_form rows texts due (word at w p) = elim ((texts due).at_word w) [
  | go next ↦ text_form rows texts next p
  | stop code ↦ wrong code at
]
text_form rows texts due (list at p q) = elim ((texts due).at_list) [
  | go i ↦ form rows i.0 p followed_by text_form rows texts (i.1 (front p)) q
  | stop code ↦ wrong code at
]

-- the fault of a text's form; f is its fault where the tokens end too early
abbrev pub fault_or : Fault → Form → Option Fault
fault_or f complete = None
fault_or f unfinished = Some f
fault_or f (wrong code at) = Some (fault code at)

-- one list and nothing behind it
pub data OneDue : Type 0 where
  the_list : OneDue
  the_end : OneDue

-- A token in the place of the list has the first code.
abbrev pub one_list : {X : Type 0} → ℕ → X → TextRows X OneDue
one_list code inside the_list = record { may_end = false; at_word = λ w. stop code; at_list = go (inside, λ w. the_end) }
one_list code inside the_end = record { may_end = true; at_word = λ w. stop 8; at_list = stop 8 }

-- a text that is one list of a part
abbrev pub one_list_form : {X : Type 0} → Rows X → X → Placed → Form
one_list_form rows inside p = text_form rows (one_list 8 inside) the_list p

abbrev pub define_form : {X : Type 0} → Rows X → X → Placed → Form
define_form rows inside p = text_form rows (one_list 5 inside) the_list p

-- A domain or a problem. Where tokens begin it, and all lists are closed, they end too early only where there is none.
abbrev pub define_fault : {X : Type 0} → Rows X → X → List ℕ → Option Fault
define_fault rows inside text = fault_or (fault 5 (length text)) (define_form rows inside (parts_at text 0))

-- the place of the last word outside all lists
abbrev pub last_word : ℕ → Placed → ℕ
last_word at cut = at
last_word at (close a) = at
last_word at (word a w p) = last_word a p
last_word at (list a p q) = last_word at q

-- lists one after another, each with at most one mark in front of it
pub data ListsDue : Type 0 where
  mark_or_list : ListsDue
  behind_mark : ListsDue

abbrev pub marked_lists : {X : Type 0} → (Word → Bool) → X → TextRows X ListsDue
marked_lists is_mark inside mark_or_list = record { may_end = true; at_word = λ w. if is_mark w then go behind_mark else stop 8; at_list = go (inside, λ w. mark_or_list) }
marked_lists is_mark inside behind_mark = record { may_end = false; at_word = λ w. stop 8; at_list = go (inside, λ w. mark_or_list) }

abbrev pub marked_form : {X : Type 0} → Rows X → X → (Word → Bool) → Placed → Form
marked_form rows inside is_mark p = text_form rows (marked_lists is_mark inside) mark_or_list p

-- A plan. The tokens end too early behind a mark alone, and then the mark has the fault.
abbrev pub plan_fault : {X : Type 0} → Rows X → X → (Word → Bool) → List ℕ → Option Fault
plan_fault rows inside is_mark text = fault_or (fault 8 (last_word 0 (parts_at text 0))) (marked_form rows inside is_mark (parts_at text 0))
