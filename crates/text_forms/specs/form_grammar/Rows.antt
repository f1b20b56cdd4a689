-- A grammar, line by line: for each thing that may be due, which token may come next and what is due behind it.
-- Such a grammar has its laws from proofs/form_grammar/RowLaws: one departing token with one code, and prefixes of what begins a form begin it.
use Rattle.std.specs.Prelude.{ℕ, Bool, true, false, Option, Some, None}
use Rattle.text_forms.specs.Placed.{Placed, cut, close, word, list}
use Rattle.text_forms.specs.Words.{Word}
use Rattle.text_forms.specs.form_grammar.Codes.{Form, complete, unfinished, wrong, ◌followed_by◌}

-- a token may come and X is due behind it, or it departs with a code
pub data Next (X : Type 0) : Type 0 where
  go : X → Next X
  stop : (code : ℕ) → Next X

-- a word that is allowed or has a code
abbrev pub if_allowed : {X : Type 0} → Bool → ℕ → X → Next X
if_allowed true code x = go x
if_allowed false code x = stop code

-- the word at the front of a list
abbrev pub front : Placed → Option Word
front cut = None
front (close at) = None
front (word at w p) = Some w
front (list at p q) = None

-- What is due inside a list, and behind it; the word at its front may change the latter.
pub record Inner (X : Type 0) : Type 0 where
  pub inside : X
  pub behind : Option Word → X

-- what the next token may be where something is due
pub record Row (X : Type 0) : Type 0 where
  pub at_close : Next (Unit {0})
  pub at_word : Word → Next X
  pub at_list : Next (Inner X)

abbrev pub Rows : Type 0 → Type 0
Rows X = X → Row X

abbrev pub closed : Next (Unit {0}) → ℕ → Form
closed (go x) at = complete
closed (stop code) at = wrong code at

-- what the rest of a list is, where something is due
abbrev pub form : {X : Type 0} → Rows X → X → Placed → Form
form rows due cut = unfinished
form rows due (close at) = closed (rows due).at_close at
form rows due (word at w p) = elim ((rows due).at_word w) [
  | go next ↦ form rows next p
  | stop code ↦ wrong code at
]
form rows due (list at p q) = elim ((rows due).at_list) [
  | go i ↦ form rows i.inside p followed_by form rows (i.behind (front p)) q
  | stop code ↦ wrong code at
]

abbrev pub row : {X : Type 0} → Next (Unit {0}) → (Word → Next X) → Next (Inner X) → Row X
row at_close at_word at_list = record { at_close = at_close; at_word = at_word; at_list = at_list }

-- a list may come, with something due inside it and behind it
abbrev pub a_list : {X : Type 0} → X → X → Next (Inner X)
a_list inside behind = go (record { inside = inside; behind = λ w. behind })

-- the end of the list is due; another token has the code
abbrev pub end_due : {X : Type 0} → ℕ → Row X
end_due code = row (go tt) (λ w. stop code) (stop code)

abbrev pub word_due : {X : Type 0} → ℕ → (Word → Next X) → Row X
word_due code at_word = row (stop code) at_word (stop code)

abbrev pub word_or_end : {X : Type 0} → ℕ → (Word → Next X) → Row X
word_or_end code at_word = row (go tt) at_word (stop code)

-- a list is due, and something behind it
abbrev pub list_due : {X : Type 0} → ℕ → X → X → Row X
list_due code inside behind = row (stop code) (λ w. stop code) (a_list inside behind)

abbrev pub list_or_end : {X : Type 0} → ℕ → X → X → Row X
list_or_end code inside behind = row (go tt) (λ w. stop code) (a_list inside behind)

-- One list at a token, whatever is behind it: what is due inside. Another token has the code.
abbrev pub list_form : {X : Type 0} → Rows X → ℕ → X → Placed → Form
list_form rows code inside cut = unfinished
list_form rows code inside (close at) = wrong code at
list_form rows code inside (word at w p) = wrong code at
list_form rows code inside (list at p q) = form rows inside p

-- A grammar that is part of a larger one: what is due in it is due in the larger one as f says.
abbrev pub next_as : {X Y : Type 0} → (X → Y) → Next X → Next Y
next_as f (go x) = go (f x)
next_as f (stop code) = stop code

abbrev pub inner_as : {X Y : Type 0} → (X → Y) → Next (Inner X) → Next (Inner Y)
inner_as f (go i) = go (record { inside = f i.inside; behind = λ w. f (i.behind w) })
inner_as f (stop code) = stop code

abbrev pub row_as : {X Y : Type 0} → (X → Y) → Row X → Row Y
row_as f r = row r.at_close (λ w. next_as f (r.at_word w)) (inner_as f r.at_list)
