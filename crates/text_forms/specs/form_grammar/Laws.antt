-- Laws of forms over tokens.
use Rattle.std.specs.Prelude.{◌≡◌, ℕ, suc, ◌<◌, ◌≤◌, ◌⊎◌, ◌↔◌, Bool, true, Option, Some, None, List, [], ◌∷◌, ◌++◌, drop, length}
use Rattle.text_forms.specs.Faults.{Fault, fault}
use Rattle.text_forms.specs.Fronts.{before}
use Rattle.text_forms.specs.Placed.{Placed, level, parts_at}
use Rattle.text_forms.specs.Tokens.{Lexeme, spells, tokens, lexemes}
use Rattle.text_forms.specs.Words.{Word}
use Rattle.text_forms.specs.form_grammar.Codes.{Form, Whole, Begins, EndsEarly, Departs}
use Rattle.text_forms.specs.form_grammar.Rows.{Rows, form}
use Rattle.text_forms.specs.form_grammar.Texts.{define_form, define_fault, marked_form, plan_fault}

-- what the tokens from number i on, up to the place m, are to a form
abbrev pub up_to : (Placed → Form) → List ℕ → ℕ → ℕ → Form
up_to f text i m = f (level 0 (before m (drop i (lexemes text))))

-- where the tokens don't begin the form, one token departs, with one code
pub record HasOneDeparture (f : Form) : Type 0 where
  pub decides : Begins f ⊎ ((code : ℕ) × (at : ℕ) × Departs f code at)
  pub whole_begins : Whole f → Begins f
  pub excludes : (code at : ℕ) → Departs f code at → Begins f → ⊥
  pub one : (code at code' at' : ℕ) → Departs f code at → Departs f code' at' → (code ≡ code') × (at ≡ at')

-- A sequence of two forms is begun by what begins the first, and by a whole text of the first and what begins the second.
pub record IsSequence (a b both : Form) : Type 0 where
  pub whole : Whole both ↔ (Whole a × Whole b)
  pub begins : Begins both ↔ (Begins a × (Whole a → Begins b))
  pub departs : (code at : ℕ) → Departs both code at ↔ (Departs a code at ⊎ (Whole a × Departs b code at))

-- what is due in a grammar has the same form where it is due in a larger one
abbrev pub KeepsForms : {X Y : Type 0} → Rows X → Rows Y → (X → Y) → Type 0
KeepsForms {X} {Y} rows larger f = (due : X) (p : Placed) → form larger (f due) p ≡ form rows due p

-- of the tokens of a text, from number i on
pub record HasPrefixLaws (f : Placed → Form) (text : List ℕ) (i : ℕ) : Type 0 where
  -- what begins the form is closed under prefixes
  pub prefixes : (m n : ℕ) → m ≤ n → Begins (up_to f text i n) → Begins (up_to f text i m)
  pub of_all : (m : ℕ) → Begins (f (parts_at text i)) → Begins (up_to f text i m)
  -- the token that departs is the first with which the tokens no longer begin the form, and is so in all longer prefixes
  pub first : (code at : ℕ) → Departs (f (parts_at text i)) code at → Begins (up_to f text i at)
  pub later : (code at m : ℕ) → Departs (f (parts_at text i)) code at → at < m → Departs (up_to f text i m) code at
  -- and where one token more no longer begins it, that token departs
  pub only : (m : ℕ) → Begins (up_to f text i m) → (Begins (up_to f text i (suc m)) → ⊥) → (code : ℕ) × Departs (f (parts_at text i)) code m

-- from each number on
abbrev pub HasAllPrefixLaws : (Placed → Form) → List ℕ → Type 0
HasAllPrefixLaws f text = (i : ℕ) → HasPrefixLaws f text i

-- tokens begin a form exactly where more tokens behind them make a whole text of it
abbrev pub BeginsWhatCanBeWhole : (Placed → Form) → Type 0
BeginsWhatCanBeWhole f = (ts : List Lexeme) → Begins (f (level 0 ts)) ↔ ((us : List Lexeme) × Whole (f (level 0 (ts ++ us))))

-- The one fault of form of a text, where its tokens have no fault: none of what is whole, and else the token that departs, with its code.
pub record TellsFault (f : Placed → Form) (text : List ℕ) (told : Option Fault) : Type 0 where
  pub none : (told ≡ None) ↔ Whole (f (parts_at text 0))
  pub departs : (code at : ℕ) → Departs (f (parts_at text 0)) code at → told ≡ Some (fault code at)

-- A domain or a problem ends too early where it has no token, and only there: fault 5 at its length.
pub record TellsDefineFault {X : Type 0} (rows : Rows X) (inside : X) (text : List ℕ) : Type 0 where
  pub of_form : TellsFault (define_form rows inside) text (define_fault rows inside text)
  pub no_tokens : tokens text ≡ [] → define_fault rows inside text ≡ Some (fault 5 (length text))
  pub early : EndsEarly (define_form rows inside (parts_at text 0)) → tokens text ≡ []

-- the last token is a mark, at this place
abbrev pub EndsInMark : (Word → Bool) → List ℕ → ℕ → Type 0
EndsInMark is_mark text at = (ts : List Lexeme) × (w : Word) × (lexemes text ≡ ts ++ spells at w ∷ []) × (is_mark w ≡ true)

-- A plan whose tokens begin one ends too early where the last token is a mark, and only there: fault 8 at this mark.
pub record TellsPlanFault {X : Type 0} (rows : Rows X) (inside : X) (is_mark : Word → Bool) (text : List ℕ) : Type 0 where
  pub of_form : TellsFault (marked_form rows inside is_mark) text (plan_fault rows inside is_mark text)
  pub trailing_mark : (at : ℕ) → EndsInMark is_mark text at → Begins (marked_form rows inside is_mark (parts_at text 0)) → plan_fault rows inside is_mark text ≡ Some (fault 8 at)
  pub early : EndsEarly (marked_form rows inside is_mark (parts_at text 0)) → (at : ℕ) × EndsInMark is_mark text at

-- whichever words are marks
abbrev pub TellsPlanFaults : {X : Type 0} → Rows X → X → List ℕ → Type 0
TellsPlanFaults rows inside text = (is_mark : Word → Bool) → TellsPlanFault rows inside is_mark text
