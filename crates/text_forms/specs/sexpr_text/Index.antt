-- What is kept of each token of a text in its index: where it begins, and where a word or a list ends.
use Rattle.std.specs.Prelude.{◌≡◌, ℕ, zero, suc, ◌+◌, ◌<◌, ◌≤◌, ◌⊎◌, Option, Some, None, List, [], ◌∷◌, drop, length, slice_get}
use Rattle.htn_base.specs.Limits.{longest_input}
use Rattle.text_forms.specs.Bytes.{Class, blank, opening, closing, letter, bad}
use Rattle.text_forms.specs.Closing.{close_at, close_after}
use Rattle.text_forms.specs.Faults.{IsFaultless}
use Rattle.text_forms.specs.Tokens.{start, stop, word, Token, token, tokens, token_count}
use Rattle.text_forms.specs.declared.sexpr_text.index.Entry.{Entry}
use Rattle.text_forms.specs.declared.sexpr_text.index.Index.{Index}
use Rattle.text_forms.specs.declared.sexpr_text.sexprs.Kept.{Kept}
use Rattle.text_forms.specs.declared.sexpr_text.sexprs.Kept.TheVariants as kept
use Rattle.text_forms.specs.sexpr_text.Kept.{IsReadFrom}
use Rattle.text_forms.specs.sexpr_text.Places.{classes_at, tokens_at, IsAsDeep}

-- an entry is that of token i: a word ends with its last byte, and a list with the token that closes it
pub record IsEntry (text : List ℕ) (i : ℕ) (e : Entry) : Type 0 where
  pub token : Token
  pub stands : slice_get (tokens text) i ≡ Some token
  pub begins : e.at ≡ token.first
  pub here : drop i (tokens text) ≡ tokens_at text e.at
  pub word_ends : token.kind ≡ word → e.end ≡ token.behind
  pub list_ends : (j : ℕ) → close_at text i ≡ Some j → e.end ≡ j

-- each token has its entry
pub record IsIndexOf (text : List ℕ) (index : Index) : Type 0 where
  pub count : length index.entries.items ≡ token_count text
  pub each : (i : ℕ) (e : Entry) → slice_get index.entries.items i ≡ Some e → IsEntry text i e

-- the marks of its tokens, or their index
abbrev pub KeepsTokens : List ℕ → Kept → Type 0
KeepsTokens text (kept.Marks marks) = IsReadFrom text marks
KeepsTokens text (kept.Index index) = IsIndexOf text index

-- what is kept of a text that was read, which has no fault
pub record IsKeptOf (text : List ℕ) (kept : Kept) : Type 0 where
  pub short : length text ≤ longest_input
  pub faultless : IsFaultless text
  pub tokens : KeepsTokens text kept

-- the token that an entry keeps: its first byte tells its kind
abbrev pub cut : Class → Entry → Token
cut opening e = token start e.at (e.at + 1)
cut closing e = token stop e.at (e.at + 1)
cut letter e = token word e.at e.end
cut blank e = token word e.at e.end
cut bad e = token word e.at e.end

-- the list that begins with token j ends with token i
abbrev pub ended : ℕ → ℕ → List Entry → List Entry
ended j i [] = []
ended zero i (e ∷ es) = record { at = e.at; end = i } ∷ es
ended (suc j) i (e ∷ es) = e ∷ ended j i es

abbrev pub closed : Option ℕ → ℕ → List Entry → List Entry
closed None i es = es
closed (Some j) i es = ended j i es

-- these are numbers of earlier tokens
abbrev pub AreBelow : ℕ → List ℕ → Type 0
AreBelow n [] = Unit {0}
AreBelow n (j ∷ js) = (j < n) × AreBelow n js

-- Lists that begin with these tokens, innermost first, are open in front of token i, and d more in them: what closes them stands among
-- the tokens from there on.
abbrev pub AreOpen : List ℕ → ℕ → ℕ → List Token → List ℕ → Type 0
AreOpen text d i ts [] = Unit {0}
AreOpen text d i ts (j ∷ js) = (close_at text j ≡ close_after d i ts) × AreOpen text (suc d) i ts js

-- a number is one of these
abbrev pub IsOneOf : ℕ → List ℕ → Type 0
IsOneOf i [] = ⊥
IsOneOf i (j ∷ js) = (i ≡ j) ⊎ IsOneOf i js

-- the same as an entry, but that a list's end may not be known while it is open
pub record IsEarlyEntry (text : List ℕ) (opens : List ℕ) (i : ℕ) (e : Entry) : Type 0 where
  pub token : Token
  pub stands : slice_get (tokens text) i ≡ Some token
  pub begins : e.at ≡ token.first
  pub here : drop i (tokens text) ≡ tokens_at text e.at
  pub word_ends : token.kind ≡ word → e.end ≡ token.behind
  pub list_ends : ((j : ℕ) → close_at text i ≡ Some j → e.end ≡ j) ⊎ IsOneOf i opens

-- A text is indexed up to a place, in front of which so many tokens begin and these lists are open.
pub record IsIndexedTo (text : List ℕ) (at : ℕ) (es : List Entry) (opens : List ℕ) : Type 0 where
  pub number : length es ≤ token_count text
  pub here : drop (length es) (tokens text) ≡ tokens_at text at
  pub each : (i : ℕ) (e : Entry) → slice_get es i ≡ Some e → IsEarlyEntry text opens i e
  pub below : AreBelow (length es) opens
  pub still_open : AreOpen text 0 (length es) (tokens_at text at) opens

-- The same, where the text has no fault in front of the place.
pub record IsEnteredTo (text : List ℕ) (es : List Entry) (opens : List ℕ) (at : ℕ) : Type 0 where
  pub within : at ≤ length text
  pub indexed : IsIndexedTo text at es opens
  pub deep : IsAsDeep text (length opens) at (classes_at text at)
