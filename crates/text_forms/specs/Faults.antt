-- The faults of tokens: a bad byte (1), a list without an end (2), a stray closing parenthesis (3), a list too deep (4).
-- Source: this project's.
use Rattle.std.specs.Prelude.{◌≡◌, ℕ, ◌+◌, ◌<◌, ◌≤◌, ◌⊎◌, nat_le, if◌then◌else◌, Option, Some, None, List, [], ◌∷◌, length}
use Rattle.htn_base.specs.Limits.{deepest}
use Rattle.text_forms.specs.Bytes.{Class, blank, opening, closing, letter, bad, classes}

-- a code, and a place counted in bytes from 0
pub record Fault : Type 0 where
  pub code : ℕ
  pub at : ℕ

abbrev pub fault : ℕ → ℕ → Fault
fault code at = record { code = code; at = at }

abbrev pub innermost : List ℕ → Option ℕ
innermost [] = None
innermost (p ∷ ps) = Some p

abbrev pub but_innermost : List ℕ → List ℕ
but_innermost [] = []
but_innermost (p ∷ ps) = ps

-- the places of the lists that are open behind a byte, innermost first; a stray closing parenthesis is passed over
abbrev pub open_after : List ℕ → ℕ → Class → List ℕ
open_after ps at opening = at ∷ ps
open_after ps at closing = but_innermost ps
open_after ps at blank = ps
open_after ps at letter = ps
open_after ps at bad = ps

abbrev pub stray : List ℕ → Option ℕ
stray [] = Some 3
stray (p ∷ ps) = None

-- the code of the fault that a byte is, where these lists are open in front of it
abbrev pub code_at : List ℕ → Class → Option ℕ
code_at ps bad = Some 1
code_at ps closing = stray ps
code_at ps opening = if nat_le deepest (length ps) then Some 4 else None
code_at ps blank = None
code_at ps letter = None

-- from a place on, where these lists are open, the text has the fault
abbrev pub HasFault : List ℕ → ℕ → List Class → Fault → Type 0
HasFault ps at [] f = (p : ℕ) × (innermost ps ≡ Some p) × (f ≡ fault 2 p)
HasFault ps at (c ∷ cs) f = ((code : ℕ) × (code_at ps c ≡ Some code) × (f ≡ fault code at)) ⊎ HasFault (open_after ps at c) (at + 1) cs f

abbrev pub IsFault : List ℕ → Fault → Type 0
IsFault text f = HasFault [] 0 (classes text) f

-- by place, then code
abbrev pub IsBefore : Fault → Fault → Type 0
IsBefore f g = (f.at < g.at) ⊎ ((f.at ≡ g.at) × (f.code ≤ g.code))

pub record IsLeast (text : List ℕ) (f : Fault) : Type 0 where
  pub is : IsFault text f
  pub least : (g : Fault) → IsFault text g → IsBefore f g

abbrev pub IsFaultless : List ℕ → Type 0
IsFaultless text = (f : Fault) → IsFault text f → ⊥
