-- What holds of all that is read.
use Rattle.std.specs.Prelude.{◌≡◌, ℕ, Result, Ok}
use Rattle.text_forms.specs.Placed.{Placed}
use Rattle.gd_reader.specs.declared.stop.Stop.{Stop}
use Rattle.gd_reader.specs.Terms.{Names, Keeps}

-- a fact of each value that is read, with the parts from which it was read, in each table that keeps the words of the one that reading left
abbrev pub OfAllRead : {X : Type 0} → (Names → Placed → Result (X × Names) Stop) → (Names → X → Placed → Type 0) → Type 0
OfAllRead read Fact = (names left later : Names) (p : Placed) (x : _) → read names p ≡ Ok (x, left) → Keeps left later → Fact later x p

-- the same of what is read behind the parenthesis that opens a list, wherever it is
abbrev pub OfAllOpened : {X : Type 0} → (Names → ℕ → Placed → Result (X × Names) Stop) → (Names → X → Placed → Type 0) → Type 0
OfAllOpened read Fact = (place : ℕ) → OfAllRead (λ names p. read names place p) Fact

-- a fact that needs no parts
abbrev pub OfEachRead : {X : Type 0} → (Names → Placed → Result (X × Names) Stop) → (Names → X → Type 0) → Type 0
OfEachRead read Fact = OfAllRead read (λ later x p. Fact later x)
