-- What holds of all that is read of a text.
use Rattle.std.specs.Prelude.{◌≡◌, ℕ, List, Result, Ok}
use Rattle.text_forms.specs.Placed.{Placed, parts_at}
use Rattle.gd_reader.specs.declared.stop.Stop.{Stop}
use Rattle.gd_reader.specs.Terms.{Names, Keeps}

-- a fact of each value that is read of a text from some token on, in each table that keeps the words of the one that reading left
abbrev pub OfEachText : {X : Type 0} → (Names → Placed → Result (X × Names) Stop) → (List ℕ → Names → X → Type 0) → Type 0
OfEachText read Fact = (text : List ℕ) (i : ℕ) (names left later : Names) (x : _) → read names (parts_at text i) ≡ Ok (x, left) → Keeps left later → Fact text later x

-- a fact of each value that a whole text is read as
abbrev pub OfEachWhole : {X : Type 0} → (Names → List ℕ → X × Names → Type 0) → (List ℕ → Names → X → Type 0) → Type 0
OfEachWhole IsRead Fact = (text : List ℕ) (names later : Names) (x : _) → IsRead names text x → Keeps x.1 later → Fact text later x.0

-- the words of a table keep their places where a whole text is read
abbrev pub KeepsWords : {X : Type 0} → (Names → List ℕ → X × Names → Type 0) → Type 0
KeepsWords IsRead = (text : List ℕ) (names : Names) (x : _) → IsRead names text x → Keeps names x.1
