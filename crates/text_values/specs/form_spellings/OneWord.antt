-- At one offset of a text stands one word, so what is read there is one name.
-- Source: this project's; offsets are in bytes from 0.
use Rattle.std.specs.Prelude.{ℕ, ◌≡◌, Bool, List}
use Rattle.htn_base.specs.declared.name.Name.{Name as Numbered}
use Rattle.htn_base.specs.Different.{AreDifferent}
use Rattle.text_forms.specs.Words.{Word}
use Rattle.gd_reader.specs.Terms.{Names}
use Rattle.text_values.specs.form_spellings.Places.{IsWordAt, IsNameAt}

abbrev pub OneWordAPlace : Type 0
OneWordAPlace = (text : List ℕ) (at : ℕ) (v w : Word) → IsWordAt text at v → IsWordAt text at w → v ≡ w

-- in a table in which no word stands twice
abbrev pub OneNameAPlace : Type 0
OneNameAPlace = (text : List ℕ) (table : Names) → AreDifferent table → (variable : Bool) (at : ℕ) (m n : Numbered) → IsNameAt text table variable at m → IsNameAt text table variable at n → m.number ≡ n.number
