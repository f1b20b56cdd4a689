-- What is known of the parts from which something is read, and what holds then of each name that is read.
use Rattle.std.proofs.Common.{◌≡◌, ◌∙◌, ℕ, Bool, true, drop, ◌∷◌, sym, ap}
use Rattle.htn_base.specs.declared.name.Name.{Name as Numbered}
use Rattle.htn_base.specs.Table.{with_word}
use Rattle.text_forms.specs.Placed.{Placed, cut, close, word, list}
use Rattle.text_forms.specs.Words.{Word}
use Rattle.gd_reader.specs.declared.words.Sort.TheVariants.{Variable}
use Rattle.gd_reader.specs.Terms.{Names, Keeps, name_in}
use Rattle.gd_reader.specs.Words.{sort_of}
use Rattle.text_values.specs.form_spellings.Places.{as_written}
use Rattle.text_values.proofs.form_spellings.WordTests.{variable_of_sort}

pub record Facts : Type 1 where
  -- a word at an offset
  pub Seen : ℕ → Word → Type 0
  -- an opening parenthesis at an offset, and behind it a word at another
  pub Opens : ℕ → ℕ → Word → Type 0
  -- what holds of a name in a table, where it is a variable's or not, at an offset
  pub Is : Names → Bool → ℕ → Numbered → Type 0
  pub holds : (names table : Names) (variable : Bool) (at : ℕ) (w : Word) → Keeps (with_word names w) table → Seen at (as_written variable w) → Is table variable at (name_in names w)

module _ (F : Facts) where
  -- a parenthesis and what comes behind it, where that is a word
  abbrev pub Fronted : ℕ → Placed → Type 0
  Fronted place cut = Unit {0}
  Fronted place (close at) = Unit {0}
  Fronted place (word at w p) = F.Opens place at w
  Fronted place (list at p q) = Unit {0}

  abbrev pub AllSeen : Placed → Type 0
  AllSeen cut = Unit {0}
  AllSeen (close at) = Unit {0}
  AllSeen (word at w p) = F.Seen at w × AllSeen p
  AllSeen (list at p q) = Fronted at p × AllSeen p × AllSeen q

-- a variable's word without its question mark, and written with it
pub written_variable : (w : Word) → sort_of w ≡ Variable → w ≡ as_written true (drop 1 w)
written_variable w e = let m = variable_of_sort w e in m.2 ∙ sym (ap (λ w. 63 ∷ drop 1 w) m.2)
