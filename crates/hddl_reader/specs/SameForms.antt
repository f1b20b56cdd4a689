-- The grammar of the reader's contracts, which has no codes, beside the grammar with codes.
use Rattle.std.specs.Prelude.{◌↔◌}
use Rattle.text_forms.specs.Placed.{Placed}
use Rattle.text_forms.specs.form_grammar.Codes.{Form, Whole, Begins}
use Rattle.gd_reader.specs.Forms as plain

-- the same is whole, and the same begins
pub record IsSameForm (a : plain.Form) (b : Form) : Type 0 where
  pub whole : a.Whole ↔ Whole b
  pub begins : a.Begins ↔ Begins b

-- at all tokens
abbrev pub AreSameForms : (Placed → plain.Form) → (Placed → Form) → Type 0
AreSameForms f g = (p : Placed) → IsSameForm (f p) (g p)
