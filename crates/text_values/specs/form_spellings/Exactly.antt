-- A form and what it is to spell.
use Rattle.std.specs.Prelude.{◌↔◌}
use Rattle.text_forms.specs.Placed.{Placed}
use Rattle.text_forms.specs.form_grammar.Codes as coded
use Rattle.text_forms.specs.form_grammar.Sections.{Language, Definition}
use Rattle.gd_reader.specs.Forms.{Form}

-- the form is whole exactly where the tokens spell something
abbrev pub IsWholeExactlyWhere : (Placed → Form) → (Placed → Type 0) → Type 0
IsWholeExactlyWhere f Spells = (p : Placed) → (f p).Whole ↔ Spells p

-- the same of a form in the grammar with codes
abbrev pub IsCodedExactlyWhere : (Placed → coded.Form) → (Placed → Type 0) → Type 0
IsCodedExactlyWhere f Spells = (p : Placed) → coded.Whole (f p) ↔ Spells p

-- of both definitions in each language
abbrev pub AreCodedExactlyWhere : (Language → Definition → Placed → coded.Form) → (Language → Definition → Placed → Type 0) → Type 0
AreCodedExactlyWhere f Spells = (l : Language) (d : Definition) → IsCodedExactlyWhere (f l d) (Spells l d)
