-- Why a text isn't read.
use Rattle.std.specs.Prelude.{◌≡◌, ℕ, List}
use Rattle.text_forms.specs.Faults.{fault, IsLeast}
use Rattle.text_forms.specs.declared.sexpr_text.read_error.ReadError.{ReadError}
use Rattle.text_forms.specs.declared.sexpr_text.read_error.ReadError.TheVariants as errors

-- want of memory, or the least fault of the text, with its file
abbrev pub IsRefusal : List ℕ → ℕ → ReadError → Type 0
IsRefusal text file errors.Memory = Unit {0}
IsRefusal text file (errors.Bad f) = (f.file ≡ file) × IsLeast text (fault f.code f.at)
