-- The line of a refusal in three parts.
-- Source: this project's.
use Rattle.std.specs.Prelude.{ℕ, List, ◌++◌, decimal}
use Rattle.htn_cli.specs.declared.refusal.Line.{Line}
use Rattle.htn_cli.specs.declared.refusal.Middle.{Middle}
use Rattle.htn_cli.specs.declared.refusal.Middle.TheVariants.{Words, Number, Place, Fault}
use Rattle.htn_cli.specs.Faults.{place_text, fault_text}

abbrev pub middle_text : Middle → List ℕ
middle_text (Words words) = words.now
middle_text (Number number) = decimal number
middle_text (Place place) = place_text place
middle_text (Fault place code) = fault_text place code

abbrev pub line_text : Line → List ℕ
line_text line = line.before.now ++ middle_text line.middle ++ line.after.now
