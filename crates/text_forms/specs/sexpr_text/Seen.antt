-- What the values of this crate are among the defined ones: a class, a kind, a token, and a fault of a file.
use Rattle.std.specs.Prelude.{◌≡◌, ◌↔◌, ℕ, Bool, List, Option, IsTrue, IsSome, length, reverse, slice_range}
use Rattle.std.specs.Option.{option_map}
use Rattle.std.specs.declared.vec.Vec.{Vec}
use Rattle.htn_base.specs.declared.fault.Fault.{Fault}
use Rattle.htn_base.specs.declared.fault.Span.{Span}
use Rattle.text_forms.specs.Bytes as defined_bytes
use Rattle.text_forms.specs.Tokens as defined
use Rattle.text_forms.specs.Faults as defined_faults
use Rattle.text_forms.specs.Least.{least_fault}
use Rattle.text_forms.specs.declared.sexpr_text.classes.Class.{Class}
use Rattle.text_forms.specs.declared.sexpr_text.classes.Class.TheVariants.{Blank, Opening, Closing, Letter, Bad}
use Rattle.text_forms.specs.declared.sexpr_text.tokens.Kind.{Kind}
use Rattle.text_forms.specs.declared.sexpr_text.tokens.Kind.TheVariants as kinds
use Rattle.text_forms.specs.declared.sexpr_text.tokens.Piece.{Piece}
use Rattle.text_forms.specs.declared.sexpr_text.tokens.Token.{Token}

abbrev pub class_seen : Class → defined_bytes.Class
class_seen Blank = defined_bytes.blank
class_seen Opening = defined_bytes.opening
class_seen Closing = defined_bytes.closing
class_seen Letter = defined_bytes.letter
class_seen Bad = defined_bytes.bad

abbrev pub kind_seen : Kind → defined.Kind
kind_seen kinds.Start = defined.start
kind_seen kinds.Stop = defined.stop
kind_seen kinds.Word = defined.word

abbrev pub piece_seen : Piece → defined.Token
piece_seen p = defined.token (kind_seen p.kind) p.span.start p.span.end

abbrev pub token_seen : Token → defined.Token
token_seen t = defined.token (kind_seen t.kind) t.span.start t.span.end

-- the bytes of a span
abbrev pub bytes_at : List ℕ → Span → List ℕ
bytes_at text span = slice_range text span.start span.end

-- a fault with the place of its file among the inputs
abbrev pub fault_in : ℕ → defined_faults.Fault → Fault
fault_in file f = record { code = f.code; file = file; at = f.at }

-- the least fault of a text, with the place of its file
abbrev pub least_in : ℕ → List ℕ → Option Fault
least_in file text = option_map (fault_in file) (least_fault text)

-- the open lists, of which the innermost is kept last and defined first
abbrev pub opened : {A : Type 0} → Vec ℕ A → List ℕ
opened kept = reverse kept.items

-- whether a byte of the class is a fault where so many lists are open
abbrev pub TellsFault : Bool → ℕ → defined_bytes.Class → Type 0
TellsFault answer depth class = (opens : List ℕ) → length opens ≡ depth → (IsTrue answer ↔ IsSome (defined_faults.code_at opens class))
