-- What the contracts of calls that read say of the grammar with codes, at token i of a text.
use Rattle.std.specs.Prelude.{ℕ, List}
use Rattle.htn_base.specs.declared.fault.Fault.{Fault}
use Rattle.text_forms.specs.Placed.{Placed, parts_at}
use Rattle.text_forms.specs.form_grammar.Codes.{Form, Whole, Departs}
use Rattle.text_forms.specs.declared.sexpr_text.read_error.ReadError.{ReadError}
use Rattle.text_forms.specs.declared.sexpr_text.read_error.ReadError.TheVariants as errors
use Rattle.gd_reader.specs.Terms.{Names}

-- where a value is answered, the tokens are whole
abbrev pub ReadsWhole : {X : Type 0} → (Placed → Form) → (Names → List ℕ → ℕ → X → Type 0) → Type 0
ReadsWhole {X} f IsRead = (names : Names) (text : List ℕ) (i : ℕ) (x : X) → IsRead names text i x → Whole (f (parts_at text i))

-- where a fault is answered, the token at its place departs, with its code
abbrev pub FaultsDepart : (Placed → Form) → (Names → List ℕ → ℕ → ℕ → ReadError → Type 0) → Type 0
FaultsDepart f Refuses = (names : Names) (text : List ℕ) (i file : ℕ) (fault : Fault) → Refuses names text i file (errors.Bad fault) → Departs (f (parts_at text i)) fault.code fault.at
