-- What the computed fault tells of a text.
use Rattle.std.proofs.Common.{◌≡◌, ℕ, Option, Some, None, List, refl, sym, subst}
use Rattle.std.specs.Option.{option_map}
use Rattle.htn_base.specs.declared.fault.Fault.{Fault}
use Rattle.text_forms.specs.Faults.{Fault as Defined, fault, IsLeast, IsFaultless}
use Rattle.text_forms.specs.Least.{least_fault}
use Rattle.text_forms.specs.Laws.{IsLeastOrNone}
use Rattle.text_forms.proofs.LeastFault.{least_or_none}
use Rattle.text_forms.specs.sexpr_text.Seen.{fault_in}

abbrev pub Tells : List ℕ → ℕ → Option Fault → Type 0
Tells text file None = IsFaultless text
Tells text file (Some f) = (f.file ≡ file) × IsLeast text (fault f.code f.at)

pub tells : (text : List ℕ) (file : ℕ) (found : Option Fault) → found ≡ option_map (fault_in file) (least_fault text) → Tells text file found
tells text file found e = subst (Tells text file) (sym e) (go (least_fault text) (least_or_none text))
  where
    go : (o : Option Defined) → IsLeastOrNone text o → Tells text file (option_map (fault_in file) o)
    go None h = h
    go (Some f) h = (refl, h)
