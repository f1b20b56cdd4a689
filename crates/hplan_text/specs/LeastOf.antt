-- The least of some faults, as the code has it.
-- Source: this project's.
use Rattle.std.specs.Prelude.{ℕ, ◌≡◌, Bool, true, false, List, [], ◌∷◌, Option, Some, None}
use Rattle.plan_texts.specs.Types.{Has}
use Rattle.text_forms.specs.Faults.{Fault, fault, IsBefore}
use Rattle.hplan_text.specs.declared.least.Found.{Found}

abbrev pub as_fault : Found → Fault
as_fault f = fault f.code f.at

-- the least of the faults, or none where there is none
abbrev pub IsLeastOf : Option Found → List Fault → Type 0
IsLeastOf None fs = fs ≡ []
IsLeastOf (Some f) fs = Has fs (as_fault f) × ((g : Fault) → Has fs g → IsBefore (as_fault f) g)

-- a fault, unless all is well
abbrev pub faults_unless : Bool → ℕ → ℕ → List Fault
faults_unless true code at = []
faults_unless false code at = fault code at ∷ []
