-- What binding says of terms by numbers, in words: what a term is bound to, and which fault it has.
-- Source: this project's.
use Rattle.std.specs.Prelude.{ℕ, ◌≡◌, ◌⊎◌, ◌↔◌, true, false, List, []}
use Rattle.htn_base.specs.Different.{AreDifferent}
use Rattle.text_forms.specs.Words.{Word}
use Rattle.gd_reader.specs.declared.term.RawTerm.{RawTerm}
use Rattle.gd_reader.specs.Terms.{Names}
use Rattle.plan_texts.specs.Declared.{Declared}
use Rattle.text_values.specs.form_spellings.Bound.{IsBoundTerm}
use Rattle.text_values.specs.form_spellings.InTable.{IsIn}
use Rattle.htn_base.specs.Lists.{Has}
use Rattle.hddl_reader.specs.names.Words.{term_word}
use Rattle.name_binding.specs.Spots.{spot}
use Rattle.name_binding.specs.Terms.{term_bound, term_faults}
use Rattle.text_values.specs.form_spellings.binding_laws.Numbers.{words_of, AreKnown}

-- The objects and the variables in force, by the numbers of their names, are of one table.
pub record AreOfTable (names : Names) (objects scope : List ℕ) : Type 0 where
  pub differ : AreDifferent names
  pub objects_known : AreKnown names objects
  pub scope_known : AreKnown names scope

-- 16: no variable in force has the word; 15: no object has it
abbrev pub IsTermFault : Names → (objects here : List Word) → RawTerm → (code at : ℕ) → Type 0
IsTermFault names objects here t code at = (t.at ≡ at)
    × (((code ≡ 16) × (t.variable ≡ true) × (Has here (term_word names t) → ⊥))
    ⊎ ((code ≡ 15) × (t.variable ≡ false) × (Has objects (term_word names t) → ⊥)))

module _ (names : Names) (objects scope : List ℕ) where
  -- the faults of a term are these sentences
  abbrev pub HasTermFaults : Type 0
  HasTermFaults = (t : RawTerm) (code at : ℕ) → AreOfTable names objects scope → IsIn names t.name
      → Has (term_faults objects scope t) (spot at code) ↔ IsTermFault names (words_of names objects) (words_of names scope) t code at

  -- a term without faults is bound to what its word stands for
  abbrev pub IsTermBound : Type 0
  IsTermBound = (v : Declared) (t : RawTerm) → AreOfTable names objects scope → IsIn names t.name → v.objects ≡ words_of names objects
      → term_faults objects scope t ≡ [] → IsBoundTerm v names (words_of names scope) t (term_bound objects scope t)

abbrev pub OfAllTables : (Names → List ℕ → List ℕ → Type 0) → Type 0
OfAllTables P = (names : Names) (objects scope : List ℕ) → P names objects scope
