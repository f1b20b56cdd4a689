-- What binding says of atoms, formulas and effects by numbers, in words: their faults, and what they are bound to.
-- Source: this project's.
use Rattle.std.specs.Prelude.{ℕ, ◌≡◌, ◌↔◌, List, []}
use Rattle.text_forms.specs.Words.{Word}
use Rattle.gd_reader.specs.declared.term.RawAtom.{RawAtom}
use Rattle.gd_reader.specs.declared.typed_lists.RawParam.{RawParam}
use Rattle.gd_reader.specs.declared.formulas.RawFormula.{RawFormula}
use Rattle.gd_reader.specs.declared.effects.RawEffect.{RawEffect}
use Rattle.gd_reader.specs.Terms.{Names}
use Rattle.hddl_reader.specs.declared.sections.RawDomain.{RawDomain}
use Rattle.plan_texts.specs.Declared.{Declared}
use Rattle.text_values.specs.form_spellings.Bound.{IsBoundAtom, IsBoundFormula, IsBoundEffect}
use Rattle.text_values.specs.form_spellings.EachName.{OfAtom}
use Rattle.text_values.specs.form_spellings.InTable.{IsNameIn, IsFormulaIn, IsEffectIn}
use Rattle.htn_base.specs.Lists.{Has}
use Rattle.hddl_reader.specs.names.Uses.{Scope, Use, declares, predicate, IsOfAtom, InFormula, InEffect}
use Rattle.name_binding.specs.Spots.{spot}
use Rattle.name_binding.specs.Kinds.{Kinds}
use Rattle.name_binding.specs.declared.known.Known.{Known}
use Rattle.name_binding.specs.Atoms.{atom_bound, atom_faults}
use Rattle.name_binding.specs.Formulas.{formula_bound, formula_faults}
use Rattle.name_binding.specs.Effects.{effect_bound, effect_faults}
use Rattle.text_values.specs.form_spellings.binding_laws.Kinds.{IsNumbered}
use Rattle.text_values.specs.form_spellings.binding_laws.Known.{IsKnownOf, HasKnown}
use Rattle.text_values.specs.form_spellings.binding_laws.Numbers.{words_of, AreKnown}
use Rattle.text_values.specs.form_spellings.binding_laws.Uses.{HasFaultIn}

-- the types of each word that is declared there have a number
abbrev pub AreNumberedIn : Names → Kinds → (Scope → Use → Type 0) → Type 0
AreNumberedIn names kinds Stands = (here : Scope) (x : RawParam) → Stands here (declares x) → IsNumbered names kinds x.ty

module _ (names : Names) (d : RawDomain) (objects : List Word) (known : Known) where
  -- the faults of an atom, a formula and an effect are those of its declarations and uses
  abbrev pub HasAtomFaults : Type 0
  HasAtomFaults = (scope : List ℕ) (a : RawAtom) (code at : ℕ) → IsKnownOf names d objects known → AreKnown names scope → OfAtom (IsNameIn names) a
      → Has (atom_faults known scope a) (spot at code) ↔ HasFaultIn names d objects (λ here u. (here ≡ words_of names scope) × IsOfAtom predicate a u) code at

  abbrev pub HasFormulaFaults : Type 0
  HasFormulaFaults = (scope : List ℕ) (f : RawFormula) (code at : ℕ) → IsKnownOf names d objects known → AreKnown names scope → IsFormulaIn names f
      → Has (formula_faults known scope f) (spot at code) ↔ HasFaultIn names d objects (InFormula names f (words_of names scope)) code at

  abbrev pub HasEffectFaults : Type 0
  HasEffectFaults = (scope : List ℕ) (e : RawEffect) (code at : ℕ) → IsKnownOf names d objects known → AreKnown names scope → IsEffectIn names e
      → Has (effect_faults known scope e) (spot at code) ↔ HasFaultIn names d objects (InEffect names e (words_of names scope)) code at

  -- without faults each is bound to what it stands for
  abbrev pub IsAtomBound : Type 0
  IsAtomBound = (v : Declared) (scope : List ℕ) (a : RawAtom) → IsKnownOf names d objects known → AreKnown names scope → OfAtom (IsNameIn names) a → HasKnown v names known
      → atom_faults known scope a ≡ [] → IsBoundAtom v names (words_of names scope) a (atom_bound known scope a).predicate (atom_bound known scope a).args

  abbrev pub IsFormulaBound : Type 0
  IsFormulaBound = (v : Declared) (scope : List ℕ) (f : RawFormula) → IsKnownOf names d objects known → AreKnown names scope → IsFormulaIn names f → HasKnown v names known
      → AreNumberedIn names known.types (InFormula names f (words_of names scope)) → formula_faults known scope f ≡ []
      → IsBoundFormula v names f (words_of names scope) (formula_bound known scope f)

  abbrev pub IsEffectBound : Type 0
  IsEffectBound = (v : Declared) (scope : List ℕ) (e : RawEffect) → IsKnownOf names d objects known → AreKnown names scope → IsEffectIn names e → HasKnown v names known
      → AreNumberedIn names known.types (InEffect names e (words_of names scope)) → effect_faults known scope e ≡ []
      → IsBoundEffect v names e (words_of names scope) (effect_bound known scope e)

abbrev pub OfAllKnown : (Names → RawDomain → List Word → Known → Type 0) → Type 0
OfAllKnown P = (names : Names) (d : RawDomain) (objects : List Word) (known : Known) → P names d objects known
