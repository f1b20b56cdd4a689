-- What binding says of written types by numbers, in words: their faults, and the type that they are bound to.
-- Source: this project's.
use Rattle.std.specs.Prelude.{ℕ, ◌≡◌, ◌≤◌, ◌↔◌, List, [], ◌++◌, map, length, codes, Some}
use Rattle.htn_base.specs.Different.{AreDifferent}
use Rattle.text_forms.specs.Words.{Word, word_at, first_place}
use Rattle.gd_reader.specs.declared.term.RawTerm.{RawTerm}
use Rattle.gd_reader.specs.Terms.{Names}
use Rattle.hddl_reader.specs.declared.sections.RawDomain.{RawDomain}
use Rattle.plan_texts.specs.Declared.{Declared, kind_at}
use Rattle.plan_texts.specs.Types.{EachIs}
use Rattle.text_values.specs.form_spellings.Bound.{types_of}
use Rattle.text_values.specs.form_spellings.EachName.{OfTerm}
use Rattle.text_values.specs.form_spellings.InTable.{IsNameIn}
use Rattle.htn_base.specs.Lists.{One, Has}
use Rattle.hddl_reader.specs.names.Types.{IsType}
use Rattle.hddl_reader.specs.names.Words.{term_word}
use Rattle.name_binding.specs.Spots.{spot}
use Rattle.name_binding.specs.Kinds.{Kinds, members_written, kind_bound, kind_faults}
use Rattle.text_values.specs.form_spellings.binding_laws.Numbers.{words_of, AreKnown}

-- The types, by the numbers of their names in one table, are those of the domain.
pub record AreTypesOf (names : Names) (d : RawDomain) (kinds : Kinds) : Type 0 where
  pub differ : AreDifferent names
  pub known : AreKnown names kinds.types
  pub words : (w : Word) → Has (words_of names kinds.types) w ↔ IsType names d w

-- The words in use have these types, object first, and these unions with perhaps more behind them.
pub record HasKinds (v : Declared) (names : Names) (kinds : Kinds) : Type 0 where
  pub table : v.names ≡ names
  pub types : v.types ≡ words_of names kinds.types
  pub more : List (List Word)
  pub unions : v.unions ≡ map (map (word_at v.types)) kinds.unions ++ more
  pub object_first : first_place (codes "object") v.types ≡ Some 0

module _ (names : Names) where
  abbrev pub AreTermsIn : List RawTerm → Type 0
  AreTermsIn ts = EachIs (OfTerm (IsNameIn names)) ts

  -- 11: no type has the word
  abbrev pub IsKindFault : RawDomain → List RawTerm → (code at : ℕ) → Type 0
  IsKindFault d ts code at = (code ≡ 11) × One (λ (t : RawTerm). (t.at ≡ at) × (IsType names d (term_word names t) → ⊥)) ts

  -- no type is written twice, and two or more are a union that has a number
  abbrev pub IsNumbered : Kinds → List RawTerm → Type 0
  IsNumbered kinds ts = AreDifferent (map (term_word names) ts) × (2 ≤ length ts → Has kinds.unions (members_written kinds ts))

  module _ (d : RawDomain) (kinds : Kinds) where
    -- the faults of written types are these sentences
    abbrev pub HasKindFaults : Type 0
    HasKindFaults = (ts : List RawTerm) (code at : ℕ) → AreTypesOf names d kinds → AreTermsIn ts
        → Has (kind_faults kinds ts) (spot at code) ↔ IsKindFault d ts code at

    -- types without faults are bound to the number of what is written
    abbrev pub IsKindBound : Type 0
    IsKindBound = (v : Declared) (ts : List RawTerm) → AreTypesOf names d kinds → AreTermsIn ts → HasKinds v names kinds → IsNumbered kinds ts
        → kind_faults kinds ts ≡ [] → kind_at v (kind_bound kinds ts) ≡ types_of v names ts

abbrev pub OfAllKinds : (Names → RawDomain → Kinds → Type 0) → Type 0
OfAllKinds P = (names : Names) (d : RawDomain) (kinds : Kinds) → P names d kinds
