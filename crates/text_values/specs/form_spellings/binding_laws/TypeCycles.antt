-- What binding says by numbers of a cycle of types, and of all faults of a section of types, in words.
-- Source: this project's.
use Rattle.std.specs.Prelude.{ℕ, ◌≡◌, ◌⊎◌, ◌↔◌}
use Rattle.gd_reader.specs.Terms.{Names}
use Rattle.hddl_reader.specs.declared.sections.Language.{Language}
use Rattle.hddl_reader.specs.declared.sections.RawDomain.{RawDomain}
use Rattle.hddl_reader.specs.names.Types.{most_types, TypeCycle, TooManyTypes}
use Rattle.name_binding.specs.Spots.{spot}
use Rattle.name_binding.specs.Cycle.{IsTypeCycle, IsSectionFault}
use Rattle.text_values.specs.form_spellings.binding_laws.TypeWords.{AreTypesIn}

module _ (names : Names) (object : ℕ) (d : RawDomain) where
  -- 12 at the child of the first pair that closes a cycle
  abbrev pub HasTypeCycle : Type 0
  HasTypeCycle = (code at : ℕ) → AreTypesIn names object d.types → IsTypeCycle object d.types (spot at code) ↔ ((code ≡ 12) × TypeCycle names d at)

  -- 12 and 22
  abbrev pub HasSectionFaults : Type 0
  HasSectionFaults = (l : Language) (code at : ℕ) → AreTypesIn names object d.types
      → IsSectionFault (most_types l) object d.types (spot at code) ↔ (((code ≡ 22) × TooManyTypes l names d at) ⊎ ((code ≡ 12) × TypeCycle names d at))
