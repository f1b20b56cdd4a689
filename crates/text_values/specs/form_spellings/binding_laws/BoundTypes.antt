-- The types of a domain without faults, by numbers, are bound to what its section of types says in words.
-- Source: this project's.
use Rattle.std.specs.Prelude.{ℕ}
use Rattle.gd_reader.specs.Terms.{Names}
use Rattle.gd_reader.specs.declared.typed_lists.RawParam.{RawParam}
use Rattle.hddl_reader.specs.declared.sections.RawDomain.{RawDomain}
use Rattle.plan_texts.specs.Declared.{Declared, named}
use Rattle.plan_texts.specs.Types.{TypeItem, EachIs}
use Rattle.text_values.specs.form_spellings.Bound.{parent_of}
use Rattle.text_values.specs.form_spellings.BoundTexts.{AreBoundTypes}
use Rattle.hddl_reader.specs.names.Types.{TypeCycle}
use Rattle.name_binding.specs.Kinds.{Kinds}
use Rattle.name_binding.specs.Mentions as numbers
use Rattle.name_binding.specs.Parents.{pairs_in_order}
use Rattle.text_values.specs.form_spellings.binding_laws.InOrder.{IsTypedName}
use Rattle.text_values.specs.form_spellings.binding_laws.Numbers.{words_of}
use Rattle.text_values.specs.form_spellings.binding_laws.TypeWords.{AreTypesIn}

-- a type and the parent that is written for it
abbrev pub item_of : Declared → Names → RawParam → TypeItem
item_of v names x = (named names x.name, parent_of v names x.ty)

module _ (names : Names) (object : ℕ) (d : RawDomain) where
  -- where the types have no cycle
  abbrev pub HasBoundTypes : Type 0
  HasBoundTypes = (v : Declared) (kinds : Kinds) → AreTypesIn names object d.types → numbers.AreTypesOf object d.types kinds.types → EachIs (IsTypedName names) d.types
      → ((at : ℕ) → TypeCycle names d at → ⊥) → AreBoundTypes v names (words_of names kinds.types) (pairs_in_order kinds.types d.types) d.types
