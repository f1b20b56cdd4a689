-- What binding says by numbers of the types of a domain, in words: which there are, in which order, and that there are too many.
-- Source: this project's; a type may be named only as a parent.
use Rattle.std.specs.Prelude.{ℕ, ◌≡◌, ◌<◌, ◌↔◌, List, [], ◌∷◌, map, length, codes}
use Rattle.htn_base.specs.Different.{AreDifferent}
use Rattle.text_forms.specs.Words.{word_at}
use Rattle.gd_reader.specs.Terms.{Names}
use Rattle.gd_reader.specs.declared.term.RawTerm.{RawTerm}
use Rattle.gd_reader.specs.declared.typed_lists.RawParam.{RawParam}
use Rattle.hddl_reader.specs.declared.sections.Language.{Language}
use Rattle.hddl_reader.specs.declared.sections.RawDomain.{RawDomain}
use Rattle.plan_texts.specs.TypedLists.{first_seen}
use Rattle.text_values.specs.form_spellings.InTable.{AreParamsIn}
use Rattle.hddl_reader.specs.names.Types.{most_types, TooManyTypes}
use Rattle.hddl_reader.specs.names.Words.{term_word}
use Rattle.name_binding.specs.Kinds.{Kinds}
use Rattle.name_binding.specs.Mentions.{mentioned, AreInTextOrder, types_in_order}
use Rattle.name_binding.specs.Mentions as numbers
use Rattle.name_binding.specs.TooMany.{IsOneTooMany}
use Rattle.text_values.specs.form_spellings.binding_laws.Kinds.{AreTypesOf}
use Rattle.text_values.specs.form_spellings.binding_laws.Numbers.{words_of}

-- The words of a section of types are in the table, and so is object, under this number.
pub record AreTypesIn (names : Names) (object : ℕ) (xs : List RawParam) : Type 0 where
  pub differ : AreDifferent names
  pub known : object < length names
  pub is_object : word_at names object ≡ codes "object"
  pub words_in : AreParamsIn names xs

module _ (names : Names) (object : ℕ) (d : RawDomain) where
  -- 22 at the first word of the type that is one too many
  abbrev pub HasTooManyTypes : Type 0
  HasTooManyTypes = (l : Language) (at : ℕ) → AreTypesIn names object d.types
      → IsOneTooMany (most_types l) object (mentioned d.types) at ↔ TooManyTypes l names d at

  -- the types in the order of the text are those of the domain, each once
  abbrev pub HasTypes : Type 0
  HasTypes = (kinds : Kinds) → AreTypesIn names object d.types → numbers.AreTypesOf object d.types kinds.types
      → AreTypesOf names d kinds × AreDifferent (words_of names kinds.types)

  -- object, and the others as the text first names them
  abbrev pub HasTypesInOrder : Type 0
  HasTypesInOrder = (words : List RawTerm) → AreTypesIn names object d.types → AreInTextOrder d.types words
      → words_of names (types_in_order object words) ≡ codes "object" ∷ first_seen (codes "object" ∷ []) (map (term_word names) words)

abbrev pub OfAllTypes : (Names → ℕ → RawDomain → Type 0) → Type 0
OfAllTypes P = (names : Names) (object : ℕ) (d : RawDomain) → P names object d
