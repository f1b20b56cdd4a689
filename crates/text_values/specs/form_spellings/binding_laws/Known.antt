-- What is declared, by the numbers of names, is what a domain declares.
-- Source: this project's; offsets rise in the order of the text.
use Rattle.std.specs.Prelude.{◌≡◌, List, map, length}
use Rattle.htn_base.specs.Different.{AreDifferent}
use Rattle.text_forms.specs.Words.{Word}
use Rattle.gd_reader.specs.Terms.{Names}
use Rattle.hddl_reader.specs.declared.sections.RawDomain.{RawDomain}
use Rattle.hddl_reader.specs.declared.sections.RawHead.{RawHead}
use Rattle.plan_texts.specs.Declared.{Declared}
use Rattle.plan_texts.specs.Types.{EachIs}
use Rattle.text_values.specs.form_spellings.InTable.{IsIn}
use Rattle.name_binding.specs.declared.heads.Head.{Head}
use Rattle.name_binding.specs.Heads.{head_numbers}
use Rattle.name_binding.specs.Spots.{IsInTextOrder}
use Rattle.name_binding.specs.declared.known.Known.{Known}
use Rattle.text_values.specs.form_spellings.binding_laws.Kinds.{AreTypesOf, HasKinds}
use Rattle.text_values.specs.form_spellings.binding_laws.Numbers.{words_of, AreKnown}

abbrev pub head_of : RawHead → Head
head_of h = record { name = h.name.name; arity = length h.params }

-- The heads are those of these declarations, which stand in the order of the text, and whose words are in the table.
pub record AreHeadsOf (names : Names) (declarations : List RawHead) (heads : List Head) : Type 0 where
  pub differ : AreDifferent names
  pub are : heads ≡ map head_of declarations
  pub words_in : EachIs (λ (h : RawHead). IsIn names h.name.name) declarations
  pub in_order : IsInTextOrder (map (λ (h : RawHead). h.name.at) declarations)

-- The types and predicates are those of the domain; the objects have these words.
pub record IsKnownOf (names : Names) (d : RawDomain) (objects : List Word) (known : Known) : Type 0 where
  pub types : AreTypesOf names d known.types
  pub predicates : AreHeadsOf names d.predicates known.predicates
  pub objects_in : AreKnown names known.objects
  pub object_words : words_of names known.objects ≡ objects

-- The words in use are those of what is declared.
pub record HasKnown (v : Declared) (names : Names) (known : Known) : Type 0 where
  pub kinds : HasKinds v names known.types
  pub objects : v.objects ≡ words_of names known.objects
  pub predicates : v.predicates ≡ words_of names (head_numbers known.predicates)
