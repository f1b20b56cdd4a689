-- The order in which texts first name types, pairs and unions is that of the offsets of what was read.
-- Source: this project's.
use Rattle.std.specs.Prelude.{ℕ, ◌≡◌, ◌↔◌, ◌++◌, List, [], ◌∷◌, map, codes, Contains}
use Rattle.std.specs.List.Sorted.{IsPermutation, IsNonDecreasingBy}
use Rattle.text_forms.specs.Lists.{Parts}
use Rattle.text_forms.specs.Words.{Word}
use Rattle.plan_texts.specs.Domains.{AreDefinitions}
use Rattle.plan_texts.specs.FirstSeen.{type_words_in, type_items, types_in_order, but_first, pairs_from, pairs_in_order}
use Rattle.plan_texts.specs.FirstSeen.{unions_in_all, first_unions, unions_in_order}
use Rattle.plan_texts.specs.Sections.{section, parts_in}
use Rattle.plan_texts.specs.TypedLists.{first_seen}
use Rattle.plan_texts.specs.Types.{TypeItem}
use Rattle.plan_model.specs.declared.types.Parent.{Parent}
use Rattle.gd_reader.specs.Terms.{Names}
use Rattle.hddl_reader.specs.declared.sections.Language.{Language}
use Rattle.hddl_reader.specs.declared.sections.RawDomain.{RawDomain}
use Rattle.hddl_reader.specs.declared.sections.RawProblem.{RawProblem}
use Rattle.text_values.specs.form_spellings.ReadTexts.{AreRead}
use Rattle.text_values.specs.form_spellings.Rising.{Rise}
use Rattle.text_values.specs.form_spellings.Written.{Written, all_written, Union, type_words, item_written, domain_unions, problem_unions}

-- the parts of a domain in which its types stand
abbrev pub type_parts : Parts → Parts
type_parts domain = parts_in (section (codes ":types") domain)

-- A text writes these, one behind another: at rising offsets they are those that were read, where one at one offset counts once.
pub record IsWrittenAs {X : Type 0} (read : List (Written X)) (text : List X) : Type 0 where
  pub ordered : List (Written X)
  pub rise : Rise (map (λ (w : Written X). w.at) ordered)
  pub same : (w : Written X) → Contains read w ↔ Contains ordered w
  pub text_is : text ≡ all_written ordered

-- those that were read, as their first words follow one another in the text
pub record AreSorted {X : Type 0} (read sorted : List (Written X)) : Type 0 where
  pub same : IsPermutation read sorted
  pub rise : IsNonDecreasingBy (λ (w : Written X). w.at) sorted

-- object, and the others of these words, each once
abbrev pub types_of : List Word → List Word
types_of words = codes "object" ∷ first_seen (codes "object" ∷ []) words

-- the types are object and the words of their list by their offsets
abbrev pub AreTypesSeen : Names → RawDomain → Parts → Type 0
AreTypesSeen table d domain =
    (words : List (Written Word)) → AreSorted (type_words table d.types) words
    → types_in_order (type_parts domain) ≡ types_of (all_written words)

-- of the types but object, which has the number 0: by the child's number, then as they were read
abbrev pub pairs_of : List Word → List TypeItem → List Parent
pairs_of types items = pairs_from 1 types (but_first types) items

abbrev pub ArePairsSeen : Names → RawDomain → Parts → Type 0
ArePairsSeen table d domain =
    pairs_in_order (type_parts domain) ≡ pairs_of (types_in_order (type_parts domain)) (map (item_written table) d.types)

-- those of the domain by their offsets, then those of the problem, each once
abbrev pub AreUnionsSeen : Names → RawDomain → RawProblem → Parts → Parts → Type 0
AreUnionsSeen table d p domain problem =
    (us vs : List Union) → AreSorted (domain_unions table d) us → AreSorted (problem_unions table p) vs
    → unions_in_order domain problem ≡ first_unions [] (all_written us ++ all_written vs)

-- What two texts with these sections name, and in which order.
pub record AreSeen (table : Names) (d : RawDomain) (p : RawProblem) (domain problem : Parts) : Type 0 where
  pub words_are : IsWrittenAs (type_words table d.types) (type_words_in (type_parts domain))
  pub items_are : type_items (type_parts domain) ≡ map (item_written table) d.types
  pub in_domain : IsWrittenAs (domain_unions table d) (unions_in_all domain)
  pub in_problem : IsWrittenAs (problem_unions table p) (unions_in_all problem)
  pub types : AreTypesSeen table d domain
  pub pairs : ArePairsSeen table d domain
  pub unions : AreUnionsSeen table d p domain problem

-- of all texts of which a domain and a problem were read, by the sections that their tokens show
abbrev pub AllAreSeen : Type 0
AllAreSeen =
    (l : Language) (domain problem : List ℕ) (table : Names) (d : RawDomain) (p : RawProblem) → AreRead l domain problem table d p
    → (domain_word problem_word : Word) (texts : AreDefinitions domain problem domain_word problem_word)
    → AreSeen table d p texts.domain_sections texts.problem_sections
