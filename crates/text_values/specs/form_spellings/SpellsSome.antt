-- The form at a token spells some value, once its words are declared suitably.
use Rattle.std.specs.Prelude.{◌≡◌, Bool, List, [], map}
use Rattle.text_forms.specs.Lists.{Part, Parts, group}
use Rattle.text_forms.specs.Placed.{Placed, cut, close, word, list, parts_of, IsWhole}
use Rattle.text_forms.specs.Words.{Word}
use Rattle.plan_texts.specs.Declared.{Declared, variable}
use Rattle.plan_texts.specs.Formulas.{IsParam, IsFormula, IsEffect}
use Rattle.plan_texts.specs.Schemas.{IsObject}
use Rattle.plan_texts.specs.TypedLists.{EachTyped}
use Rattle.htn_base.specs.Different.{AreDifferent}
use Rattle.plan_texts.specs.Types.{EachIs, TypeItem, IsTypeItem}
use Rattle.plan_model.specs.declared.terms.Param.{Param}
use Rattle.plan_model.specs.declared.types.Object.{Object}
use Rattle.plan_model.specs.declared.formulas.Formula.{Formula}
use Rattle.plan_model.specs.declared.effects.Effect.{Effect}
use Rattle.gd_reader.specs.declared.typed_lists.ListKind.{ListKind}
use Rattle.gd_reader.specs.declared.typed_lists.ListKind.TheVariants.{Parameters, Predicate, Objects, Types}
use Rattle.text_values.specs.form_spellings.Fresh.{AreFresh, AreFreshEffects}

-- a list with its end stands at the front, and without its places it is such a part
abbrev pub StandsInFront : (Part → Type 0) → Placed → Type 0
StandsInFront Is cut = ⊥
StandsInFront Is (close at) = ⊥
StandsInFront Is (word at w behind) = ⊥
StandsInFront Is (list at inside behind) = IsWhole inside × Is (group (parts_of inside))

-- the rest of a list, up to its end, is such parts
abbrev pub StandUpToEnd : (Parts → Type 0) → Placed → Type 0
StandUpToEnd Are p = IsWhole p × Are (parts_of p)

-- each word has a letter
abbrev pub HaveLetters : List Word → Type 0
HaveLetters ws = EachIs (λ w. w ≡ [] → ⊥) ws

-- The words and the scope are some that make the form spell the value. No quantifier declares a variable twice.
abbrev pub SpellsSomeFormula : Placed → Type 0
SpellsSomeFormula p = (v : Declared) × (scope : List Word) × (f : Formula) × HaveLetters scope × AreFresh v f × StandsInFront (IsFormula v f scope) p

abbrev pub SpellsSomeEffect : Placed → Type 0
SpellsSomeEffect p = (v : Declared) × (scope : List Word) × (e : Effect) × HaveLetters scope × AreFreshEffects v e × StandsInFront (IsEffect v e scope) p

-- Parameters differ. Variables of a predicate may be repeated, and so may objects and types.
abbrev pub SpellsSomeList : ListKind → Placed → Type 0
SpellsSomeList Parameters p = (v : Declared) × (xs : List Param) × AreDifferent (map (variable v) xs) × StandUpToEnd (EachTyped (IsParam v) xs) p
SpellsSomeList Predicate p = (v : Declared) × (xs : List Param) × StandUpToEnd (EachTyped (IsParam v) xs) p
SpellsSomeList Objects p = (v : Declared) × (constant : Bool) × (xs : List Object) × StandUpToEnd (EachTyped (IsObject v constant) xs) p
SpellsSomeList Types p = (xs : List TypeItem) × StandUpToEnd (EachTyped IsTypeItem xs) p
