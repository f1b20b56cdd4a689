-- What was read, once bound, is spelled by the parts from which it was read: for all declared words and every scope.
use Rattle.std.specs.Prelude.{Bool, List}
use Rattle.text_forms.specs.Placed.{Placed}
use Rattle.text_forms.specs.Words.{Word}
use Rattle.plan_texts.specs.Declared.{Declared}
use Rattle.plan_texts.specs.Formulas.{IsParam, IsFormula, IsEffect}
use Rattle.plan_texts.specs.Schemas.{IsObject}
use Rattle.plan_texts.specs.TypedLists.{EachTyped}
use Rattle.plan_texts.specs.Types.{TypeItem, IsTypeItem}
use Rattle.plan_model.specs.declared.terms.Param.{Param}
use Rattle.plan_model.specs.declared.types.Object.{Object}
use Rattle.plan_model.specs.declared.formulas.Formula.{Formula}
use Rattle.plan_model.specs.declared.effects.Effect.{Effect}
use Rattle.gd_reader.specs.declared.formulas.RawFormula.{RawFormula}
use Rattle.gd_reader.specs.declared.effects.RawEffect.{RawEffect}
use Rattle.gd_reader.specs.declared.typed_lists.RawParam.{RawParam}
use Rattle.gd_reader.specs.declared.typed_lists.ListKind.{ListKind}
use Rattle.gd_reader.specs.declared.typed_lists.ListKind.TheVariants.{Parameters, Predicate, Objects, Types}
use Rattle.gd_reader.specs.Terms.{Names}
use Rattle.plan_texts.specs.Together.{Together}
use Rattle.text_values.specs.form_spellings.Bound.{IsBoundFormula, IsBoundEffect, IsBoundParam, IsBoundObject, IsBoundType}
use Rattle.text_values.specs.form_spellings.SpellsSome.{StandsInFront, StandUpToEnd}

abbrev pub SpellsFormula : Names → RawFormula → Placed → Type 0
SpellsFormula table r p = (v : Declared) (scope : List Word) (f : Formula) → IsBoundFormula v table r scope f → StandsInFront (IsFormula v f scope) p

abbrev pub SpellsEffect : Names → RawEffect → Placed → Type 0
SpellsEffect table r p = (v : Declared) (scope : List Word) (e : Effect) → IsBoundEffect v table r scope e → StandsInFront (IsEffect v e scope) p

abbrev pub SpellsList : ListKind → Names → List RawParam → Placed → Type 0
SpellsList Parameters table rs p = (v : Declared) (xs : List Param) → Together (IsBoundParam v table) rs xs → StandUpToEnd (EachTyped (IsParam v) xs) p
SpellsList Predicate table rs p = (v : Declared) (xs : List Param) → Together (IsBoundParam v table) rs xs → StandUpToEnd (EachTyped (IsParam v) xs) p
SpellsList Objects table rs p = (v : Declared) (constant : Bool) (xs : List Object) → Together (IsBoundObject v table constant) rs xs → StandUpToEnd (EachTyped (IsObject v constant) xs) p
SpellsList Types table rs p = (v : Declared) (xs : List TypeItem) → Together (IsBoundType v table) rs xs → StandUpToEnd (EachTyped IsTypeItem xs) p

-- And conversely: what the parts spell is a value to which what was read is bound.
abbrev pub BindsFormula : Names → RawFormula → Placed → Type 0
BindsFormula table r p = (v : Declared) (scope : List Word) (f : Formula) → StandsInFront (IsFormula v f scope) p → IsBoundFormula v table r scope f

abbrev pub BindsEffect : Names → RawEffect → Placed → Type 0
BindsEffect table r p = (v : Declared) (scope : List Word) (e : Effect) → StandsInFront (IsEffect v e scope) p → IsBoundEffect v table r scope e

abbrev pub BindsList : ListKind → Names → List RawParam → Placed → Type 0
BindsList Parameters table rs p = (v : Declared) (xs : List Param) → StandUpToEnd (EachTyped (IsParam v) xs) p → Together (IsBoundParam v table) rs xs
BindsList Predicate table rs p = (v : Declared) (xs : List Param) → StandUpToEnd (EachTyped (IsParam v) xs) p → Together (IsBoundParam v table) rs xs
BindsList Objects table rs p = (v : Declared) (constant : Bool) (xs : List Object) → StandUpToEnd (EachTyped (IsObject v constant) xs) p → Together (IsBoundObject v table constant) rs xs
BindsList Types table rs p = (v : Declared) (xs : List TypeItem) → StandUpToEnd (EachTyped IsTypeItem xs) p → Together (IsBoundType v table) rs xs
