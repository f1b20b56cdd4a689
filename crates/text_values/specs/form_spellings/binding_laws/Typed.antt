-- What binding says of typed lists by numbers, in words: their faults, and the parameters and objects that they are bound to.
-- Source: this project's.
use Rattle.std.specs.Prelude.{ℕ, ◌≡◌, ◌≤◌, ◌↔◌, Bool, List, [], length}
use Rattle.gd_reader.specs.declared.typed_lists.RawParam.{RawParam}
use Rattle.gd_reader.specs.Terms.{Names}
use Rattle.hddl_reader.specs.declared.sections.RawDomain.{RawDomain}
use Rattle.plan_texts.specs.Declared.{Declared}
use Rattle.plan_texts.specs.Together.{Together}
use Rattle.plan_texts.specs.Types.{EachIs}
use Rattle.text_values.specs.form_spellings.Bound.{IsBoundParam, IsBoundObject}
use Rattle.text_values.specs.form_spellings.InTable.{AreParamsIn}
use Rattle.htn_base.specs.Lists.{One, Has}
use Rattle.name_binding.specs.Spots.{spot}
use Rattle.name_binding.specs.Kinds.{Kinds}
use Rattle.name_binding.specs.Typed.{params_bound, objects_bound, params_faults}
use Rattle.text_values.specs.form_spellings.binding_laws.Kinds.{AreTypesOf, HasKinds, IsKindFault, IsNumbered}

module _ (names : Names) (d : RawDomain) (kinds : Kinds) where
  -- the faults of a typed list are those of the types that it writes
  abbrev pub HasTypedFaults : Type 0
  HasTypedFaults = (xs : List RawParam) (code at : ℕ) → AreTypesOf names d kinds → AreParamsIn names xs
      → Has (params_faults kinds xs) (spot at code) ↔ One (λ (x : RawParam). IsKindFault names d x.ty code at) xs

  -- a typed list without faults is bound to what it declares
  abbrev pub AreParamsBound : Type 0
  AreParamsBound = (v : Declared) (xs : List RawParam) → AreTypesOf names d kinds → AreParamsIn names xs → HasKinds v names kinds
      → EachIs (λ (x : RawParam). IsNumbered names kinds x.ty) xs → params_faults kinds xs ≡ []
      → Together (IsBoundParam v names) xs (params_bound kinds xs)

  -- an object has one type
  abbrev pub AreObjectsBound : Type 0
  AreObjectsBound = (v : Declared) (constant : Bool) (xs : List RawParam) → AreTypesOf names d kinds → AreParamsIn names xs → HasKinds v names kinds
      → EachIs (λ (x : RawParam). length x.ty ≤ 1) xs → params_faults kinds xs ≡ []
      → Together (IsBoundObject v names constant) xs (objects_bound kinds constant xs)
