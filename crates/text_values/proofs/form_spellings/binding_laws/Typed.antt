-- Typed lists by numbers and in words.
use Rattle.std.proofs.Common.{ℕ, ◌≡◌, ◌≤◌, inl, inr, Bool, List, [], ◌∷◌, length, refl, ap, arith}
use Rattle.std.specs.Prelude.{codes}
use Rattle.gd_reader.specs.declared.term.RawTerm.{RawTerm}
use Rattle.gd_reader.specs.declared.typed_lists.RawParam.{RawParam}
use Rattle.gd_reader.specs.Terms.{Names}
use Rattle.hddl_reader.specs.declared.sections.RawDomain.{RawDomain}
use Rattle.text_forms.specs.Words.{word_at}
use Rattle.plan_texts.specs.Declared.{Declared, named}
use Rattle.plan_texts.specs.Together.{Together}
use Rattle.plan_texts.specs.Types.{EachIs}
use Rattle.text_values.specs.form_spellings.Bound.{types_of, IsBoundParam, IsBoundObject}
use Rattle.text_values.specs.form_spellings.InTable.{AreParamsIn}
use Rattle.htn_base.specs.Lists.{One, Has}
use Rattle.name_binding.specs.Spots.{spot}
use Rattle.name_binding.specs.Kinds.{Kinds, type_faults, kind_bound, kind_faults}
use Rattle.name_binding.specs.Typed.{params_bound, objects_bound, params_faults, typed_faults}
use Rattle.text_values.specs.form_spellings.binding_laws.Kinds.{AreTypesOf, HasKinds, AreTermsIn, IsKindFault, IsNumbered, OfAllKinds}
use Rattle.text_values.specs.form_spellings.binding_laws.Typed.{HasTypedFaults, AreParamsBound, AreObjectsBound}
use Rattle.text_values.proofs.form_spellings.binding_laws.Written.{none_left, none_right, alone_is, has_kind_faults, is_kind_bound}
use Rattle.text_values.proofs.form_spellings.binding_laws.Lists.{flat_there, flat_back}
use Rattle.text_values.proofs.form_spellings.binding_laws.Numbered.{first_is}

module _ (names : Names) (d : RawDomain) (kinds : Kinds) (of : AreTypesOf names d kinds) where
  there : (xs : List RawParam) (code at : ℕ) → AreParamsIn names xs → One (λ x. Has (typed_faults kinds x) (spot at code)) xs → One (λ (x : RawParam). IsKindFault names d x.ty code at) xs
  there [] code at is h = absurd h
  there (x ∷ xs) code at is (inl h) = inl ((has_kind_faults names d kinds x.ty code at of is.0.1).0 h)
  there (x ∷ xs) code at is (inr h) = inr (there xs code at is.1 h)

  back : (xs : List RawParam) (code at : ℕ) → AreParamsIn names xs → One (λ (x : RawParam). IsKindFault names d x.ty code at) xs → One (λ x. Has (typed_faults kinds x) (spot at code)) xs
  back [] code at is h = absurd h
  back (x ∷ xs) code at is (inl h) = inl ((has_kind_faults names d kinds x.ty code at of is.0.1).1 h)
  back (x ∷ xs) code at is (inr h) = inr (back xs code at is.1 h)

  module _ (v : Declared) (has : HasKinds v names kinds) where
    params : (xs : List RawParam) → AreParamsIn names xs → EachIs (λ (x : RawParam). IsNumbered names kinds x.ty) xs → params_faults kinds xs ≡ [] → Together (IsBoundParam v names) xs (params_bound kinds xs)
    params [] is n e = tt
    params (x ∷ xs) is n e = (
      (ap (λ t. named t x.name) has.table, is_kind_bound names d kinds v x.ty of is.0.1 has n.0 (none_left (kind_faults kinds x.ty) (params_faults kinds xs) e)),
      params xs is.1 n.1 (none_right (kind_faults kinds x.ty) (params_faults kinds xs) e),
    )

    object_type : (ts : List RawTerm) → AreTermsIn names ts → length ts ≤ 1 → kind_faults kinds ts ≡ [] → word_at v.types (kind_bound kinds ts) ∷ [] ≡ types_of v names ts
    object_type [] is l e = ap (λ w. w ∷ []) (first_is (codes "object") v.types 0 has.object_first).1
    object_type (t ∷ []) is l e = ap (λ w. w ∷ []) (alone_is names d kinds of v has t is.0 (none_left (type_faults kinds t) [] e)).1
    object_type (t ∷ u ∷ ts) is l e = absurd (omega arith)

    objects : (constant : Bool) (xs : List RawParam) → AreParamsIn names xs → EachIs (λ (x : RawParam). length x.ty ≤ 1) xs → params_faults kinds xs ≡ [] → Together (IsBoundObject v names constant) xs (objects_bound kinds constant xs)
    objects constant [] is n e = tt
    objects constant (x ∷ xs) is n e = (
      (ap (λ t. named t x.name) has.table, object_type x.ty is.0.1 n.0 (none_left (kind_faults kinds x.ty) (params_faults kinds xs) e), refl),
      objects constant xs is.1 n.1 (none_right (kind_faults kinds x.ty) (params_faults kinds xs) e),
    )

pub has_typed_faults : OfAllKinds HasTypedFaults
has_typed_faults names d kinds xs code at of is = (
  λ h. there names d kinds of xs code at is (flat_there (typed_faults kinds) xs (spot at code) h),
  λ h. flat_back (typed_faults kinds) xs (spot at code) (back names d kinds of xs code at is h),
)

pub are_params_bound : OfAllKinds AreParamsBound
are_params_bound names d kinds v xs of is has n e = params names d kinds of v has xs is n e

pub are_objects_bound : OfAllKinds AreObjectsBound
are_objects_bound names d kinds v constant xs of is has n e = objects names d kinds of v has constant xs is n e
