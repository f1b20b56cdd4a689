-- The objects of the printed types: those of a source type are the source's, and those of the type of slots are the slots.
use Rattle.std.proofs.Common.{ℕ, suc, ◌≡◌, ◌+◌, ◌-◌, ◌<◌, ◌≤◌, ◌↔◌, inl, inr, List, [], ◌∷◌, ◌++◌, map, length, slice_get, Some, refl, ap, sym, subst, arith}
use Rattle.plan_model.specs.declared.options.Style.{Style}
use Rattle.plan_model.specs.declared.options.Checks.{Checks}
use Rattle.plan_model.specs.declared.types.Object.{Object}
use Rattle.plan_model.specs.declared.types.Types.{Types}
use Rattle.plan_model.specs.declared.terms.Param.{Param}
use Rattle.plan_model.specs.declared.values.Hddl.{Hddl}
use Rattle.plan_model.specs.declared.values.Compiled.{Compiled}
use Rattle.plan_model.specs.declared.values.Pddl.{Pddl}
use Rattle.plan_model.specs.Typing.{stay, IsPart, InType}
use Rattle.plan_texts.specs.Types.{EachIs}
use Rattle.plan_texts.specs.SoundValue.{IsSoundHddl}
use Rattle.plan_model.specs.plan_meaning.Truth.{AreTyped}
use Rattle.slot_encoding.specs.SourceParts.{retyped, source_param}
use Rattle.slot_encoding.specs.EncodedNames.{slot_type, first_slot, encoded_types, encoded_objects}
use Rattle.plan_model.specs.plan_meaning.Network as Source
use Rattle.plan_model.specs.plan_meaning.ClassicalPlan as Printed
use Rattle.slot_encoding.proofs.places.WellWorded.{IsWellWorded}
use Rattle.slot_encoding.proofs.Pieces.{TypesAgree, IsSlotObject, ListsAgree}
use Rattle.slot_encoding.proofs.places.ObjectPlaces.{printed_object, printed_slot, object_cases, object_at, slot_at}
use Rattle.slot_encoding.proofs.places.PrintedTypes.{part_to, part_from, slot_apart, apart_from_slots}
use Rattle.slot_encoding.proofs.places.SourceFormulas.{typed-source}
use Rattle.slot_encoding.proofs.places.SoundTypes.{some_type, leads_up, object_typed}

module _ (c : Compiled) (names : List (List ℕ)) (b : ℕ) (sound : IsSoundHddl c.hddl) where
  abbrev types : Types
  types = encoded_types c names b

  abbrev InPrinted : ℕ → ℕ → Type 0
  InPrinted = InType (encoded_types c names b) (encoded_objects c names b)

  range : 0 < length c.hddl.types.names
  range = some_type c.hddl sound

  source_to : (o ty : ℕ) → InPrinted o (retyped ty) → Source.InTypeOf c o ty
  source_to o ty (y, e, part) = elim (object_cases c names b o y e) [
    | inl (x, f, g) ↦ (x, f, part_to c names b range x.ty ty (subst (λ (z : Object). IsPart types z.ty (retyped ty)) (sym g) part))
    | inr (k, l, f, g) ↦ absurd (slot_apart c names b range ty (subst (λ (z : Object). IsPart types z.ty (retyped ty)) (sym g) part))
  ]

  source_from : (o ty : ℕ) → Source.InTypeOf c o ty → InPrinted o (retyped ty)
  source_from o ty (x, e, part) = (printed_object c names b x, object_at c names b o x e, part_from c names b range x.ty ty (leads_up c.hddl sound x.ty (object_typed c.hddl sound o x e)) part)

  slots_to : (o : ℕ) → InPrinted o slot_type → (first_slot c ≤ o) × (o < first_slot c + b)
  slots_to o (y, e, part) = elim (object_cases c names b o y e) [
    | inl (x, f, g) ↦ absurd (apart_from_slots c names b range x.ty (subst (λ (z : Object). IsPart types z.ty 1) (sym g) part))
    | inr (k, l, f, g) ↦ (omega arith, omega arith)
  ]

  slots_from : (o : ℕ) → (first_slot c ≤ o) × (o < first_slot c + b) → InPrinted o slot_type
  slots_from o (l, m) =
      let e : first_slot c + (o - first_slot c) ≡ o = omega arith in
      (printed_slot c names b (suc (o - first_slot c)), subst (λ z. slice_get (encoded_objects c names b) z ≡ Some (printed_slot c names b (suc (o - first_slot c)))) e (slot_at c names b (o - first_slot c) (omega arith)), inl (inr stay))

module _ (h : Hddl) (mode : Checks) (c : Compiled) (b : ℕ) (style : Style) (p : Pddl) (is : IsWellWorded h mode c b style p) where
  pub sound_here : IsSoundHddl c.hddl
  sound_here = subst IsSoundHddl (sym is.compiled.hddl) is.sound

  same_types : (λ o ty. InType p.types p.objects o ty) ≡ InType (encoded_types c p.names b) (encoded_objects c p.names b)
  same_types = λ i o ty. InType (is.encoded.types i) (is.encoded.objects i) o ty

  pub types_agree : TypesAgree c b style p
  types_agree = record {
    source = λ o ty. (λ t. source_to c p.names b sound_here o ty (subst (λ z. z o (retyped ty)) same_types t), λ t. subst (λ z. z o (retyped ty)) (sym same_types) (source_from c p.names b sound_here o ty t));
    slots = λ o. (λ t. slots_to c p.names b sound_here o (subst (λ z. z o slot_type) same_types t), λ t. subst (λ z. z o slot_type) (sym same_types) (slots_from c p.names b sound_here o t));
  }

  abbrev Goal : List Param → List Param → List ℕ → Type 0
  Goal front params os = (hs values : List ℕ) × (os ≡ hs ++ values) × (length hs ≡ length front) × EachIs (IsSlotObject c b style p) hs × AreTyped (Source.InTypeOf c) params values

  typed_source : (params : List Param) (os : List ℕ) → AreTyped (Printed.InTypeOf p) (map (source_param p.names c.hddl.names) params) os ↔ AreTyped (Source.InTypeOf c) params os
  typed_source = typed-source p.names c.hddl.names (Source.InTypeOf c) (Printed.InTypeOf p) types_agree.source

  lists_to : (front params : List Param) (os : List ℕ) → EachIs (λ (x : Param). x.ty ≡ slot_type) front → AreTyped (Printed.InTypeOf p) (front ++ map (source_param p.names c.hddl.names) params) os → Goal front params os
  lists_to [] params os e t = ([], os, refl, refl, tt, (typed_source params os).0 t)
  lists_to (x ∷ front) params [] e t = absurd t
  lists_to (x ∷ front) params (o ∷ os) e t =
      let (hs, values, f, l, s, v) = lists_to front params os e.1 t.1 in
      (o ∷ hs, values, ap (λ z. o ∷ z) f, ap suc l, ((types_agree.slots o).0 (subst (Printed.InTypeOf p o) e.0 t.0), s), v)

  lists_from : (front params : List Param) (hs values : List ℕ) → EachIs (λ (x : Param). x.ty ≡ slot_type) front → length hs ≡ length front → EachIs (IsSlotObject c b style p) hs → AreTyped (Source.InTypeOf c) params values
      → AreTyped (Printed.InTypeOf p) (front ++ map (source_param p.names c.hddl.names) params) (hs ++ values)
  lists_from [] params [] values e l s v = (typed_source params values).1 v
  lists_from [] params (o ∷ hs) values e l s v = absurd (omega arith)
  lists_from (x ∷ front) params [] values e l s v = absurd (omega arith)
  lists_from (x ∷ front) params (o ∷ hs) values e l s v =
      (subst (Printed.InTypeOf p o) (sym e.0) ((types_agree.slots o).1 s.0), lists_from front params hs values e.1 (omega arith) s.1 v)

  pub lists_agree : ListsAgree c b style p
  lists_agree = λ front params os e. (lists_to front params os e, λ g. back front params os e g)
    where
      back : (front params : List Param) (os : List ℕ) → EachIs (λ (x : Param). x.ty ≡ slot_type) front → Goal front params os → AreTyped (Printed.InTypeOf p) (front ++ map (source_param p.names c.hddl.names) params) os
      back front params os e (hs, values, f, l, s, v) = subst (AreTyped (Printed.InTypeOf p) (front ++ map (source_param p.names c.hddl.names) params)) (sym f) (lists_from front params hs values e l s v)
