-- The objects of the printed problem: those of the source, and behind them the slots.
use Rattle.std.proofs.Common.{ℕ, suc, ◌≡◌, ◌+◌, ◌<◌, ◌⊎◌, inl, inr, true, List, map, length, slice_get, Some, ap, subst, ◌∙◌, arith}
use Rattle.std.proofs.lemmas.List.{length-map}
use Rattle.htn_base.specs.Escapes.{slot_word}
use Rattle.plan_model.specs.declared.types.Object.{Object}
use Rattle.plan_model.specs.declared.values.Compiled.{Compiled}
use Rattle.plan_model.specs.task_networks.Spelling.{numbers}
use Rattle.plan_model.proofs.task_networks.Numbers.{length-numbers}
use Rattle.slot_encoding.specs.SourceParts.{name, renamed, retyped}
use Rattle.slot_encoding.specs.EncodedNames.{slot_type, first_slot, encoded_objects}
use Rattle.slot_encoding.proofs.places.ListPlaces.{get_append_cases, get_left, get_right, get_map_cases, get_to_map, get_numbers, to_get_numbers, length-joined}

module _ (c : Compiled) (names : List (List ℕ)) (b : ℕ) where
  abbrev pub printed_object : Object → Object
  printed_object x = record { name = renamed names c.hddl.names x.name; ty = retyped x.ty; constant = true }

  abbrev pub printed_slot : ℕ → Object
  printed_slot k = record { name = name names (slot_word k); ty = slot_type; constant = true }

  abbrev objects : List Object
  objects = map printed_object c.hddl.objects

  abbrev slots : List Object
  slots = map printed_slot (numbers 1 b)

  pub object_cases : (o : ℕ) (y : Object) → slice_get (encoded_objects c names b) o ≡ Some y
      → ((x : Object) × (slice_get c.hddl.objects o ≡ Some x) × (printed_object x ≡ y)) ⊎ ((k : ℕ) × (k < b) × (o ≡ first_slot c + k) × (printed_slot (suc k) ≡ y))
  object_cases o y e = elim (get_append_cases objects slots o y e) [
    | inl f ↦ inl (get_map_cases printed_object c.hddl.objects o y f)
    | inr (j, f, g) ↦ inr (
        let (x, h, i) = get_map_cases printed_slot (numbers 1 b) j y g in
        let (m, l) = get_numbers 1 b j x h in
        let n : x ≡ suc j = omega arith in
        (j, l, f ∙ ap (λ z. z + j) (length-map c.hddl.objects printed_object), subst (λ z. printed_slot z ≡ y) n i)
        )
  ]

  pub object_at : (o : ℕ) (x : Object) → slice_get c.hddl.objects o ≡ Some x → slice_get (encoded_objects c names b) o ≡ Some (printed_object x)
  object_at o x e = get_left objects slots o (printed_object x) (get_to_map printed_object c.hddl.objects o x e)

  pub slot_at : (k : ℕ) → k < b → slice_get (encoded_objects c names b) (first_slot c + k) ≡ Some (printed_slot (suc k))
  slot_at k l =
      let h = get_right objects slots k (printed_slot (1 + k)) (get_to_map printed_slot (numbers 1 b) k (1 + k) (to_get_numbers 1 b k l)) in
      let n : length objects + k ≡ first_slot c + k = ap (λ z. z + k) (length-map c.hddl.objects printed_object) in
      let m : 1 + k ≡ suc k = omega arith in
      subst (λ z. slice_get (encoded_objects c names b) (first_slot c + k) ≡ Some (printed_slot z)) m (subst (λ z. slice_get (encoded_objects c names b) z ≡ Some (printed_slot (1 + k))) n h)

  pub length-objects : length (encoded_objects c names b) ≡ first_slot c + b
  length-objects = omega (arith, length-joined objects slots, length-map c.hddl.objects printed_object, length-map (numbers 1 b) printed_slot, length-numbers 1 b)
