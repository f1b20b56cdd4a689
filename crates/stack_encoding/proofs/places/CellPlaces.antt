-- The objects of the printed problem of a stack: those of the source, and behind them the cells from 0 on.
use Rattle.std.proofs.Common.{ℕ, suc, ◌≡◌, ◌+◌, ◌≤◌, ◌⊎◌, inl, inr, List, map, length, slice_get, Some, ap, subst, ◌∙◌, arith}
use Rattle.std.proofs.lemmas.List.{length-map}
use Rattle.plan_model.specs.declared.types.Object.{Object}
use Rattle.plan_model.specs.declared.values.Compiled.{Compiled}
use Rattle.plan_model.specs.task_networks.Spelling.{numbers}
use Rattle.plan_model.proofs.task_networks.Numbers.{length-numbers}
use Rattle.slot_encoding.proofs.places.ListPlaces.{get_append_cases, get_left, get_right, get_map_cases, get_to_map, get_numbers, to_get_numbers, length-joined}
use Rattle.slot_encoding.proofs.places.ObjectPlaces.{printed_object, printed_slot}
use Rattle.stack_encoding.specs.StackNames.{cell_object, stack_objects}

module _ (c : Compiled) (names : List (List ℕ)) (b : ℕ) where
  abbrev own : List Object
  own = map (printed_object c names b) c.hddl.objects

  abbrev cells : List Object
  cells = map (printed_slot c names b) (numbers 0 (suc b))

  length-own : length own ≡ length c.hddl.objects
  length-own = length-map c.hddl.objects (printed_object c names b)

  pub object_cases : (o : ℕ) (y : Object) → slice_get (stack_objects c names b) o ≡ Some y
      → ((x : Object) × (slice_get c.hddl.objects o ≡ Some x) × (printed_object c names b x ≡ y)) ⊎ ((k : ℕ) × (k ≤ b) × (o ≡ cell_object c k) × (printed_slot c names b k ≡ y))
  object_cases o y e = elim (get_append_cases own cells o y e) [
    | inl f ↦ inl (get_map_cases (printed_object c names b) c.hddl.objects o y f)
    | inr (j, f, g) ↦ inr (
        let (k, h, i) = get_map_cases (printed_slot c names b) (numbers 0 (suc b)) j y g in
        let (m, l) = get_numbers 0 (suc b) j k h in
        (k, omega arith, (let n = length-own in omega arith), i)
        )
  ]

  pub object_at : (o : ℕ) (x : Object) → slice_get c.hddl.objects o ≡ Some x → slice_get (stack_objects c names b) o ≡ Some (printed_object c names b x)
  object_at o x e = get_left own cells o (printed_object c names b x) (get_to_map (printed_object c names b) c.hddl.objects o x e)

  pub cell_at : (k : ℕ) → k ≤ b → slice_get (stack_objects c names b) (cell_object c k) ≡ Some (printed_slot c names b k)
  cell_at k l =
      let n : 0 + k ≡ k = omega arith in
      let h = get_right own cells k (printed_slot c names b k) (get_to_map (printed_slot c names b) (numbers 0 (suc b)) k k (to_get_numbers 0 (suc b) k (omega arith) ∙ ap Some n)) in
      subst (λ z. slice_get (stack_objects c names b) (z + k) ≡ Some (printed_slot c names b k)) length-own h

  pub length-objects : length (stack_objects c names b) ≡ suc (cell_object c b)
  length-objects = omega (arith, length-joined own cells, length-own, length-map (numbers 0 (suc b)) (printed_slot c names b), length-numbers 0 (suc b))
