-- The objects of the printed types of a stack: those of a source type are the source's, and those of the type of slots the cells 0 to b.
-- Said as with slots, of which there would be one more than b.
use Rattle.std.proofs.Common.{ℕ, suc, ◌≡◌, ◌+◌, ◌-◌, ◌<◌, ◌≤◌, ◌↔◌, inl, inr, List, [], ◌∷◌, ◌++◌, map, length, refl, ap, sym, subst, arith}
use Rattle.plan_model.specs.declared.options.Style.TheVariants.{Adl}
use Rattle.plan_model.specs.declared.options.Checks.{Checks}
use Rattle.plan_model.specs.declared.types.Object.{Object}
use Rattle.plan_model.specs.declared.types.Types.{Types}
use Rattle.plan_model.specs.declared.terms.Param.{Param}
use Rattle.plan_model.specs.declared.values.Hddl.{Hddl}
use Rattle.plan_model.specs.declared.values.Compiled.{Compiled}
use Rattle.plan_model.specs.declared.values.Pddl.{Pddl}
use Rattle.plan_model.specs.Typing.{stay, IsPart, InType}
use Rattle.plan_model.specs.plan_meaning.Truth.{AreTyped}
use Rattle.plan_model.specs.plan_meaning.Compilation.{IsCompiled}
use Rattle.plan_model.specs.plan_meaning.Network as Source
use Rattle.plan_model.specs.plan_meaning.ClassicalPlan as Printed
use Rattle.plan_texts.specs.Types.{EachIs}
use Rattle.plan_texts.specs.SoundValue.{IsSoundHddl}
use Rattle.slot_encoding.specs.SourceParts.{retyped, source_param}
use Rattle.slot_encoding.specs.EncodedNames.{slot_type, first_slot, encoded_types}
use Rattle.slot_encoding.proofs.Pieces.{TypesAgree, IsSlotObject, ListsAgree}
use Rattle.slot_encoding.proofs.places.ObjectPlaces.{printed_object, printed_slot}
use Rattle.slot_encoding.proofs.places.PrintedTypes.{part_to, part_from, slot_apart, apart_from_slots}
use Rattle.slot_encoding.proofs.places.SourceFormulas.{typed-source}
use Rattle.slot_encoding.proofs.places.SoundTypes.{some_type, leads_up, object_typed}
use Rattle.stack_encoding.specs.StackNames.{cell_object, stack_objects}
use Rattle.stack_encoding.proofs.places.CellPlaces.{object_cases, object_at, cell_at}
use Rattle.stack_encoding.proofs.places.StackWorded.{IsStackWorded}

module _ (c : Compiled) (names : List (List ℕ)) (b : ℕ) (sound : IsSoundHddl c.hddl) where
  abbrev types : Types
  types = encoded_types c names b

  abbrev IsOf : ℕ → ℕ → Type 0
  IsOf = InType (encoded_types c names b) (stack_objects c names b)

  abbrev Part : ℕ → Object → Type 0
  Part ty x = IsPart types x.ty ty

  some : 0 < length c.hddl.types.names
  some = some_type c.hddl sound

  to_source : (o ty : ℕ) → IsOf o (retyped ty) → Source.InTypeOf c o ty
  to_source o ty (y, e, part) = elim (object_cases c names b o y e) [
    | inl (x, f, g) ↦ (x, f, part_to c names b some x.ty ty (subst (Part (retyped ty)) (sym g) part))
    | inr (k, l, f, g) ↦ absurd (slot_apart c names b some ty (subst (Part (retyped ty)) (sym g) part))
  ]

  of_source : (o ty : ℕ) → Source.InTypeOf c o ty → IsOf o (retyped ty)
  of_source o ty (x, e, part) =
      let up = leads_up c.hddl sound x.ty (object_typed c.hddl sound o x e) in
      (printed_object c names b x, object_at c names b o x e, part_from c names b some x.ty ty up part)

  to_cell : (o : ℕ) → IsOf o slot_type → (first_slot c ≤ o) × (o < first_slot c + suc b)
  to_cell o (y, e, part) = elim (object_cases c names b o y e) [
    | inl (x, f, g) ↦ absurd (apart_from_slots c names b some x.ty (subst (Part 1) (sym g) part))
    | inr (k, l, f, g) ↦ (omega arith, omega arith)
  ]

  of_cell : (o : ℕ) → (first_slot c ≤ o) × (o < first_slot c + suc b) → IsOf o slot_type
  of_cell o (l, m) =
      let k = o - first_slot c in
      let e : cell_object c k ≡ o = omega arith in
      subst (λ z. IsOf z slot_type) e (printed_slot c names b k, cell_at c names b k (omega arith), inl (inr stay))

module _ (h : Hddl) (mode : Checks) (c : Compiled) (b : ℕ) (p : Pddl) (is : IsStackWorded h mode c b p) where
  pub stack_sound : IsSoundHddl c.hddl
  stack_sound = subst IsSoundHddl (sym is.compiled.hddl) is.sound

  pub stack_compiled : IsCompiled c.hddl mode c
  stack_compiled = subst (λ z. IsCompiled z mode c) (sym is.compiled.hddl) is.compiled

  same : Printed.InTypeOf p ≡ InType (encoded_types c p.names b) (stack_objects c p.names b)
  same = λ i o ty. InType (is.encoded.types i) (is.encoded.objects i) o ty

  over : (o ty : ℕ) (P : Type 0) → InType (encoded_types c p.names b) (stack_objects c p.names b) o ty ↔ P → Printed.InTypeOf p o ty ↔ P
  over o ty P both = subst (λ z. z o ty ↔ P) (sym same) both

  pub stack_types_agree : TypesAgree c (suc b) Adl p
  stack_types_agree = record {
    source = λ o ty. over o (retyped ty) (Source.InTypeOf c o ty) (to_source c p.names b stack_sound o ty, of_source c p.names b stack_sound o ty);
    slots = λ o. over o slot_type ((first_slot c ≤ o) × (o < first_slot c + suc b)) (to_cell c p.names b stack_sound o, of_cell c p.names b stack_sound o);
  }

  abbrev IsCellObject : ℕ → Type 0
  IsCellObject = IsSlotObject c (suc b) Adl p

  abbrev Are : List Param → List ℕ → Type 0
  Are = AreTyped (Printed.InTypeOf p)

  -- a list of parameters in two parts
  parted : (xs ys : List Param) (os : List ℕ) → Are (xs ++ ys) os → (us vs : List ℕ) × (os ≡ us ++ vs) × Are xs us × Are ys vs
  parted [] ys os t = ([], os, refl, tt, t)
  parted (x ∷ xs) ys [] t = absurd t
  parted (x ∷ xs) ys (o ∷ os) t = let (us, vs, e, s, r) = parted xs ys os t.1 in (o ∷ us, vs, ap (λ z. o ∷ z) e, (t.0, s), r)

  put : (xs ys : List Param) (us vs : List ℕ) → Are xs us → Are ys vs → Are (xs ++ ys) (us ++ vs)
  put [] ys [] vs s r = r
  put [] ys (u ∷ us) vs s r = absurd s
  put (x ∷ xs) ys [] vs s r = absurd s
  put (x ∷ xs) ys (u ∷ us) vs s r = (s.0, put xs ys us vs s.1 r)

  cells_typed : (xs : List Param) (us : List ℕ) → EachIs (λ (x : Param). x.ty ≡ slot_type) xs → Are xs us ↔ ((length us ≡ length xs) × EachIs IsCellObject us)
  cells_typed [] [] e = (λ t. (refl, tt), λ t. tt)
  cells_typed [] (u ∷ us) e = (λ t. absurd t, λ t. absurd (let l = t.0 in omega arith))
  cells_typed (x ∷ xs) [] e = (λ t. absurd t, λ t. absurd (let l = t.0 in omega arith))
  cells_typed (x ∷ xs) (u ∷ us) e =
      let rest = cells_typed xs us e.1 in
      let one = stack_types_agree.slots u in (
        λ t. (let r = rest.0 t.1 in (ap suc r.0, (one.0 (subst (Printed.InTypeOf p u) e.0 t.0), r.1))),
        λ t. (let l = t.0 in (subst (Printed.InTypeOf p u) (sym e.0) (one.1 t.1.0), rest.1 (omega arith, t.1.1))),
      )

  pub stack_lists_agree : ListsAgree c (suc b) Adl p
  stack_lists_agree front params os e = (
    λ t. (let (us, vs, f, s, r) = parted front own os t in let k = (cells_typed front us e).0 s in (us, vs, f, k.0, k.1, (typed params vs).0 r)),
    λ t. back t,
  )
    where
      own : List Param
      own = map (source_param p.names c.hddl.names) params

      typed : (xs : List Param) (vs : List ℕ) → Are (map (source_param p.names c.hddl.names) xs) vs ↔ AreTyped (Source.InTypeOf c) xs vs
      typed = typed-source p.names c.hddl.names (Source.InTypeOf c) (Printed.InTypeOf p) stack_types_agree.source

      back : (us vs : List ℕ) × (os ≡ us ++ vs) × (length us ≡ length front) × EachIs IsCellObject us × AreTyped (Source.InTypeOf c) params vs → Are (front ++ map (source_param p.names c.hddl.names) params) os
      back (us, vs, f, l, k, r) = subst (Are (front ++ map (source_param p.names c.hddl.names) params)) (sym f) (put front (map (source_param p.names c.hddl.names) params) us vs ((cells_typed front us e).1 (l, k)) ((typed params vs).1 r))
