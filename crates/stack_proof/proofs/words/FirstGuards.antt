-- The atoms of guards that are true at the beginning.
-- Source: this project's.
use Rattle.std.proofs.Common.{ℕ, zero, suc, ◌≡◌, ◌<◌, ◌↔◌, inl, inr, List, [], ◌∷◌, ◌++◌, map, length, slice_get, unwrap_or, refl, ap, sym, subst, Contains, arith}
use Rattle.plan_model.specs.declared.options.Style.TheVariants.{Adl}
use Rattle.plan_model.specs.declared.options.Checks.{Checks}
use Rattle.plan_model.specs.declared.terms.GroundAtom.{GroundAtom}
use Rattle.plan_model.specs.declared.terms.Term.TheVariants.{Obj}
use Rattle.plan_model.specs.declared.schemas.Predicate.{Predicate}
use Rattle.plan_model.specs.declared.values.Hddl.{Hddl}
use Rattle.plan_model.specs.declared.values.Compiled.{Compiled}
use Rattle.plan_model.specs.declared.values.Pddl.{Pddl}
use Rattle.std.proofs.lemmas.List.{length-map}
use Rattle.std.proofs.lemmas.List.Elements.{Contains-append_left, Contains-append_right}
use Rattle.plan_model.specs.task_networks.Spelling.{numbers}
use Rattle.plan_model.proofs.task_networks.Lists.{not-in_empty, head_or_tail}
use Rattle.plan_model.proofs.task_networks.Numbers.{to_numbers}
use Rattle.plan_texts.specs.Declared.{named}
use Rattle.plan_texts.specs.SpellsHddl.{hddl_words}
use Rattle.plan_texts.specs.Printable.{IsSoundAtom}
use Rattle.plan_texts.specs.SoundValue.{IsSoundHddl, arities}
use Rattle.plan_texts.proofs.Members.{each-has, contains-has}
use Rattle.plan_model.specs.plan_meaning.Network.{InTypeOf}
use Rattle.plan_model.specs.plan_meaning.Compilation.{once}
use Rattle.slot_encoding.specs.EncodedNames.{guard_types, first_guard, top_predicate, guard_predicate}
use Rattle.slot_encoding.specs.EncodedValue.{same_atom, atom, AreGuardAtoms}
use Rattle.plan_model.proofs.plan_meaning.Pairs.{once_to, map_to, append_to}
use Rattle.slot_encoding.proofs.Pieces.{GuardAtomsAgree}
use Rattle.slot_encoding.proofs.places.ListPlaces.{get_within}
use Rattle.slot_encoding.proofs.places.KeptItems.{keeps_to, to_keeps, position_at}
use Rattle.stack_encoding.specs.StackNames.{tip_predicate, cell_object}
use Rattle.stack_encoding.specs.StackValue.{up_fact, first_atoms, IsInitial}
use Rattle.stack_encoding.proofs.places.StackWorded.{IsStackWorded}
use Rattle.stack_encoding.proofs.places.StackTypes.{stack_sound}

module _ (c : Compiled) (names : List (List ℕ)) (b : ℕ) where
  abbrev ups : List GroundAtom
  ups = map (up_fact c names b) (numbers 0 b)

  abbrev sources : List GroundAtom
  sources = once same_atom c.hddl.init

  -- the guard predicates of two types differ
  guard_once : (s t : ℕ) → Contains (guard_types c) s → Contains (guard_types c) t → guard_predicate c s ≡ guard_predicate c t → s ≡ t
  guard_once s t m n e =
      let (j, f, g) = position_at s (guard_types c) m in
      let (k, h, i) = position_at t (guard_types c) n in
      let a = ap (λ z. unwrap_or z 0) f in
      let b = ap (λ z. unwrap_or z 0) h in
      let same : j ≡ k = omega arith in
      let l = ap (slice_get (guard_types c)) same in
      cc

  -- the atoms of these types
  of_types : (tys : List ℕ) (atoms : List GroundAtom) → AreGuardAtoms c names b Adl tys atoms → (g : GroundAtom) → Contains atoms g → (ty o : ℕ) × Contains tys ty × InTypeOf c o ty × (atom (guard_predicate c ty) o ≡ g)
  of_types [] atoms a g m = absurd (not-in_empty g (subst (λ z. Contains z g) a m))
  of_types (ty ∷ tys) atoms (members, rest, k, e, a) g m = elim (append_to (map (atom (guard_predicate c ty)) members) rest g (subst (λ z. Contains z g) e m)) [
    | inl d ↦ (let (o, n, f) = map_to (atom (guard_predicate c ty)) members g d in (ty, o, (0, omega arith, refl), (keeps_to (λ o. InTypeOf c o ty) (numbers 0 (length c.hddl.objects)) members k o n).1, f))
    | inr d ↦ (let (t, o, n, i, f) = of_types tys rest a g d in (t, o, later t n, i, f))
  ]
    where
      later : (t : ℕ) → Contains tys t → Contains (ty ∷ tys) t
      later t (j, l, f) = (suc j, omega arith, f)

  in_map : (f : ℕ → GroundAtom) (xs : List ℕ) (x : ℕ) → Contains xs x → Contains (map f xs) (f x)
  in_map f [] x m = absurd (not-in_empty x m)
  in_map f (y ∷ xs) x (zero, l, e) = (0, omega arith, ap f e)
  in_map f (y ∷ xs) x (suc j, l, e) = let (k, n, g) = in_map f xs x (j, omega arith, e) in (suc k, omega arith, g)

  to_types : (tys : List ℕ) (atoms : List GroundAtom) → AreGuardAtoms c names b Adl tys atoms → (ty o : ℕ) → Contains tys ty → InTypeOf c o ty → Contains atoms (atom (guard_predicate c ty) o)
  to_types [] atoms a ty o m i = absurd (not-in_empty ty m)
  to_types (t ∷ tys) atoms (members, rest, k, e, a) ty o m i = subst (λ z. Contains z (atom (guard_predicate c ty) o)) (sym e) (elim (head_or_tail t tys ty m) [
    | inl f ↦ Contains-append_left (map (atom (guard_predicate c t)) members) rest (atom (guard_predicate c ty) o) (subst (λ z. Contains (map (atom (guard_predicate c t)) members) (atom (guard_predicate c z) o)) f (in_map (atom (guard_predicate c t)) members o (to_keeps (λ o. InTypeOf c o t) (numbers 0 (length c.hddl.objects)) members k o (to_numbers 0 (length c.hddl.objects) o (omega arith) (let l = get_within c.hddl.objects o i.0 i.1 in omega arith)) (subst (InTypeOf c o) (sym f) i))))
    | inr d ↦ Contains-append_right (map (atom (guard_predicate c t)) members) rest (atom (guard_predicate c ty) o) (to_types tys rest a ty o d i)
  ])

  module _ (sound : IsSoundHddl c.hddl) where
    source_atom_below : (g : GroundAtom) → Contains c.hddl.init g → g.predicate < length c.hddl.predicates
    source_atom_below g m =
        let s = each-has (λ (g : GroundAtom). IsSoundAtom (hddl_words c.hddl) (arities c.hddl) [] g.predicate (map Obj g.args)) c.hddl.init g sound.init (contains-has c.hddl.init g m) in
        let l = s.0 in let e = length-map c.hddl.predicates (λ (d : Predicate). named c.hddl.names d.name) in
        omega arith

    -- the other atoms are of lower predicates
    first_below : (g : GroundAtom) → Contains (first_atoms c names b) g → g.predicate < first_guard c
    first_below g m = elim (head_or_tail (atom (top_predicate c) (cell_object c 1)) (atom (tip_predicate c) (cell_object c 1) ∷ ups ++ sources) g m) [
      | inl e ↦ (let f = ap (λ (z : GroundAtom). z.predicate) e in omega arith)
      | inr d ↦ elim (head_or_tail (atom (tip_predicate c) (cell_object c 1)) (ups ++ sources) g d) [
        | inl e ↦ (let f = ap (λ (z : GroundAtom). z.predicate) e in omega arith)
        | inr k ↦ elim (append_to ups sources g k) [
          | inl n ↦ (let (k, i, e) = map_to (up_fact c names b) (numbers 0 b) g n in let f = ap (λ (z : GroundAtom). z.predicate) e in omega arith)
          | inr n ↦ (let l = source_atom_below g (once_to same_atom c.hddl.init g n) in omega arith)
        ]
      ]
    ]

    guard_atoms : (init : List GroundAtom) → IsInitial c names b init → (ty o : ℕ) → Contains (guard_types c) ty → Contains init (atom (guard_predicate c ty) o) ↔ InTypeOf c o ty
    guard_atoms init (guards, a, e) ty o m = (to, from)
      where
        to : Contains init (atom (guard_predicate c ty) o) → InTypeOf c o ty
        to d = elim (append_to (first_atoms c names b) guards (atom (guard_predicate c ty) o) (subst (λ z. Contains z (atom (guard_predicate c ty) o)) e d)) [
          | inl n ↦ absurd (let l = first_below (atom (guard_predicate c ty) o) n in omega arith)
          | inr n ↦ (
              let (t, x, k, i, f) = of_types (guard_types c) guards a (atom (guard_predicate c ty) o) n in
              let same : t ≡ ty = guard_once t ty k m (ap (λ (z : GroundAtom). z.predicate) f) in
              let h : x ∷ [] ≡ o ∷ [] = ap (λ (z : GroundAtom). z.args) f in
              subst (InTypeOf c o) same (subst (λ z. InTypeOf c z t) (let j : x ≡ o = cc in j) i)
              )
        ]

        from : InTypeOf c o ty → Contains init (atom (guard_predicate c ty) o)
        from i = subst (λ z. Contains z (atom (guard_predicate c ty) o)) (sym e) (Contains-append_right (first_atoms c names b) guards (atom (guard_predicate c ty) o) (to_types (guard_types c) guards a ty o m i))

-- of the printed problem
pub guard_atoms_agree : (h : Hddl) (mode : Checks) (c : Compiled) (b : ℕ) (p : Pddl) → IsStackWorded h mode c b p → GuardAtomsAgree c b Adl p
guard_atoms_agree h mode c b p is = guard_atoms c p.names b (stack_sound h mode c b p is) p.init is.encoded.init
