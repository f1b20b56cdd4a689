-- A method with children: what its printed action's effect does.
use Rattle.std.proofs.Common.{ℕ, zero, suc, ◌≡◌, ◌↔◌, ◌⊎◌, ◌+◌, ◌<◌, inl, inr, List, [], ◌∷◌, ◌++◌, map, length, slice_index, slice_get, Some, refl, ap, sym, subst, ◌∙◌, arith}
use Rattle.std.proofs.lemmas.List.{length-map}
use Rattle.plan_model.specs.declared.terms.Atom.{Atom}
use Rattle.plan_model.specs.declared.terms.GroundAtom.{GroundAtom}
use Rattle.plan_model.specs.declared.effects.Effect.{Effect}
use Rattle.plan_model.specs.declared.effects.Effect.TheVariants as E
use Rattle.plan_model.specs.declared.networks.Child.{Child}
use Rattle.plan_model.specs.declared.schemas.MethodPlan.{MethodPlan}
use Rattle.plan_model.specs.declared.values.Compiled.{Compiled}
use Rattle.plan_model.specs.declared.values.Pddl.{Pddl}
use Rattle.plan_model.specs.task_networks.Net.{Net, count}
use Rattle.plan_model.specs.task_networks.Spelling.{numbers}
use Rattle.plan_model.proofs.task_networks.Numbers.{length-numbers}
use Rattle.plan_model.specs.plan_meaning.Truth.{State, ground, AreTyped, OneTrue, Adds, Deletes}
use Rattle.plan_model.specs.plan_meaning.ClassicalPlan as Printed
use Rattle.plan_model.specs.plan_meaning.Network.{Work, GroundMethod, network, InTypeOf, child_of}
use Rattle.plan_model.proofs.plan_meaning.EachPart.{one_map}
use Rattle.plan_model.proofs.plan_meaning.MethodParts.{works_by}
use Rattle.plan_model.proofs.plan_meaning.EffectEquations.{adds-And, adds-Add, adds-Delete, deletes-And, deletes-Add, deletes-Delete}
use Rattle.slot_machine.specs.Machine.{IsSlotOf}
use Rattle.slot_machine.proofs.OtherChildren.{index-map_numbers}
use Rattle.slot_encoding.specs.MethodParts.{child_in, children_in}
use Rattle.slot_encoding.proofs.places.ListPlaces.{get_map_cases, get_to_map, get_contains}
use Rattle.slot_encoding.proofs.places.Sums.{one-append}
use Rattle.stack_machine.specs.Stack.{behind, AreCellsFrom}
use Rattle.stack_encoding.specs.StackNames.{cell_object}
use Rattle.stack_encoding.specs.StackActions.{is_tip, child_cells, climbing, method_eff}
use Rattle.stack_proof.proofs.machine.StackReading.{held, tip_atom}
use Rattle.stack_proof.proofs.machine.StackFacts.{StackPieces}
use Rattle.stack_proof.proofs.machine.Asked.{child_ground}
use Rattle.stack_proof.proofs.machine.ChildCells.{child_cell, few_behind}
use Rattle.stack_proof.proofs.machine.Climbing as Climbing
use Rattle.stack_proof.proofs.machine.Climbing.{xs, cells, long, head}

module _ (c : Compiled) (b : ℕ) (p : Pddl) (means : StackPieces c b p) (S : State) (h : ℕ) (g : GroundMethod) (plan : MethodPlan) (is : slice_get c.methods g.number ≡ Some plan)
    (n : ℕ) (many : length plan.schema.children ≡ suc n) where
  abbrev N : Net
  N = network c

  abbrev InT : ℕ → ℕ → Type 0
  InT = Printed.InTypeOf p

  abbrev vs : List ℕ
  vs = xs c b p means S h g plan is n many

  abbrev at : Atom
  at = head c b p means S h g plan is n many

  at_ground : ground vs at ≡ held c b p h (N.head g)
  at_ground = Climbing.head_ground c b p means S h g plan is n many

  cell_at : (k : ℕ) → k < suc n → slice_index vs k ≡ cell_object c (h + k)
  cell_at = Climbing.cell_at c b p means S h g plan is n many

  many_works : count N g ≡ suc n
  many_works = Climbing.count_many c b p means S h g plan is n many

  abbrev A : GroundAtom → Effect → List ℕ → Type 0
  A a e v = Adds InT S e v a

  abbrev D : GroundAtom → Effect → List ℕ → Type 0
  D a e v = Deletes InT S e v a

  -- where the tip goes
  climb_adds : (a : GroundAtom) (k : ℕ) → k < suc n → OneTrue (A a) (climbing c p.names b k) vs ↔ ((0 < k) × (a ≡ tip_atom c b p (h + k)))
  climb_adds a zero l = (λ x. absurd x, λ x. absurd (let y = x.0 in omega arith))
  climb_adds a (suc k) l = (to, λ x. inr (inl (subst (λ z. z vs a) (sym (adds-Add InT S (is_tip c p.names b (suc k)))) (x.1 ∙ sym value))))
    where
      value : ground vs (is_tip c p.names b (suc k)) ≡ tip_atom c b p (h + suc k)
      value = let e = cell_at (suc k) l in λ i. record { predicate = (tip_atom c b p h).predicate; args = e i ∷ [] }

      to : OneTrue (A a) (climbing c p.names b (suc k)) vs → (0 < suc k) × (a ≡ tip_atom c b p (h + suc k))
      to (inl x) = absurd (subst (λ z. z vs a) (adds-Delete InT S (is_tip c p.names b 0)) x)
      to (inr (inl x)) = (omega arith, subst (λ z. z vs a) (adds-Add InT S (is_tip c p.names b (suc k))) x ∙ value)
      to (inr (inr x)) = absurd x

  climb_deletes : (a : GroundAtom) (k : ℕ) → OneTrue (D a) (climbing c p.names b k) vs ↔ ((0 < k) × (a ≡ tip_atom c b p h))
  climb_deletes a zero = (λ x. absurd x, λ x. absurd (let y = x.0 in omega arith))
  climb_deletes a (suc k) = (to, λ x. inl (subst (λ z. z vs a) (sym (deletes-Delete InT S (is_tip c p.names b 0))) x.1))
    where
      to : OneTrue (D a) (climbing c p.names b (suc k)) vs → (0 < suc k) × (a ≡ tip_atom c b p h)
      to (inl x) = (omega arith, subst (λ z. z vs a) (deletes-Delete InT S (is_tip c p.names b 0)) x)
      to (inr (inl x)) = absurd (subst (λ z. z vs a) (deletes-Add InT S (is_tip c p.names b (suc k))) x)
      to (inr (inr x)) = absurd x

  -- the children's atoms
  abbrev kid : ℕ → Child → Atom
  kid v child = child_in c p.names (suc n) g.number v child

  abbrev kids_of : List ℕ → List Child → List Atom
  kids_of us cs = children_in c p.names (suc n) g.number us cs

  atoms_add : (a : GroundAtom) (us : List ℕ) (cs : List Child) → OneTrue (A a) (map E.Add (kids_of us cs)) vs
      ↔ ((i : ℕ) × (child : Child) × (i < length us) × (slice_get cs i ≡ Some child) × (a ≡ ground vs (kid (slice_index us i) child)))
  atoms_add a [] cs = (λ k. absurd k, λ k. absurd (let l = k.2 in omega arith))
  atoms_add a (v ∷ us) [] = (λ k. absurd k, λ k. absurd (let e = k.3 in cc))
  atoms_add a (v ∷ us) (child ∷ cs) =
      let ih = atoms_add a us cs in
      let e = adds-Add InT S (kid v child) in (
        λ k. elim k [ inl x ↦ (0, child, omega arith, refl, subst (λ z. z vs a) e x) | inr x ↦ (let s = ih.0 x in (suc s.0, s.1, (let l = s.2 in omega arith), s.3, s.4)) ],
        λ k. from k.0 k.1 k.2 k.3 k.4 ih.1,
      )
    where
      from : (i : ℕ) (c' : Child) → i < suc (length us) → slice_get (child ∷ cs) i ≡ Some c' → a ≡ ground vs (kid (slice_index (v ∷ us) i) c')
          → (((i : ℕ) × (c' : Child) × (i < length us) × (slice_get cs i ≡ Some c') × (a ≡ ground vs (kid (slice_index us i) c'))) → OneTrue (A a) (map E.Add (kids_of us cs)) vs)
          → A a (E.Add (kid v child)) vs ⊎ OneTrue (A a) (map E.Add (kids_of us cs)) vs
      from zero c' l f q ih = inl (subst (λ z. z vs a) (sym (adds-Add InT S (kid v child))) (let x : c' ≡ child = cc in subst (λ z. a ≡ ground vs (kid v z)) x q))
      from (suc i) c' l f q ih = inr (ih (i, c', omega arith, f, q))

  atoms_delete : (a : GroundAtom) (us : List ℕ) (cs : List Child) → OneTrue (D a) (map E.Add (kids_of us cs)) vs → ⊥
  atoms_delete a us cs k =
      let s = (one_map (D a) E.Add (kids_of us cs) vs).0 k in
      subst (λ z. z vs a) (deletes-Add InT S s.0) s.2

  module _ (new : List ℕ) (new_cells : AreCellsFrom N h g new) (typed : AreTyped (InTypeOf c) plan.schema.params g.values) where
    -- what comes into which cell
    abbrev pub Comes : ℕ → Work → Type 0
    Comes x w = (i : ℕ) × IsSlotOf N h new g i x × (slice_get (N.works g) i ≡ Some w)

    works : N.works g ≡ map (child_of g) plan.schema.children
    works = ap (works_by g) is

    abbrev vars : List ℕ
    vars = child_cells c p.names b plan

    vars_long : length vars ≡ suc n
    vars_long = length-map (numbers 0 (length plan.schema.children)) (behind plan.line) ∙ length-numbers 0 (length plan.schema.children) ∙ many

    kid_value : (i : ℕ) → i < suc n → slice_index vs (slice_index vars i) ≡ cell_object c (h + behind plan.line i)
    kid_value i l =
        let q : 0 + i ≡ i = omega arith in
        let f = few_behind c b p means g plan is i (let e = many_works in omega arith) in
        ap (slice_index vs) (index-map_numbers (behind plan.line) 0 (length plan.schema.children) i (omega (arith, many)) ∙ ap (behind plan.line) q) ∙ cell_at (behind plan.line i) (let e = many_works in omega arith)

    kids_add : (a : GroundAtom) → OneTrue (A a) (map E.Add (kids_of vars plan.schema.children)) vs ↔ ((x : ℕ) × (w : Work) × Comes x w × (a ≡ held c b p x w))
    kids_add a = (to, from)
      where
        k : OneTrue (A a) (map E.Add (kids_of vars plan.schema.children)) vs
            ↔ ((i : ℕ) × (child : Child) × (i < length vars) × (slice_get plan.schema.children i ≡ Some child) × (a ≡ ground vs (kid (slice_index vars i) child)))
        k = atoms_add a vars plan.schema.children

        to : OneTrue (A a) (map E.Add (kids_of vars plan.schema.children)) vs → (x : ℕ) × (w : Work) × Comes x w × (a ≡ held c b p x w)
        to o =
            let (i, child, l, e, q) = k.0 o in
            let small : i < suc n = omega (arith, vars_long) in
            let x = h + behind plan.line i in (
              x,
              child_of g child,
              (i, (child_cell c b p means g plan is h new new_cells i x).1 (omega (arith, many_works), refl), ap (λ z. slice_get z i) works ∙ get_to_map (child_of g) plan.schema.children i child e),
              q ∙ child_ground c b p means g plan is (suc n) (cells c b p means S h g plan is n many) (long c b p means S h g plan is n many) typed child (slice_index vars i) x (get_contains plan.schema.children i child e) (kid_value i small),
            )

        from : (x : ℕ) × (w : Work) × Comes x w × (a ≡ held c b p x w) → OneTrue (A a) (map E.Add (kids_of vars plan.schema.children)) vs
        from (x, w, (i, s, e), q) =
            let (child, f, y) = get_map_cases (child_of g) plan.schema.children i w (sym (ap (λ z. slice_get z i) works) ∙ e) in
            let (l, z) = (child_cell c b p means g plan is h new new_cells i x).0 s in
            let small : i < suc n = omega (arith, many_works) in
            let value : slice_index vs (slice_index vars i) ≡ cell_object c x = kid_value i small ∙ ap (cell_object c) (sym z) in
            k.1 (i, child, omega (arith, vars_long), f, q ∙ ap (held c b p x) (sym y) ∙ sym (child_ground c b p means g plan is (suc n) (cells c b p means S h g plan is n many) (long c b p means S h g plan is n many) typed child (slice_index vars i) x (get_contains plan.schema.children i child f) value))

    abbrev eff : Effect
    eff = E.And (method_eff c p.names b g.number plan (suc n))

    abbrev es : List Effect
    es = map E.Add (kids_of vars plan.schema.children)

    pub climbing_adds : (a : GroundAtom) → A a eff vs ↔ (((x : ℕ) × (w : Work) × Comes x w × (a ≡ held c b p x w)) ⊎ ((0 < n) × (a ≡ tip_atom c b p (h + n))))
    climbing_adds a = (λ k. to (subst (λ z. z vs a) e k), λ k. subst (λ z. z vs a) (sym e) (from k))
      where
        e : Adds InT S eff ≡ (λ v a. OneTrue (A a) (E.Delete at ∷ es ++ climbing c p.names b n) v)
        e = adds-And InT S (E.Delete at ∷ es ++ climbing c p.names b n)

        two : OneTrue (A a) (es ++ climbing c p.names b n) vs ↔ (OneTrue (A a) es vs ⊎ OneTrue (A a) (climbing c p.names b n) vs)
        two = one-append (A a) es (climbing c p.names b n) vs

        to : OneTrue (A a) (E.Delete at ∷ es ++ climbing c p.names b n) vs → ((x : ℕ) × (w : Work) × Comes x w × (a ≡ held c b p x w)) ⊎ ((0 < n) × (a ≡ tip_atom c b p (h + n)))
        to (inl x) = absurd (subst (λ z. z vs a) (adds-Delete InT S at) x)
        to (inr x) = elim (two.0 x) [ inl y ↦ inl ((kids_add a).0 y) | inr y ↦ inr ((climb_adds a n (omega arith)).0 y) ]

        from : ((x : ℕ) × (w : Work) × Comes x w × (a ≡ held c b p x w)) ⊎ ((0 < n) × (a ≡ tip_atom c b p (h + n))) → OneTrue (A a) (E.Delete at ∷ es ++ climbing c p.names b n) vs
        from (inl x) = inr (two.1 (inl ((kids_add a).1 x)))
        from (inr x) = inr (two.1 (inr ((climb_adds a n (omega arith)).1 x)))

    pub climbing_deletes : (a : GroundAtom) → D a eff vs ↔ ((a ≡ held c b p h (N.head g)) ⊎ ((0 < n) × (a ≡ tip_atom c b p h)))
    climbing_deletes a = (λ k. to (subst (λ z. z vs a) e k), λ k. subst (λ z. z vs a) (sym e) (from k))
      where
        e : Deletes InT S eff ≡ (λ v a. OneTrue (D a) (E.Delete at ∷ es ++ climbing c p.names b n) v)
        e = deletes-And InT S (E.Delete at ∷ es ++ climbing c p.names b n)

        two : OneTrue (D a) (es ++ climbing c p.names b n) vs ↔ (OneTrue (D a) es vs ⊎ OneTrue (D a) (climbing c p.names b n) vs)
        two = one-append (D a) es (climbing c p.names b n) vs

        to : OneTrue (D a) (E.Delete at ∷ es ++ climbing c p.names b n) vs → (a ≡ held c b p h (N.head g)) ⊎ ((0 < n) × (a ≡ tip_atom c b p h))
        to (inl x) = inl (subst (λ z. z vs a) (deletes-Delete InT S at) x ∙ at_ground)
        to (inr x) = elim (two.0 x) [ inl y ↦ absurd (atoms_delete a vars plan.schema.children y) | inr y ↦ inr ((climb_deletes a n).0 y) ]

        from : (a ≡ held c b p h (N.head g)) ⊎ ((0 < n) × (a ≡ tip_atom c b p h)) → OneTrue (D a) (E.Delete at ∷ es ++ climbing c p.names b n) vs
        from (inl x) = inl (subst (λ z. z vs a) (sym (deletes-Delete InT S at)) (x ∙ sym at_ground))
        from (inr x) = inr (two.1 (inr ((climb_deletes a n).1 x)))
