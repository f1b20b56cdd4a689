-- What the condition of a method's printed action says.
use Rattle.std.proofs.Common.{ℕ, suc, ◌≡◌, ◌↔◌, ◌+◌, ◌-◌, Bool, true, false, MatchBool, cond, List, [], ◌∷◌, ◌++◌, map, length, slice_index, slice_get, Some, refl, ap, sym, subst, ◌∙◌, Contains, length-append, arith}
use Rattle.std.specs.Prelude.{IsTrue}
use Rattle.std.proofs.lemmas.List.{length-map}
use Rattle.plan_model.specs.declared.options.Style.{Style}
use Rattle.plan_model.specs.declared.terms.Term.{Term}
use Rattle.plan_model.specs.declared.terms.Term.TheVariants.{Var}
use Rattle.plan_model.specs.declared.terms.Atom.{Atom}
use Rattle.plan_model.specs.declared.formulas.Formula.{Formula}
use Rattle.plan_model.specs.declared.formulas.Formula.TheVariants.{Holds, Equal, Not, And}
use Rattle.plan_model.specs.declared.networks.Constraint.{Constraint}
use Rattle.plan_model.specs.declared.networks.Guard.{Guard}
use Rattle.plan_model.specs.declared.schemas.MethodPlan.{MethodPlan}
use Rattle.plan_model.specs.declared.values.Compiled.{Compiled}
use Rattle.plan_model.specs.declared.values.Pddl.{Pddl}
use Rattle.htn_base.specs.Different.{AreDifferent}
use Rattle.plan_model.specs.task_networks.Spelling.{numbers}
use Rattle.plan_model.proofs.task_networks.Lists.{Contains-here, Contains-later}
use Rattle.slot_machine.specs.Machine as Machine
use Rattle.plan_model.specs.plan_meaning.Truth.{State, ground, value_of, values_of, AreTyped, EachTrue, IsTrueIn}
use Rattle.plan_model.specs.plan_meaning.Network.{task, GroundMethod, network, InTypeOf, Meets}
use Rattle.slot_encoding.specs.SourceParts.{moved}
use Rattle.slot_encoding.specs.EncodedNames.{free_predicate, guard_predicate, task_predicate}
use Rattle.slot_encoding.specs.EncodedValue.{atom}
use Rattle.slot_encoding.specs.EncodedActions.{is_free, waiting, spare, front, depth, differ, test, held_task, constraints, guards, tested, source_condition, encoded_method}
use Rattle.plan_model.proofs.plan_meaning.TruthEquations.{truth-Holds, truth-Not, truth-Equal}
use Rattle.slot_encoding.proofs.Pieces.{SourceMeaning, slot_object, IsSlot}
use Rattle.plan_proof.proofs.machine.Reading.{held, free_atom, Reads}
use Rattle.plan_model.proofs.plan_meaning.EachPart.{each_map}
use Rattle.slot_encoding.proofs.places.Sums.{each-append, mapped, map-numbers, value-moved, values-moved}
use Rattle.plan_proof.proofs.machine.Atoms.{one_slot}
use Rattle.plan_proof.proofs.machine.Facts.{PiecesMean}
use Rattle.plan_proof.proofs.machine.Freeing.{InT, WaitsForNone, front_true}
use Rattle.slot_encoding.proofs.places.Guards.{guard_type}
use Rattle.plan_proof.proofs.machine.Running.{typed_long}

module _ (c : Compiled) (b : ℕ) (style : Style) (p : Pddl) where
  -- slots that differ have objects that differ
  pub different_objects : (xs : List ℕ) → ((x : ℕ) → Contains xs x → IsSlot c b style p x) → AreDifferent (map (slot_object c b style p) xs) ↔ AreDifferent xs
  different_objects [] slots = (λ x. x, λ x. x)
  different_objects (x ∷ xs) slots =
      let r = different_objects xs (λ y k. slots y (Contains-later x xs y k)) in
      let m = mapped (slot_object c b style p) xs (λ y. slot_object c b style p x ≡ y → ⊥) in (
        λ k. (λ d. m.0 (λ y e f. k.0 (subst (Contains (map (slot_object c b style p) xs)) (sym f) e)) x d refl, r.0 k.1),
        λ k. (λ d. m.1 (λ z e f. k.0 (subst (Contains xs) (sym (one_slot c b style p x z (slots x (Contains-here x xs)) (slots z (Contains-later x xs z e)) f)) e)) (slot_object c b style p x) d refl, r.1 k.1),
      )

module _ (c : Compiled) (b : ℕ) (style : Style) (p : Pddl) (h : ℕ) (new : List ℕ) (g : GroundMethod) (plan : MethodPlan)
    (long : length new ≡ spare c p.names b style g.number plan) (typed : AreTyped (InTypeOf c) plan.schema.params g.values) where
  abbrev pub slots_of : List ℕ
  slots_of = slot_object c b style p h ∷ map (slot_object c b style p) new

  abbrev pub objects : List ℕ
  objects = slot_object c b style p h ∷ (map (slot_object c b style p) new ++ g.values)

  abbrev front' : ℕ
  front' = front c p.names b style g.number plan

  abbrev spare' : ℕ
  spare' = spare c p.names b style g.number plan

  pub front_long : length slots_of ≡ front c p.names b style g.number plan
  front_long = ap suc (length-map new (slot_object c b style p) ∙ long)

  pub depth_long : length objects ≡ depth c p.names b style g.number plan
  depth_long =
      let a = length-append (map (slot_object c b style p) new) g.values in
      let m = length-map new (slot_object c b style p) in
      let q = typed_long (InTypeOf c) plan.schema.params g.values typed in
      let l : length new ≡ length plan.schema.children - 1 = long in
      let e : length objects ≡ suc (length plan.schema.children - 1) + length plan.schema.params = omega arith in
      e

  pub term_value : (u : Term) → value_of objects (moved p.names c.hddl.names front' u) ≡ value_of g.values u
  term_value u = ap (λ z. value_of objects (moved p.names c.hddl.names z u)) (sym front_long) ∙ value-moved p.names c.hddl.names slots_of g.values u

  pub term_values : (us : List Term) → map (value_of objects) (map (moved p.names c.hddl.names front') us) ≡ values_of g.values us
  term_values us = ap (λ z. map (value_of objects) (map (moved p.names c.hddl.names z) us)) (sym front_long) ∙ values-moved p.names c.hddl.names slots_of g.values us

  pub new_values : map (slice_index objects) (numbers 1 (spare c p.names b style g.number plan)) ≡ map (slot_object c b style p) new
  new_values = ap (λ z. map (slice_index objects) (numbers 1 z)) (sym (length-map new (slot_object c b style p) ∙ long)) ∙ map-numbers (slot_object c b style p h ∷ []) (map (slot_object c b style p) new) g.values

  pub held_ground : ground objects (held_task c p.names b style g.number plan) ≡ held c b style p h (task plan.schema.task (values_of g.values plan.schema.task_args))
  held_ground = λ i. record { predicate = task_predicate c plan.schema.task; args = slot_object c b style p h ∷ term_values plan.schema.task_args i }

  module _ (means : PiecesMean c b style p) (S : State) (t : Machine.SlotState (network c)) (T : State) (r : Reads c b style p S t T) (is : slice_get c.methods g.number ≡ Some plan) (slots : (x : ℕ) → Contains new x → IsSlot c b style p x) where
    abbrev True : Formula → List ℕ → Type 0
    True = IsTrueIn (InT c b style p) S

    frees_true : EachTrue True (map (λ v. Holds (is_free c p.names b style v)) (numbers 1 spare')) objects ↔ ((x : ℕ) → Contains new x → S (free_atom c b style p x))
    frees_true =
        let a = each_map True (λ v. Holds (is_free c p.names b style v)) (numbers 1 spare') objects in
        let m = mapped (slice_index objects) (numbers 1 spare') P in
        let o = mapped (slot_object c b style p) new P in (
          λ k. o.0 (subst (λ z. (y : ℕ) → Contains z y → P y) new_values (m.1 (λ v d. subst (λ z. z objects) (truth-Holds (InT c b style p) S (is_free c p.names b style v)) (a.0 k v d)))),
          λ k. a.1 (λ v d. subst (λ z. z objects) (sym (truth-Holds (InT c b style p) S (is_free c p.names b style v))) (m.0 (subst (λ z. (y : ℕ) → Contains z y → P y) (sym new_values) (o.1 k)) v d)),
        )
      where
        P : ℕ → Type 0
        P o = S (atom (free_predicate c) o)

    differ_values : (vs : List ℕ) → EachTrue True (differ vs) objects ↔ AreDifferent (map (slice_index objects) vs)
    differ_values [] = (λ x. tt, λ x. tt)
    differ_values (v ∷ vs) =
        let a = each-append True (map (λ u. Not (Equal (Var v) (Var u))) vs) (differ vs) objects in
        let e = each_map True (λ u. Not (Equal (Var v) (Var u))) vs objects in
        let q = differ_values vs in
        let m = mapped (slice_index objects) vs (λ y. slice_index objects v ≡ y → ⊥) in (
          λ k. (let s = a.0 k in (λ d. m.1 (λ u f. subst (λ z. z) (inside u) (e.0 s.0 u f)) (slice_index objects v) d refl, q.0 s.1)),
          λ k. a.1 (e.1 (λ u d. subst (λ z. z) (sym (inside u)) (m.0 (λ y f w. k.0 (subst (Contains (map (slice_index objects) vs)) (sym w) f)) u d)), q.1 k.1),
        )
      where
        inside : (u : ℕ) → True (Not (Equal (Var v) (Var u))) objects ≡ (slice_index objects v ≡ slice_index objects u → ⊥)
        inside u = ap (λ z. z objects) (truth-Not (InT c b style p) S (Equal (Var v) (Var u))) ∙ ap (λ z. z objects → ⊥) (truth-Equal (InT c b style p) S (Var v) (Var u))

    differ_true : EachTrue True (differ (numbers 1 spare')) objects ↔ AreDifferent new
    differ_true =
        let a = differ_values (numbers 1 spare') in
        let o = different_objects c b style p new slots in
        (λ k. o.0 (subst AreDifferent new_values (a.0 k)), λ k. a.1 (subst AreDifferent (sym new_values) (o.1 k)))

    constraint_true : (con : Constraint) → True (test con.equal (moved p.names c.hddl.names front' con.left) (moved p.names c.hddl.names front' con.right)) objects ↔ Meets g.values con
    constraint_true con = go con.equal
      where
        left : Term
        left = moved p.names c.hddl.names front' con.left

        right : Term
        right = moved p.names c.hddl.names front' con.right

        same : (value_of objects left ≡ value_of objects right) ↔ (value_of g.values con.left ≡ value_of g.values con.right)
        same = let e = term_value con.left in let f = term_value con.right in (λ k. sym e ∙ k ∙ f, λ k. e ∙ k ∙ sym f)

        go : (q : Bool) → True (test q left right) objects ↔ MatchBool q (value_of g.values con.left ≡ value_of g.values con.right) (value_of g.values con.left ≡ value_of g.values con.right → ⊥)
        go true = let e = truth-Equal (InT c b style p) S left right in (λ k. same.0 (subst (λ z. z objects) e k), λ k. subst (λ z. z objects) (sym e) (same.1 k))
        go false =
            let e : True (Not (Equal left right)) objects ≡ (value_of objects left ≡ value_of objects right → ⊥) = ap (λ z. z objects) (truth-Not (InT c b style p) S (Equal left right)) ∙ ap (λ z. z objects → ⊥) (truth-Equal (InT c b style p) S left right) in
            (λ k f. subst (λ z. z) e k (same.1 f), λ k. subst (λ z. z) (sym e) (λ f. k (same.0 f)))

    constraints_true : EachTrue True (constraints c p.names b style g.number plan) objects ↔ ((con : Constraint) → Contains plan.schema.constraints con → Meets g.values con)
    constraints_true =
        let a = each_map True (λ (con : Constraint). test con.equal (moved p.names c.hddl.names front' con.left) (moved p.names c.hddl.names front' con.right)) plan.schema.constraints objects in
        (λ k con d. (constraint_true con).0 (a.0 k con d), λ k. a.1 (λ con d. (constraint_true con).1 (k con d)))

    guards_true : EachTrue True (guards c p.names b style g.number plan) objects ↔ ((k : Guard) → Contains plan.guards k → InTypeOf c (value_of g.values k.term) k.ty)
    guards_true = (λ x k d. (one k d).0 (a.0 x k d), λ x. a.1 (λ k d. (one k d).1 (x k d)))
      where
        is_guard : Guard → Atom
        is_guard k = record { predicate = guard_predicate c k.ty; args = moved p.names c.hddl.names front' k.term ∷ [] }

        a : EachTrue True (guards c p.names b style g.number plan) objects ↔ ((k : Guard) → Contains plan.guards k → True (Holds (is_guard k)) objects)
        a = each_map True (λ (k : Guard). Holds (is_guard k)) plan.guards objects

        value : (k : Guard) → ground objects (is_guard k) ≡ atom (guard_predicate c k.ty) (value_of g.values k.term)
        value k = let e = term_value k.term in λ i. record { predicate = guard_predicate c k.ty; args = e i ∷ [] }

        one : (k : Guard) → Contains plan.guards k → True (Holds (is_guard k)) objects ↔ InTypeOf c (value_of g.values k.term) k.ty
        one k d =
            let e : True (Holds (is_guard k)) objects ≡ S (atom (guard_predicate c k.ty) (value_of g.values k.term)) = ap (λ z. z objects) (truth-Holds (InT c b style p) S (is_guard k)) ∙ ap S (value k) in
            let q = r.guards k.ty (value_of g.values k.term) (guard_type c g.number plan k is d) in
            (λ x. q.0 (subst (λ z. z) e x), λ x. subst (λ z. z) (sym e) (q.1 x))

    tested_true : EachTrue True (tested c p.names b style g.number plan) objects ↔ (IsTrue plan.tested → IsTrueIn (InTypeOf c) T plan.schema.pre g.values)
    tested_true = go plan.tested
      where
        source : SourceMeaning c b style p T S slots_of
        source = means.source T S slots_of r.source

        holds : EachTrue True (source_condition c p.names b style front' plan.schema.pre) objects ↔ IsTrueIn (InTypeOf c) T plan.schema.pre g.values
        holds = subst (λ z. EachTrue True (source_condition c p.names b style z plan.schema.pre) objects ↔ IsTrueIn (InTypeOf c) T plan.schema.pre g.values) front_long
            (source.condition plan.schema.pre g.values (means.fits.method_pre g.number plan is))

        go : (q : Bool) → EachTrue True (cond q (source_condition c p.names b style front' plan.schema.pre) []) objects ↔ (IsTrue q → IsTrueIn (InTypeOf c) T plan.schema.pre g.values)
        go true = (λ x e. holds.0 x, λ x. holds.1 (x refl))
        go false = (λ x e. absurd (let f : false ≡ true = e in cc), λ x. tt)

    -- what is asked besides
    pub record Asks : Type 0 where
      pub free : (x : ℕ) → Contains new x → S (free_atom c b style p x)
      pub different : AreDifferent new
      pub constraints : (con : Constraint) → Contains plan.schema.constraints con → Meets g.values con
      pub guards : (k : Guard) → Contains plan.guards k → InTypeOf c (value_of g.values k.term) k.ty
      pub tested : IsTrue plan.tested → IsTrueIn (InTypeOf c) T plan.schema.pre g.values

    abbrev f1 : List Formula
    f1 = map (λ v. Holds (is_free c p.names b style v)) (numbers 1 spare')

    abbrev f2 : List Formula
    f2 = differ (numbers 1 spare')

    abbrev f3 : List Formula
    f3 = constraints c p.names b style g.number plan

    abbrev f4 : List Formula
    f4 = guards c p.names b style g.number plan

    abbrev f5 : List Formula
    f5 = tested c p.names b style g.number plan

    asks_iff : EachTrue True (f1 ++ (f2 ++ (f3 ++ (f4 ++ f5)))) objects ↔ Asks
    asks_iff = (to, from)
      where
        c1 : EachTrue True (f1 ++ (f2 ++ (f3 ++ (f4 ++ f5)))) objects ↔ (EachTrue True f1 objects × EachTrue True (f2 ++ (f3 ++ (f4 ++ f5))) objects)
        c1 = each-append True f1 (f2 ++ (f3 ++ (f4 ++ f5))) objects

        c2 : EachTrue True (f2 ++ (f3 ++ (f4 ++ f5))) objects ↔ (EachTrue True f2 objects × EachTrue True (f3 ++ (f4 ++ f5)) objects)
        c2 = each-append True f2 (f3 ++ (f4 ++ f5)) objects

        c3 : EachTrue True (f3 ++ (f4 ++ f5)) objects ↔ (EachTrue True f3 objects × EachTrue True (f4 ++ f5) objects)
        c3 = each-append True f3 (f4 ++ f5) objects

        c4 : EachTrue True (f4 ++ f5) objects ↔ (EachTrue True f4 objects × EachTrue True f5 objects)
        c4 = each-append True f4 f5 objects

        to : EachTrue True (f1 ++ (f2 ++ (f3 ++ (f4 ++ f5)))) objects → Asks
        to k =
            let k1 = c1.0 k in let k2 = c2.0 k1.1 in let k3 = c3.0 k2.1 in let k4 = c4.0 k3.1 in
            record { free = frees_true.0 k1.0; different = differ_true.0 k2.0; constraints = constraints_true.0 k3.0; guards = guards_true.0 k4.0; tested = tested_true.0 k4.1 }

        from : Asks → EachTrue True (f1 ++ (f2 ++ (f3 ++ (f4 ++ f5)))) objects
        from k = c1.1 (frees_true.1 k.free, c2.1 (differ_true.1 k.different, c3.1 (constraints_true.1 k.constraints, c4.1 (guards_true.1 k.guards, tested_true.1 k.tested))))

    pub method_true : IsTrueIn (InT c b style p) S (encoded_method c p.names b style g.number plan).pre objects
        ↔ (S (held c b style p h (task plan.schema.task (values_of g.values plan.schema.task_args))) × WaitsForNone c b style p S h × Asks)
    method_true = (λ k. (let x = both.0 k in (subst S held_ground x.0, x.1, asks_iff.0 x.2)), λ k. both.1 (subst S (sym held_ground) k.0, k.1, asks_iff.1 k.2))
      where
        more : List Formula
        more = f1 ++ (f2 ++ (f3 ++ (f4 ++ f5)))

        both : True (And (Holds (held_task c p.names b style g.number plan) ∷ waiting c p.names b style (depth c p.names b style g.number plan) ++ more)) objects
            ↔ (S (ground objects (held_task c p.names b style g.number plan)) × WaitsForNone c b style p S h × EachTrue True more objects)
        both = subst (λ z. True (And (Holds (held_task c p.names b style g.number plan) ∷ waiting c p.names b style z ++ more)) objects
            ↔ (S (ground objects (held_task c p.names b style g.number plan)) × WaitsForNone c b style p S h × EachTrue True more objects)) depth_long
            (front_true c b style p S h (map (slot_object c b style p) new ++ g.values) (means.order S objects) (held_task c p.names b style g.number plan) more)
