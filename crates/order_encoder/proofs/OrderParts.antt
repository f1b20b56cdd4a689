-- The parts that speak of order pairs and of free slots, in both styles.
use Rattle.std.proofs.Common.{ℕ, zero, suc, ◌≡◌, ◌↔◌, ◌<◌, inl, inr, ◌++◌, List, [], ◌∷◌, length, map, slice_index, refl, ap, sym, subst, ◌∙◌, arith}
use Rattle.plan_model.specs.declared.options.Style.{Style}
use Rattle.plan_model.specs.declared.options.Style.TheVariants.{Adl, Flat}
use Rattle.plan_model.specs.declared.terms.Atom.{Atom}
use Rattle.plan_model.specs.declared.terms.GroundAtom.{GroundAtom}
use Rattle.plan_model.specs.declared.terms.Term.{Term}
use Rattle.plan_model.specs.declared.terms.Term.TheVariants.{Var, Obj}
use Rattle.plan_model.specs.declared.formulas.Formula.{Formula}
use Rattle.plan_model.specs.declared.formulas.Formula.TheVariants.{Holds, Not, Forall}
use Rattle.plan_model.specs.declared.effects.Effect.{Effect}
use Rattle.plan_model.specs.declared.effects.Effect.TheVariants as E
use Rattle.plan_model.proofs.task_networks.Numbers.{numbers_to, to_numbers}
use Rattle.plan_model.specs.plan_meaning.Truth.{State, ground, EachTrue, OneTrue, AreTyped, IsTrueIn, Adds, Deletes}
use Rattle.order_encoder.specs.OrderFormulas.{OrderNumbers, pair_of, any_slot, slot_objects, wait_parts, clear_parts, copy_parts, free_parts}
use Rattle.plan_model.proofs.plan_meaning.TruthEquations.{truth-Not, truth-Holds, truth-Forall}
use Rattle.plan_model.proofs.plan_meaning.EffectEquations.{adds-Add, adds-Delete, adds-Forall, adds-When, deletes-Add, deletes-Delete, deletes-Forall, deletes-When}
use Rattle.order_encoder.specs.OrderMeaning.{atom, IsSlotObject, pair_atom, AreTheSlots, OrderMeaning}
use Rattle.plan_model.proofs.plan_meaning.EachPart.{each_map, one_map}

at_front : (xs ys : List ℕ) (i : ℕ) → i < length xs → slice_index (xs ++ ys) i ≡ slice_index xs i
at_front [] ys i h = absurd (omega arith)
at_front (x ∷ xs) ys zero h = refl
at_front (x ∷ xs) ys (suc i) h = at_front xs ys i (omega arith)

at_end : (xs : List ℕ) (y : ℕ) → slice_index (xs ++ y ∷ []) (length xs) ≡ y
at_end [] y = refl
at_end (x ∷ xs) y = at_end xs y

module _ (n : OrderNumbers) (slots : ℕ) (InType : ℕ → ℕ → Type 0) (S : State) (values : List ℕ) (are : AreTheSlots n slots InType) where
  abbrev True : Formula → List ℕ → Type 0
  True = IsTrueIn InType S

  abbrev IsSlot : ℕ → Type 0
  IsSlot = IsSlotObject n slots

  abbrev pair : ℕ → ℕ → GroundAtom
  pair = pair_atom n slots

  abbrev at : ℕ → ℕ
  at i = slice_index values i

  abbrev parts : Term → Term → Atom
  parts = pair_of n slots

  abbrev last : Term
  last = Var (length values)

  -- pairs of a variable in force and the quantified one
  ground-var_last : (i o : ℕ) → i < length values → ground (values ++ o ∷ []) (parts (Var i) last) ≡ pair (at i) o
  ground-var_last i o l = let e = at_front values (o ∷ []) i l in let f = at_end values o in λ k. record { predicate = n.before; args = e k ∷ f k ∷ [] }

  ground-last_var : (i o : ℕ) → i < length values → ground (values ++ o ∷ []) (parts last (Var i)) ≡ pair o (at i)
  ground-last_var i o l = let e = at_front values (o ∷ []) i l in let f = at_end values o in λ k. record { predicate = n.before; args = f k ∷ e k ∷ [] }

  -- one more value, a slot
  for_slots : (P : List ℕ → Type 0) → ((os : List ℕ) → AreTyped InType (any_slot n slots) os → P os) ↔ ((o : ℕ) → IsSlot o → P (o ∷ []))
  for_slots P = (λ f o t. f (o ∷ []) ((are o).1 t, tt), from)
    where
      from : ((o : ℕ) → IsSlot o → P (o ∷ [])) → (os : List ℕ) → AreTyped InType (any_slot n slots) os → P os
      from f [] t = absurd t
      from f (o ∷ []) t = f o ((are o).0 t.0)
      from f (o ∷ o' ∷ os) t = absurd t.1

  some_slot : (P : List ℕ → Type 0) → ((os : List ℕ) × AreTyped InType (any_slot n slots) os × P os) ↔ ((o : ℕ) × IsSlot o × P (o ∷ []))
  some_slot P = (λ x. to x.0 x.1 x.2, λ x. (x.0 ∷ [], ((are x.0).1 x.1, tt), x.2))
    where
      to : (os : List ℕ) → AreTyped InType (any_slot n slots) os → P os → (o : ℕ) × IsSlot o × P (o ∷ [])
      to [] t q = absurd t
      to (o ∷ []) t q = (o, (are o).0 t.0, q)
      to (o ∷ o' ∷ os) t q = absurd t.1

  -- a formula with one more value is true for each slot
  forall_slots : (f : Formula) (P : ℕ → Type 0) → ((o : ℕ) → True f (values ++ o ∷ []) ≡ P o) → True (Forall (any_slot n slots) f) values ↔ ((o : ℕ) → IsSlot o → P o)
  forall_slots f P inside =
      subst (λ z. z values ↔ ((o : ℕ) → IsSlot o → P o)) (sym (truth-Forall InType S (any_slot n slots) f)) (
        λ h o s. subst (λ z. z) (inside o) ((for_slots (λ os. True f (values ++ os))).0 h o s),
        λ h. (for_slots (λ os. True f (values ++ os))).1 (λ o s. subst (λ z. z) (sym (inside o)) (h o s)),
      )

  adds_slots : (e : Effect) (g : GroundAtom) (P : ℕ → Type 0) → ((o : ℕ) → Adds InType S e (values ++ o ∷ []) g ≡ P o) → Adds InType S (E.Forall (any_slot n slots) e) values g ↔ ((o : ℕ) × IsSlot o × P o)
  adds_slots e g P inside =
      subst (λ z. z values g ↔ ((o : ℕ) × IsSlot o × P o)) (sym (adds-Forall InType S (any_slot n slots) e)) (
        λ h. (let r = (some_slot (λ os. Adds InType S e (values ++ os) g)).0 h in (r.0, r.1, subst (λ z. z) (inside r.0) r.2)),
        λ h. (some_slot (λ os. Adds InType S e (values ++ os) g)).1 (h.0, h.1, subst (λ z. z) (sym (inside h.0)) h.2),
      )

  deletes_slots : (e : Effect) (g : GroundAtom) (P : ℕ → Type 0) → ((o : ℕ) → Deletes InType S e (values ++ o ∷ []) g ≡ P o) → Deletes InType S (E.Forall (any_slot n slots) e) values g ↔ ((o : ℕ) × IsSlot o × P o)
  deletes_slots e g P inside =
      subst (λ z. z values g ↔ ((o : ℕ) × IsSlot o × P o)) (sym (deletes-Forall InType S (any_slot n slots) e)) (
        λ h. (let r = (some_slot (λ os. Deletes InType S e (values ++ os) g)).0 h in (r.0, r.1, subst (λ z. z) (inside r.0) r.2)),
        λ h. (some_slot (λ os. Deletes InType S e (values ++ os) g)).1 (h.0, h.1, subst (λ z. z) (sym (inside h.0)) h.2),
      )

  -- the slots written out
  each_slot : (k : Formula → List ℕ → Type 0) (f : ℕ → Formula) (P : ℕ → Type 0) → ((o : ℕ) → k (f o) values ≡ P o) → EachTrue k (map f (slot_objects n slots)) values ↔ ((o : ℕ) → IsSlot o → P o)
  each_slot k f P inside =
      let r = each_map k f (slot_objects n slots) values in
      (λ h o s. subst (λ z. z) (inside o) (r.0 h o (to_numbers n.first_slot slots o s.0 s.1)), λ h. r.1 (λ o c. subst (λ z. z) (sym (inside o)) (h o (numbers_to n.first_slot slots o c))))

  one_slot : (k : Effect → List ℕ → Type 0) (f : ℕ → Effect) (P : ℕ → Type 0) → ((o : ℕ) → k (f o) values ≡ P o) → OneTrue k (map f (slot_objects n slots)) values ↔ ((o : ℕ) × IsSlot o × P o)
  one_slot k f P inside =
      let r = one_map k f (slot_objects n slots) values in
      (λ h. (let s = r.0 h in (s.0, numbers_to n.first_slot slots s.0 s.1, subst (λ z. z) (inside s.0) s.2)), λ h. r.1 (h.0, to_numbers n.first_slot slots h.0 h.1.0 h.1.1, subst (λ z. z) (sym (inside h.0)) h.2))

  single_each : (k : Formula → List ℕ → Type 0) (f : Formula) {A : Type 0} → k f values ↔ A → EachTrue k (f ∷ []) values ↔ A
  single_each k f r = (λ h. r.0 h.0, λ h. (r.1 h, tt))

  single_one : (k : Effect → List ℕ → Type 0) (e : Effect) {A : Type 0} → k e values ↔ A → OneTrue k (e ∷ []) values ↔ A
  single_one k e r = (λ h. elim h [ inl x ↦ r.0 x | inr x ↦ absurd x ], λ h. inl (r.1 h))

  truth-not_holds : (a : Atom) (vs : List ℕ) → True (Not (Holds a)) vs ≡ (S (ground vs a) → ⊥)
  truth-not_holds a vs = ap (λ z. z vs) (truth-Not InType S (Holds a)) ∙ ap (λ z. z vs → ⊥) (truth-Holds InType S a)

  adds-when : (a b : Atom) (vs : List ℕ) (g : GroundAtom) → Adds InType S (E.When (Holds a) (E.Add b)) vs g ≡ (S (ground vs a) × (g ≡ ground vs b))
  adds-when a b vs g =
      ap (λ z. z vs g) (adds-When InType S (Holds a) (E.Add b))
      ∙ ap (λ z. z vs × Adds InType S (E.Add b) vs g) (truth-Holds InType S a)
      ∙ ap (λ z. S (ground vs a) × z vs g) (adds-Add InType S b)

  deletes-when : (a b : Atom) (vs : List ℕ) (g : GroundAtom) → Deletes InType S (E.When (Holds a) (E.Add b)) vs g ≡ (True (Holds a) vs × ⊥)
  deletes-when a b vs g = ap (λ z. z vs g) (deletes-When InType S (Holds a) (E.Add b)) ∙ ap (λ z. True (Holds a) vs × z vs g) (deletes-Add InType S b)

  waits : (style : Style) (i : ℕ) → i < length values → EachTrue True (wait_parts n slots (length values) style (Var i)) values ↔ ((o : ℕ) → IsSlot o → S (pair o (at i)) → ⊥)
  waits Adl i l = single_each True _ (forall_slots (Not (Holds (parts last (Var i)))) (λ o. S (pair o (at i)) → ⊥) (λ o. truth-not_holds (parts last (Var i)) (values ++ o ∷ []) ∙ ap (λ z. S z → ⊥) (ground-last_var i o l)))
  waits Flat i l = each_slot True (λ o. Not (Holds (parts (Obj o) (Var i)))) (λ o. S (pair o (at i)) → ⊥) (λ o. truth-not_holds (parts (Obj o) (Var i)) values)

  abbrev Add : GroundAtom → Effect → List ℕ → Type 0
  Add g e v = Adds InType S e v g

  abbrev Del : GroundAtom → Effect → List ℕ → Type 0
  Del g e v = Deletes InType S e v g

  clear_adds : (style : Style) (i : ℕ) (g : GroundAtom) → OneTrue (Add g) (clear_parts n slots (length values) style (Var i)) values → ⊥
  clear_adds Adl i g (inl h) = ((adds_slots (E.Delete (parts (Var i) last)) g (λ o. ⊥) (λ o. ap (λ z. z (values ++ o ∷ []) g) (adds-Delete InType S (parts (Var i) last)))).0 h).2
  clear_adds Adl i g (inr h) = h
  clear_adds Flat i g h = ((one_slot (Add g) (λ o. E.Delete (parts (Var i) (Obj o))) (λ o. ⊥) (λ o. ap (λ z. z values g) (adds-Delete InType S (parts (Var i) (Obj o))))).0 h).2

  clear_deletes : (style : Style) (i : ℕ) (g : GroundAtom) → i < length values → OneTrue (Del g) (clear_parts n slots (length values) style (Var i)) values ↔ ((o : ℕ) × IsSlot o × (g ≡ pair (at i) o))
  clear_deletes Adl i g l = single_one (Del g) _ (deletes_slots (E.Delete (parts (Var i) last)) g (λ o. g ≡ pair (at i) o) (λ o. ap (λ z. z (values ++ o ∷ []) g) (deletes-Delete InType S (parts (Var i) last)) ∙ ap (λ z. g ≡ z) (ground-var_last i o l)))
  clear_deletes Flat i g l = one_slot (Del g) (λ o. E.Delete (parts (Var i) (Obj o))) (λ o. g ≡ pair (at i) o) (λ o. ap (λ z. z values g) (deletes-Delete InType S (parts (Var i) (Obj o))))

  regroup : (i j : ℕ) (g : GroundAtom) {A : Type 0} → A ↔ ((o : ℕ) × IsSlot o × (S (pair (at i) o) × (g ≡ pair (at j) o))) → A ↔ ((o : ℕ) × IsSlot o × S (pair (at i) o) × (g ≡ pair (at j) o))
  regroup i j g r = (λ a. (let s = r.0 a in (s.0, s.1, s.2.0, s.2.1)), λ s. r.1 (s.0, s.1, (s.2, s.3)))

  copy_adds : (style : Style) (i j : ℕ) (g : GroundAtom) → i < length values → j < length values
      → OneTrue (Add g) (copy_parts n slots (length values) style (Var i) (Var j)) values ↔ ((o : ℕ) × IsSlot o × S (pair (at i) o) × (g ≡ pair (at j) o))
  copy_adds Adl i j g l m = single_one (Add g) _ (regroup i j g (adds_slots body g (λ o. S (pair (at i) o) × (g ≡ pair (at j) o)) inside))
    where
      body : Effect
      body = E.When (Holds (parts (Var i) last)) (E.Add (parts (Var j) last))

      inside : (o : ℕ) → Adds InType S body (values ++ o ∷ []) g ≡ (S (pair (at i) o) × (g ≡ pair (at j) o))
      inside o = adds-when (parts (Var i) last) (parts (Var j) last) (values ++ o ∷ []) g ∙ (λ k. S (ground-var_last i o l k) × (g ≡ ground-var_last j o m k))
  copy_adds Flat i j g l m = regroup i j g (one_slot (Add g) (λ o. E.When (Holds (parts (Var i) (Obj o))) (E.Add (parts (Var j) (Obj o)))) (λ o. S (pair (at i) o) × (g ≡ pair (at j) o)) (λ o. adds-when (parts (Var i) (Obj o)) (parts (Var j) (Obj o)) values g))

  copy_deletes : (style : Style) (i j : ℕ) (g : GroundAtom) → OneTrue (Del g) (copy_parts n slots (length values) style (Var i) (Var j)) values → ⊥
  copy_deletes Adl i j g (inl h) =
      let r = (deletes_slots (E.When (Holds (parts (Var i) last)) (E.Add (parts (Var j) last))) g (λ o. True (Holds (parts (Var i) last)) (values ++ o ∷ []) × ⊥) (λ o. deletes-when (parts (Var i) last) (parts (Var j) last) (values ++ o ∷ []) g)).0 h in r.2.1
  copy_deletes Adl i j g (inr h) = h
  copy_deletes Flat i j g h =
      let r = (one_slot (Del g) (λ o. E.When (Holds (parts (Var i) (Obj o))) (E.Add (parts (Var j) (Obj o)))) (λ o. True (Holds (parts (Var i) (Obj o))) values × ⊥) (λ o. deletes-when (parts (Var i) (Obj o)) (parts (Var j) (Obj o)) values g)).0 h in r.2.1

  free : (style : Style) (predicate : ℕ) → EachTrue True (free_parts n slots (length values) style predicate) values ↔ ((o : ℕ) → IsSlot o → S (atom predicate o))
  free Adl predicate = single_each True _ (forall_slots (Holds (record { predicate = predicate; args = last ∷ [] })) (λ o. S (atom predicate o)) inside)
    where
      inside : (o : ℕ) → True (Holds (record { predicate = predicate; args = last ∷ [] })) (values ++ o ∷ []) ≡ S (atom predicate o)
      inside o = ap (λ z. z (values ++ o ∷ [])) (truth-Holds InType S (record { predicate = predicate; args = last ∷ [] })) ∙ ap (λ z. S (record { predicate = predicate; args = z ∷ [] })) (at_end values o)
  free Flat predicate = each_slot True (λ o. Holds (record { predicate = predicate; args = Obj o ∷ [] })) (λ o. S (atom predicate o)) (λ o. ap (λ z. z values) (truth-Holds InType S (record { predicate = predicate; args = Obj o ∷ [] })))

  pub order_meaning : (style : Style) → OrderMeaning n slots InType S values style
  order_meaning style = record {
    waits = waits style;
    clear_adds = clear_adds style;
    clear_deletes = clear_deletes style;
    copy_adds = copy_adds style;
    copy_deletes = copy_deletes style;
    free = free style;
  }
