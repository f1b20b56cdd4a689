-- What the parts say that actions of all kinds have: a slot holds something that waits for nothing; it is freed.
use Rattle.std.proofs.Common.{ℕ, ◌≡◌, ◌↔◌, ◌⊎◌, ◌<◌, inl, inr, List, [], ◌∷◌, ◌++◌, length, refl, ap, sym, subst, ◌∙◌, arith}
use Rattle.plan_model.specs.declared.options.Style.{Style}
use Rattle.plan_model.specs.declared.terms.Term.TheVariants.{Var}
use Rattle.plan_model.specs.declared.terms.Atom.{Atom}
use Rattle.plan_model.specs.declared.terms.GroundAtom.{GroundAtom}
use Rattle.plan_model.specs.declared.formulas.Formula.{Formula}
use Rattle.plan_model.specs.declared.formulas.Formula.TheVariants.{Holds, And}
use Rattle.plan_model.specs.declared.effects.Effect.{Effect}
use Rattle.plan_model.specs.declared.effects.Effect.TheVariants as E
use Rattle.plan_model.specs.declared.values.Compiled.{Compiled}
use Rattle.plan_model.specs.declared.values.Pddl.{Pddl}
use Rattle.slot_machine.specs.Machine as Machine
use Rattle.plan_model.specs.plan_meaning.Truth.{State, ground, EachTrue, OneTrue, IsTrueIn, Adds, Deletes, after}
use Rattle.plan_model.specs.plan_meaning.ClassicalPlan as Printed
use Rattle.plan_model.specs.plan_meaning.Network.{Work, network}
use Rattle.slot_encoding.specs.EncodedNames.{before_predicate, order_numbers}
use Rattle.slot_encoding.specs.EncodedActions.{is_free, waiting, freeing}
use Rattle.plan_model.proofs.plan_meaning.TruthEquations.{truth-And, truth-Holds}
use Rattle.plan_model.proofs.plan_meaning.EffectEquations.{adds-And, adds-Add, adds-Delete, deletes-And, deletes-Add, deletes-Delete}
use Rattle.order_encoder.specs.OrderMeaning.{OrderMeaning}
use Rattle.slot_encoding.proofs.Pieces.{PredicatesDiffer, slot_object, IsSlot, IsSlotObject}
use Rattle.plan_proof.proofs.machine.Reading.{IsKnown, held, free_atom, before_atom, Reads, Keeps}
use Rattle.slot_encoding.proofs.places.Sums.{each-append, one-append}
use Rattle.plan_proof.proofs.machine.Atoms.{slot_of}
use Rattle.plan_proof.proofs.machine.Freed.{Changed, freed, freed_reads, freed_keeps, reads_alike}
use Rattle.order_encoder.specs.OrderFormulas.{clear_parts}

module _ (c : Compiled) (b : ℕ) (style : Style) (p : Pddl) where
  abbrev pub InT : ℕ → ℕ → Type 0
  InT = Printed.InTypeOf p

  -- no slot comes before slot h
  abbrev pub WaitsForNone : State → ℕ → Type 0
  WaitsForNone S h = (o : ℕ) → IsSlotObject c b style p o → S (record { predicate = before_predicate c; args = o ∷ slot_object c b style p h ∷ [] }) → ⊥

  pub unblocked_iff : (S : State) (t : Machine.SlotState (network c)) (T : State) (h : ℕ) → Reads c b style p S t T → IsSlot c b style p h → Machine.IsUnblocked (network c) t h ↔ WaitsForNone S h
  unblocked_iff S t T h r slot = (
    λ u o s q. (let (x, k, e) = (slot_of c b style p o).0 s in u x ((r.before x h).1 (k, slot, subst (λ z. S (record { predicate = before_predicate c; args = z ∷ slot_object c b style p h ∷ [] })) e q))),
    λ w x f. (let (s, k, q) = (r.before x h).0 f in w (slot_object c b style p x) ((slot_of c b style p (slot_object c b style p x)).1 (x, s, refl)) q),
  )

  module _ (S : State) (h : ℕ) (rest : List ℕ) (order : OrderMeaning (order_numbers c p.names b) b (Printed.InTypeOf p) S (slot_object c b style p h ∷ rest) style) where
    abbrev pub vs : List ℕ
    vs = slot_object c b style p h ∷ rest

    -- the condition, up to what each kind asks besides
    pub front_true : (a : Atom) (more : List Formula)
        → IsTrueIn InT S (And (Holds a ∷ waiting c p.names b style (length vs) ++ more)) vs ↔ (S (ground vs a) × WaitsForNone S h × EachTrue (IsTrueIn InT S) more vs)
    front_true a more = (to, from)
      where
        e : IsTrueIn InT S (And (Holds a ∷ waiting c p.names b style (length vs) ++ more)) ≡ EachTrue (IsTrueIn InT S) (Holds a ∷ waiting c p.names b style (length vs) ++ more)
        e = truth-And InT S (Holds a ∷ waiting c p.names b style (length vs) ++ more)

        hold : IsTrueIn InT S (Holds a) vs ≡ S (ground vs a)
        hold = ap (λ z. z vs) (truth-Holds InT S a)

        cut : EachTrue (IsTrueIn InT S) (waiting c p.names b style (length vs) ++ more) vs ↔ (EachTrue (IsTrueIn InT S) (waiting c p.names b style (length vs)) vs × EachTrue (IsTrueIn InT S) more vs)
        cut = each-append (IsTrueIn InT S) (waiting c p.names b style (length vs)) more vs

        wait : EachTrue (IsTrueIn InT S) (waiting c p.names b style (length vs)) vs ↔ WaitsForNone S h
        wait = order.waits 0 (omega arith)

        to : IsTrueIn InT S (And (Holds a ∷ waiting c p.names b style (length vs) ++ more)) vs → S (ground vs a) × WaitsForNone S h × EachTrue (IsTrueIn InT S) more vs
        to k = let x = subst (λ z. z vs) e k in let y = cut.0 x.1 in (subst (λ z. z) hold x.0, wait.0 y.0, y.1)

        from : S (ground vs a) × WaitsForNone S h × EachTrue (IsTrueIn InT S) more vs → IsTrueIn InT S (And (Holds a ∷ waiting c p.names b style (length vs) ++ more)) vs
        from (q, w, m) = subst (λ z. z vs) (sym e) (subst (λ z. z) (sym hold) q, cut.1 (wait.1 w, m))

    abbrev pub A : GroundAtom → Effect → List ℕ → Type 0
    A g e v = Adds InT S e v g

    abbrev pub D : GroundAtom → Effect → List ℕ → Type 0
    D g e v = Deletes InT S e v g

    pub freeing_adds : (a : Atom) (change : List Effect) (g : GroundAtom) → Adds InT S (E.And (freeing c p.names b style a (length vs) ++ change)) vs g ↔ ((g ≡ free_atom c b style p h) ⊎ OneTrue (A g) change vs)
    freeing_adds a change g = (λ k. to (subst (λ z. z vs g) e k), λ k. subst (λ z. z vs g) (sym e) (from k))
      where
        clear : List Effect
        clear = clear_parts (order_numbers c p.names b) b (length vs) style (Var 0)

        e : Adds InT S (E.And (freeing c p.names b style a (length vs) ++ change)) ≡ (λ v g. OneTrue (A g) (freeing c p.names b style a (length vs) ++ change) v)
        e = adds-And InT S (freeing c p.names b style a (length vs) ++ change)

        to : OneTrue (A g) (freeing c p.names b style a (length vs) ++ change) vs → (g ≡ free_atom c b style p h) ⊎ OneTrue (A g) change vs
        to (inl x) = absurd (subst (λ z. z vs g) (adds-Delete InT S a) x)
        to (inr (inl x)) = inl (subst (λ z. z vs g) (adds-Add InT S (is_free c p.names b style 0)) x)
        to (inr (inr x)) = elim ((one-append (A g) clear change vs).0 x) [ inl y ↦ absurd (order.clear_adds 0 g y) | inr y ↦ inr y ]

        from : (g ≡ free_atom c b style p h) ⊎ OneTrue (A g) change vs → OneTrue (A g) (freeing c p.names b style a (length vs) ++ change) vs
        from (inl x) = inr (inl (subst (λ z. z vs g) (sym (adds-Add InT S (is_free c p.names b style 0))) x))
        from (inr x) = inr (inr ((one-append (A g) clear change vs).1 (inr x)))

    pub freeing_deletes : (a : Atom) (change : List Effect) (g : GroundAtom)
        → Deletes InT S (E.And (freeing c p.names b style a (length vs) ++ change)) vs g ↔ ((g ≡ ground vs a) ⊎ (((o : ℕ) × IsSlotObject c b style p o × (g ≡ before_atom c b style p h o)) ⊎ OneTrue (D g) change vs))
    freeing_deletes a change g = (λ k. to (subst (λ z. z vs g) e k), λ k. subst (λ z. z vs g) (sym e) (from k))
      where
        clear : List Effect
        clear = clear_parts (order_numbers c p.names b) b (length vs) style (Var 0)

        e : Deletes InT S (E.And (freeing c p.names b style a (length vs) ++ change)) ≡ (λ v g. OneTrue (D g) (freeing c p.names b style a (length vs) ++ change) v)
        e = deletes-And InT S (freeing c p.names b style a (length vs) ++ change)

        to : OneTrue (D g) (freeing c p.names b style a (length vs) ++ change) vs → (g ≡ ground vs a) ⊎ (((o : ℕ) × IsSlotObject c b style p o × (g ≡ before_atom c b style p h o)) ⊎ OneTrue (D g) change vs)
        to (inl x) = inl (subst (λ z. z vs g) (deletes-Delete InT S a) x)
        to (inr (inl x)) = absurd (subst (λ z. z vs g) (deletes-Add InT S (is_free c p.names b style 0)) x)
        to (inr (inr x)) = elim ((one-append (D g) clear change vs).0 x) [ inl y ↦ inr (inl ((order.clear_deletes 0 g (omega arith)).0 y)) | inr y ↦ inr (inr y) ]

        from : (g ≡ ground vs a) ⊎ (((o : ℕ) × IsSlotObject c b style p o × (g ≡ before_atom c b style p h o)) ⊎ OneTrue (D g) change vs) → OneTrue (D g) (freeing c p.names b style a (length vs) ++ change) vs
        from (inl x) = inl (subst (λ z. z vs g) (sym (deletes-Delete InT S a)) x)
        from (inr (inl x)) = inr (inr ((one-append (D g) clear change vs).1 (inl ((order.clear_deletes 0 g (omega arith)).1 x))))
        from (inr (inr x)) = inr (inr ((one-append (D g) clear change vs).1 (inr x)))

    -- the slot of what is held is free after
    module _ (t : Machine.SlotState (network c)) (T : State) (d : PredicatesDiffer c) (r : Reads c b style p S t T) (w : Work) (known : IsKnown c w) (slot : IsSlot c b style p h) (a : Atom) (is : ground vs a ≡ held c b style p h w)
        (change : List Effect) (SD SA : GroundAtom → Type 0) (source_D : (g : GroundAtom) → SD g → g.predicate < length c.hddl.predicates) (source_A : (g : GroundAtom) → SA g → g.predicate < length c.hddl.predicates)
        (change_D : (g : GroundAtom) → OneTrue (D g) change vs ↔ SD g) (change_A : (g : GroundAtom) → OneTrue (A g) change vs ↔ SA g) where
      abbrev F : State
      F = Changed S (λ g. (g ≡ held c b style p h w) ⊎ (((o : ℕ) × IsSlotObject c b style p o × (g ≡ before_atom c b style p h o)) ⊎ SD g)) (λ g. (g ≡ free_atom c b style p h) ⊎ SA g)

      same_after : (g : GroundAtom) → F g ↔ after InT S (E.And (freeing c p.names b style a (length vs) ++ change)) vs g
      same_after g = (to, from)
        where
          ad : Adds InT S (E.And (freeing c p.names b style a (length vs) ++ change)) vs g ↔ ((g ≡ free_atom c b style p h) ⊎ OneTrue (A g) change vs)
          ad = freeing_adds a change g

          de : Deletes InT S (E.And (freeing c p.names b style a (length vs) ++ change)) vs g ↔ ((g ≡ ground vs a) ⊎ (((o : ℕ) × IsSlotObject c b style p o × (g ≡ before_atom c b style p h o)) ⊎ OneTrue (D g) change vs))
          de = freeing_deletes a change g

          to : F g → after InT S (E.And (freeing c p.names b style a (length vs) ++ change)) vs g
          to (inl (q, n)) = inl (q, λ z. elim (de.0 z) [ inl x ↦ n (inl (x ∙ is)) | inr (inl x) ↦ n (inr (inl x)) | inr (inr x) ↦ n (inr (inr ((change_D g).0 x))) ])
          to (inr (inl x)) = inr (ad.1 (inl x))
          to (inr (inr x)) = inr (ad.1 (inr ((change_A g).1 x)))

          from : after InT S (E.And (freeing c p.names b style a (length vs) ++ change)) vs g → F g
          from (inl (q, n)) = inl (q, λ z. elim z [ inl x ↦ n (de.1 (inl (x ∙ sym is))) | inr (inl x) ↦ n (de.1 (inr (inl x))) | inr (inr x) ↦ n (de.1 (inr (inr ((change_D g).1 x)))) ])
          from (inr x) = inr (elim (ad.0 x) [ inl y ↦ inl y | inr y ↦ inr ((change_A g).0 y) ])

      pub freeing_keeps : Keeps c S (after InT S (E.And (freeing c p.names b style a (length vs) ++ change)) vs)
      freeing_keeps g l =
          let k = freed_keeps c b style p d S t T r h w known slot SD SA source_D source_A g l in
          let s = same_after g in
          (λ z. k.0 (s.1 z), λ z. s.0 (k.1 z))

      pub freeing_reads : Reads c b style p (after InT S (E.And (freeing c p.names b style a (length vs) ++ change)) vs) (freed c b style p d S t T r h w known slot SD SA source_D source_A) (Changed T SD SA)
      freeing_reads =
          let f = freed c b style p d S t T r h w known slot SD SA source_D source_A in
          reads_alike c b style p F (after InT S (E.And (freeing c p.names b style a (length vs) ++ change)) vs) f f (Changed T SD SA) (Changed T SD SA)
          same_after
          (record { holds = λ x v. (λ z. z, λ z. z); free = λ x. (λ z. z, λ z. z); before = λ x y. (λ z. z, λ z. z) })
          (λ g. (λ z. z, λ z. z))
          (freed_reads c b style p d S t T r h w known slot SD SA source_D source_A)
