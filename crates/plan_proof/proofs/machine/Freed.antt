-- What is held goes, its slot is free, and the pairs that leave it are deleted.
use Rattle.std.proofs.Common.{ℕ, ◌≡◌, ◌↔◌, ◌⊎◌, ◌<◌, inl, inr, [], ◌∷◌, length, refl, ap, sym, subst, ◌∙◌, Contains, arith}
use Rattle.plan_model.specs.declared.options.Style.{Style}
use Rattle.plan_model.specs.declared.terms.GroundAtom.{GroundAtom}
use Rattle.plan_model.specs.declared.values.Compiled.{Compiled}
use Rattle.plan_model.specs.declared.values.Pddl.{Pddl}
use Rattle.slot_machine.specs.Machine as Machine
use Rattle.slot_machine.specs.OtherMachine.{AreSame}
use Rattle.plan_model.specs.plan_meaning.Truth.{State}
use Rattle.plan_model.specs.plan_meaning.Network.{Work, network, InTypeOf}
use Rattle.slot_encoding.specs.EncodedNames.{guard_types, guard_predicate}
use Rattle.slot_encoding.specs.EncodedValue.{atom}
use Rattle.slot_encoding.proofs.Pieces.{PredicatesDiffer, slot_object, IsSlot, IsSlotObject}
use Rattle.plan_proof.proofs.machine.Reading.{IsKnown, held, free_atom, before_atom, pair, Reads, Keeps}
use Rattle.plan_proof.proofs.machine.Atoms.{slot_of, held_free, held_before, free_before, same_held, same_free, same_pair, source_held, source_free, source_before, behind_held, behind_free, behind_before, behind_source}

-- the state after, where the effect deletes D and adds A
abbrev pub Changed : State → (D A : GroundAtom → Type 0) → State
Changed S D A g = (S g × (D g → ⊥)) ⊎ A g

module _ (c : Compiled) (b : ℕ) (style : Style) (p : Pddl) where
  -- equal states read the same
  pub reads_alike : (S S' : State) (t t' : Machine.SlotState (network c)) (T T' : State) → ((g : GroundAtom) → S g ↔ S' g) → AreSame (network c) t t' → ((g : GroundAtom) → T g ↔ T' g) → Reads c b style p S t T → Reads c b style p S' t' T'
  reads_alike S S' t t' T T' s m q r = record {
    holds = λ x w. (let h = r.holds x w in let a = m.holds x w in let e = s (held c b style p x w) in (λ k. (let z = h.0 (a.1 k) in (z.0, z.1, e.0 z.2)), λ z. a.0 (h.1 (z.0, z.1, e.1 z.2))));
    free = λ x. (let h = r.free x in let a = m.free x in let e = s (free_atom c b style p x) in (λ k. (let z = h.0 (a.1 k) in (z.0, e.0 z.1)), λ z. a.0 (h.1 (z.0, e.1 z.1))));
    before = λ x y. (let h = r.before x y in let a = m.before x y in let e = s (pair c b style p x y) in (λ k. (let z = h.0 (a.1 k) in (z.0, z.1, e.0 z.2)), λ z. a.0 (h.1 (z.0, z.1, e.1 z.2))));
    source = λ g l. (let h = r.source g l in (λ k. (q g).0 (h.0 ((s g).1 k)), λ k. (s g).0 (h.1 ((q g).1 k))));
    guards = λ ty o k. (let h = r.guards ty o k in let e = s (atom (guard_predicate c ty) o) in (λ z. h.0 (e.1 z), λ z. e.0 (h.1 z)));
  }

  module _ (d : PredicatesDiffer c) (S : State) (t : Machine.SlotState (network c)) (T : State) (r : Reads c b style p S t T) (h : ℕ) (w : Work) (known : IsKnown c w) (slot : IsSlot c b style p h)
      (D A : GroundAtom → Type 0) (source_D : (g : GroundAtom) → D g → g.predicate < length c.hddl.predicates) (source_A : (g : GroundAtom) → A g → g.predicate < length c.hddl.predicates) where
    abbrev pub Goes : GroundAtom → Type 0
    Goes g = (g ≡ held c b style p h w) ⊎ (((o : ℕ) × IsSlotObject c b style p o × (g ≡ before_atom c b style p h o)) ⊎ D g)

    abbrev pub Comes : GroundAtom → Type 0
    Comes g = (g ≡ free_atom c b style p h) ⊎ A g

    abbrev pub freed : Machine.SlotState (network c)
    freed = record {
      holds = λ x v. t.holds x v × ((x ≡ h) × (v ≡ w) → ⊥);
      free = λ x. t.free x ⊎ (x ≡ h);
      before = λ x y. t.before x y × (x ≡ h → ⊥);
    }

    abbrev S' : State
    S' = Changed S Goes Comes

    freed_holds : (x : ℕ) (v : Work) → freed.holds x v ↔ (IsKnown c v × IsSlot c b style p x × S' (held c b style p x v))
    freed_holds x v = (to, from)
      where
        to : freed.holds x v → IsKnown c v × IsSlot c b style p x × S' (held c b style p x v)
        to (a, n) =
            let (k, s, q) = (r.holds x v).0 a in
            (k, s, inl (q, λ z. elim z [ inl e ↦ n (same_held c b style p d x h v w k known s slot e) | inr (inl e) ↦ held_before c b style p d x v (slot_object c b style p h ∷ e.0 ∷ []) k e.2 | inr (inr e) ↦ source_held c b style p d x v k (source_D (held c b style p x v) e) ]))

        from : IsKnown c v × IsSlot c b style p x × S' (held c b style p x v) → freed.holds x v
        from (k, s, inl (q, n)) = ((r.holds x v).1 (k, s, q), λ e. n (inl (ap (λ z. held c b style p z v) e.0 ∙ ap (held c b style p h) e.1)))
        from (k, s, inr (inl e)) = absurd (held_free c b style p d x (slot_object c b style p h) v k e)
        from (k, s, inr (inr a)) = absurd (source_held c b style p d x v k (source_A (held c b style p x v) a))

    freed_free : (x : ℕ) → freed.free x ↔ (IsSlot c b style p x × S' (free_atom c b style p x))
    freed_free x = (to, from)
      where
        to : freed.free x → IsSlot c b style p x × S' (free_atom c b style p x)
        to (inl f) =
            let (s, q) = (r.free x).0 f in
            (s, inl (q, λ z. elim z [ inl e ↦ held_free c b style p d h (slot_object c b style p x) w known (sym e) | inr (inl e) ↦ free_before c b style p d (slot_object c b style p x) (slot_object c b style p h ∷ e.0 ∷ []) e.2 | inr (inr e) ↦ source_free c b style p d (source_D (free_atom c b style p x) e) ]))
        to (inr e) = (subst (IsSlot c b style p) (sym e) slot, inr (inl (ap (free_atom c b style p) e)))

        from : IsSlot c b style p x × S' (free_atom c b style p x) → freed.free x
        from (s, inl (q, n)) = inl ((r.free x).1 (s, q))
        from (s, inr (inl e)) = inr (same_free c b style p d x h s slot e)
        from (s, inr (inr a)) = absurd (source_free c b style p d (source_A (free_atom c b style p x) a))

    freed_before : (x y : ℕ) → freed.before x y ↔ (IsSlot c b style p x × IsSlot c b style p y × S' (pair c b style p x y))
    freed_before x y = (to, from)
      where
        to : freed.before x y → IsSlot c b style p x × IsSlot c b style p y × S' (pair c b style p x y)
        to (f, n) =
            let (s, u, q) = (r.before x y).0 f in
            (s, u, inl (q, λ z. elim z [ inl e ↦ held_before c b style p d h w (slot_object c b style p x ∷ slot_object c b style p y ∷ []) known (sym e) | inr (inl e) ↦ n (same_pair c b style p d x (slot_object c b style p y) h e.0 s slot e.2).0 | inr (inr e) ↦ source_before c b style p d (source_D (pair c b style p x y) e) ]))

        from : IsSlot c b style p x × IsSlot c b style p y × S' (pair c b style p x y) → freed.before x y
        from (s, u, inl (q, n)) = ((r.before x y).1 (s, u, q), λ e. n (inr (inl (slot_object c b style p y, (slot_of c b style p (slot_object c b style p y)).1 (y, u, refl), ap (λ z. pair c b style p z y) e))))
        from (s, u, inr (inl e)) = absurd (free_before c b style p d (slot_object c b style p h) (slot_object c b style p x ∷ slot_object c b style p y ∷ []) (sym e))
        from (s, u, inr (inr a)) = absurd (source_before c b style p d (source_A (pair c b style p x y) a))

    freed_source : (g : GroundAtom) → g.predicate < length c.hddl.predicates → S' g ↔ Changed T D A g
    freed_source g l = (to, from)
      where
        of_held : g ≡ held c b style p h w → ⊥
        of_held e = source_held c b style p d h w known (subst (λ (z : GroundAtom). z.predicate < length c.hddl.predicates) e l)

        to : S' g → Changed T D A g
        to (inl (q, n)) = inl ((r.source g l).0 q, λ z. n (inr (inr z)))
        to (inr (inl e)) = absurd (source_free c b style p d (subst (λ (z : GroundAtom). z.predicate < length c.hddl.predicates) e l))
        to (inr (inr a)) = inr a

        from : Changed T D A g → S' g
        from (inl (q, n)) = inl ((r.source g l).1 q, λ z. elim z [ inl e ↦ of_held e | inr (inl e) ↦ source_before c b style p d (subst (λ (z : GroundAtom). z.predicate < length c.hddl.predicates) e.2 l) | inr (inr e) ↦ n e ])
        from (inr a) = inr (inr a)

    -- what has the predicate of a guard, or a later one, stays
    pub freed_keeps : Keeps c S S'
    freed_keeps g l = (to, λ q. inl (q, goes))
      where
        goes : Goes g → ⊥
        goes (inl e) = behind_held c b style p d g h w l known e
        goes (inr (inl e)) = behind_before c b style p d g (slot_object c b style p h ∷ e.0 ∷ []) l e.2
        goes (inr (inr e)) = behind_source c b style p d g l (source_D g e)

        to : S' g → S g
        to (inl (q, n)) = q
        to (inr (inl e)) = absurd (behind_free c b style p d g (slot_object c b style p h) l e)
        to (inr (inr a)) = absurd (behind_source c b style p d g l (source_A g a))

    freed_guards : (ty o : ℕ) → Contains (guard_types c) ty → S' (atom (guard_predicate c ty) o) ↔ InTypeOf c o ty
    freed_guards ty o k = let q = r.guards ty o k in let s = freed_keeps (atom (guard_predicate c ty) o) (omega arith) in (λ z. q.0 (s.0 z), λ z. s.1 (q.1 z))

    pub freed_reads : Reads c b style p S' freed (Changed T D A)
    freed_reads = record { holds = freed_holds; free = freed_free; before = freed_before; source = freed_source; guards = freed_guards }
