-- What is held goes, works come into cells, and the tip goes from one cell to another.
use Rattle.std.proofs.Common.{ℕ, ◌≡◌, ◌↔◌, ◌⊎◌, ◌<◌, ◌≤◌, inl, inr, List, length, refl, ap, sym, subst, ◌∙◌, Contains, arith}
use Rattle.plan_model.specs.declared.terms.GroundAtom.{GroundAtom}
use Rattle.plan_model.specs.declared.effects.Effect.{Effect}
use Rattle.plan_model.specs.declared.values.Compiled.{Compiled}
use Rattle.plan_model.specs.declared.values.Pddl.{Pddl}
use Rattle.plan_model.specs.plan_meaning.Truth.{State, Adds, Deletes, after}
use Rattle.plan_model.specs.plan_meaning.ClassicalPlan as Printed
use Rattle.plan_model.specs.plan_meaning.Network.{Work, network, InTypeOf}
use Rattle.slot_encoding.specs.EncodedNames.{guard_types, guard_predicate}
use Rattle.slot_encoding.specs.EncodedValue.{atom}
use Rattle.slot_encoding.proofs.Pieces.{PredicatesDiffer}
use Rattle.plan_proof.proofs.machine.Reading.{IsKnown, Keeps}
use Rattle.plan_proof.proofs.machine.Freed.{Changed}
use Rattle.stack_machine.specs.StackMachine.{StackState, AreSameStacks}
use Rattle.stack_proof.proofs.machine.StackReading.{IsCell, held, tip_atom, up_atom, Reads}
use Rattle.stack_proof.proofs.machine.CellAtoms.{held_tip, held_up, tip_up, same_held, same_tip, source_held, source_tip, source_up, behind_held, behind_tip, behind_source}

module _ (c : Compiled) (b : ℕ) (p : Pddl) where
  -- equal states read the same
  pub reads_alike : (S S' : State) (t t' : StackState (network c)) (T T' : State) → ((g : GroundAtom) → S g ↔ S' g) → AreSameStacks (network c) t t' → ((g : GroundAtom) → T g ↔ T' g) → Reads c b p S t T → Reads c b p S' t' T'
  reads_alike S S' t t' T T' s m q r = record {
    holds = λ x w. (let h = r.holds x w in let a = m.holds x w in let e = s (held c b p x w) in (λ k. (let z = h.0 (a.1 k) in (z.0, z.1, e.0 z.2)), λ z. a.0 (h.1 (z.0, z.1, e.1 z.2))));
    bottom = λ w k z. r.bottom w k ((s (held c b p 0 w)).1 z);
    tip = λ x. (let h = r.tip x in let a = m.tip x in let e = s (tip_atom c b p x) in (λ k. (let z = h.0 (a.1 k) in (z.0, e.0 z.1)), λ z. a.0 (h.1 (z.0, e.1 z.1))));
    source = λ g l. (let h = r.source g l in (λ k. (q g).0 (h.0 ((s g).1 k)), λ k. (s g).0 (h.1 ((q g).1 k))));
    guards = λ ty o k. (let h = r.guards ty o k in let e = s (atom (guard_predicate c ty) o) in (λ z. h.0 (e.1 z), λ z. e.0 (h.1 z)));
    ups = λ x y l k. (let h = r.ups x y l k in let e = s (up_atom c b p x y) in (λ z. h.0 (e.1 z), λ z. e.0 (h.1 z)));
  }

  -- K: what comes into which cell; Leaves: the tip leaves cell h; V: where it comes; D and A: what the source part deletes and adds
  module _ (d : PredicatesDiffer c) (S : State) (t : StackState (network c)) (T : State) (r : Reads c b p S t T) (h : ℕ) (w : Work) (known : IsKnown c w)
      (K : ℕ → Work → Type 0) (new : (x : ℕ) (v : Work) → K x v → IsKnown c v × IsCell c b p x) (Leaves : Type 0) (V : ℕ → Type 0) (low : (x : ℕ) → V x → x ≤ b)
      (D A : GroundAtom → Type 0) (source_D : (g : GroundAtom) → D g → g.predicate < length c.hddl.predicates) (source_A : (g : GroundAtom) → A g → g.predicate < length c.hddl.predicates) where
    abbrev pub Goes : GroundAtom → Type 0
    Goes g = (g ≡ held c b p h w) ⊎ ((Leaves × (g ≡ tip_atom c b p h)) ⊎ D g)

    abbrev pub Comes : GroundAtom → Type 0
    Comes g = ((x : ℕ) × (v : Work) × K x v × (g ≡ held c b p x v)) ⊎ (((x : ℕ) × V x × (g ≡ tip_atom c b p x)) ⊎ A g)

    abbrev pub moved : StackState (network c)
    moved = record {
      holds = λ x v. (t.holds x v × ((x ≡ h) × (v ≡ w) → ⊥)) ⊎ K x v;
      tip = λ x. (t.tip x × (Leaves × (x ≡ h) → ⊥)) ⊎ V x;
    }

    abbrev S' : State
    S' = Changed S Goes Comes

    moved_holds : (x : ℕ) (v : Work) → moved.holds x v ↔ (IsKnown c v × IsCell c b p x × S' (held c b p x v))
    moved_holds x v = (to, from)
      where
        to : moved.holds x v → IsKnown c v × IsCell c b p x × S' (held c b p x v)
        to (inl (a, n)) =
            let (k, s, q) = (r.holds x v).0 a in
            (k, s, inl (q, λ z. elim z [ inl e ↦ n (same_held c b p d x h v w k known e) | inr (inl e) ↦ held_tip c b p d x h v k e.1 | inr (inr e) ↦ source_held c b p d x v k (source_D (held c b p x v) e) ]))
        to (inr k) = let s = new x v k in (s.0, s.1, inr (inl (x, v, k, refl)))

        from : IsKnown c v × IsCell c b p x × S' (held c b p x v) → moved.holds x v
        from (k, s, inl (q, n)) = inl ((r.holds x v).1 (k, s, q), λ e. n (inl (ap (λ z. held c b p z v) e.0 ∙ ap (held c b p h) e.1)))
        from (k, s, inr (inl (y, u, l, e))) =
            let f = same_held c b p d x y v u k (new y u l).0 e in
            inr (subst (λ z. K z v) (sym f.0) (subst (K y) (sym f.1) l))
        from (k, s, inr (inr (inl e))) = absurd (held_tip c b p d x e.0 v k e.2)
        from (k, s, inr (inr (inr a))) = absurd (source_held c b p d x v k (source_A (held c b p x v) a))

    moved_bottom : (v : Work) → IsKnown c v → S' (held c b p 0 v) → ⊥
    moved_bottom v k (inl (q, n)) = r.bottom v k q
    moved_bottom v k (inr (inl (y, u, l, e))) = let f = same_held c b p d 0 y v u k (new y u l).0 e in let g = (new y u l).1.0 in omega (arith, f.0)
    moved_bottom v k (inr (inr (inl e))) = held_tip c b p d 0 e.0 v k e.2
    moved_bottom v k (inr (inr (inr a))) = source_held c b p d 0 v k (source_A (held c b p 0 v) a)

    moved_tip : (x : ℕ) → moved.tip x ↔ ((x ≤ b) × S' (tip_atom c b p x))
    moved_tip x = (to, from)
      where
        to : moved.tip x → (x ≤ b) × S' (tip_atom c b p x)
        to (inl (f, n)) =
            let (s, q) = (r.tip x).0 f in
            (s, inl (q, λ z. elim z [ inl e ↦ held_tip c b p d h x w known (sym e) | inr (inl e) ↦ n (e.0, same_tip c b p d x h e.1) | inr (inr e) ↦ source_tip c b p d (source_D (tip_atom c b p x) e) ]))
        to (inr k) = (low x k, inr (inr (inl (x, k, refl))))

        from : (x ≤ b) × S' (tip_atom c b p x) → moved.tip x
        from (s, inl (q, n)) = inl ((r.tip x).1 (s, q), λ e. n (inr (inl (e.0, ap (tip_atom c b p) e.1))))
        from (s, inr (inl (y, u, l, e))) = absurd (held_tip c b p d y x u (new y u l).0 (sym e))
        from (s, inr (inr (inl (y, l, e)))) = inr (subst V (sym (same_tip c b p d x y e)) l)
        from (s, inr (inr (inr a))) = absurd (source_tip c b p d (source_A (tip_atom c b p x) a))

    moved_source : (g : GroundAtom) → g.predicate < length c.hddl.predicates → S' g ↔ Changed T D A g
    moved_source g l = (to, from)
      where
        below : (a : GroundAtom) → g ≡ a → a.predicate < length c.hddl.predicates
        below a e = subst (λ (z : GroundAtom). z.predicate < length c.hddl.predicates) e l

        to : S' g → Changed T D A g
        to (inl (q, n)) = inl ((r.source g l).0 q, λ z. n (inr (inr z)))
        to (inr (inl (x, v, k, e))) = absurd (source_held c b p d x v (new x v k).0 (below (held c b p x v) e))
        to (inr (inr (inl (x, k, e)))) = absurd (source_tip c b p d (below (tip_atom c b p x) e))
        to (inr (inr (inr a))) = inr a

        from : Changed T D A g → S' g
        from (inl (q, n)) = inl (
          (r.source g l).1 q,
          λ z. elim z [ inl e ↦ source_held c b p d h w known (below (held c b p h w) e) | inr (inl e) ↦ source_tip c b p d (below (tip_atom c b p h) e.1) | inr (inr e) ↦ n e ],
        )
        from (inr a) = inr (inr (inr a))

    -- what has the predicate of a guard, or a later one, stays
    moved_keeps : Keeps c S S'
    moved_keeps g l = (to, λ q. inl (q, goes))
      where
        goes : Goes g → ⊥
        goes (inl e) = behind_held c b p d g h w l known e
        goes (inr (inl e)) = behind_tip c b p d g h l e.1
        goes (inr (inr e)) = behind_source c b p d g l (source_D g e)

        to : S' g → S g
        to (inl (q, n)) = q
        to (inr (inl (x, v, k, e))) = absurd (behind_held c b p d g x v l (new x v k).0 e)
        to (inr (inr (inl (x, k, e)))) = absurd (behind_tip c b p d g x l e)
        to (inr (inr (inr a))) = absurd (behind_source c b p d g l (source_A g a))

    -- and so does which cell is above which
    moved_ups : (x y : ℕ) → S' (up_atom c b p x y) ↔ S (up_atom c b p x y)
    moved_ups x y = (to, λ q. inl (q, goes))
      where
        goes : Goes (up_atom c b p x y) → ⊥
        goes (inl e) = held_up c b p d h x y w known (sym e)
        goes (inr (inl e)) = tip_up c b p d h x y (sym e.1)
        goes (inr (inr e)) = source_up c b p d (source_D (up_atom c b p x y) e)

        to : S' (up_atom c b p x y) → S (up_atom c b p x y)
        to (inl (q, n)) = q
        to (inr (inl (z, v, k, e))) = absurd (held_up c b p d z x y v (new z v k).0 (sym e))
        to (inr (inr (inl (z, k, e)))) = absurd (tip_up c b p d z x y (sym e))
        to (inr (inr (inr a))) = absurd (source_up c b p d (source_A (up_atom c b p x y) a))

    moved_guards : (ty o : ℕ) → Contains (guard_types c) ty → S' (atom (guard_predicate c ty) o) ↔ InTypeOf c o ty
    moved_guards ty o k = let q = r.guards ty o k in let s = moved_keeps (atom (guard_predicate c ty) o) (omega arith) in (λ z. q.0 (s.0 z), λ z. s.1 (q.1 z))

    moved_reads : Reads c b p S' moved (Changed T D A)
    moved_reads = record {
      holds = moved_holds;
      bottom = moved_bottom;
      tip = moved_tip;
      source = moved_source;
      guards = moved_guards;
      ups = λ x y l k. (let q = r.ups x y l k in let s = moved_ups x y in (λ z. q.0 (s.0 z), λ z. s.1 (q.1 z)));
    }

    -- the state after an effect that deletes and adds just these
    module _ (e : Effect) (vs : List ℕ) (deletes : (g : GroundAtom) → Deletes (Printed.InTypeOf p) S e vs g ↔ Goes g) (adds : (g : GroundAtom) → Adds (Printed.InTypeOf p) S e vs g ↔ Comes g) where
      same : (g : GroundAtom) → S' g ↔ after (Printed.InTypeOf p) S e vs g
      same g = (
        λ k. elim k [ inl y ↦ inl (y.0, λ q. y.1 ((deletes g).0 q)) | inr y ↦ inr ((adds g).1 y) ],
        λ k. elim k [ inl y ↦ inl (y.0, λ q. y.1 ((deletes g).1 q)) | inr y ↦ inr ((adds g).0 y) ],
      )

      pub effect_keeps : Keeps c S (after (Printed.InTypeOf p) S e vs)
      effect_keeps g l = let k = moved_keeps g l in let s = same g in (λ z. k.0 (s.1 z), λ z. s.0 (k.1 z))

      -- reads as any state that says the same as the one moved
      pub effect_reads : (t' : StackState (network c)) (T' : State) → AreSameStacks (network c) moved t' → ((g : GroundAtom) → Changed T D A g ↔ T' g) → Reads c b p (after (Printed.InTypeOf p) S e vs) t' T'
      effect_reads t' T' m q = reads_alike S' (after (Printed.InTypeOf p) S e vs) moved t' (Changed T D A) T' same m q moved_reads
