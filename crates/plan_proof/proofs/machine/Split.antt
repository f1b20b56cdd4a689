-- A method with children: the slot's work goes, the new slots aren't free any more, the children and their pairs come.
use Rattle.std.proofs.Common.{ℕ, zero, suc, ◌≡◌, ◌↔◌, ◌⊎◌, ◌<◌, inl, inr, List, [], ◌∷◌, length, slice_get, Some, refl, ap, sym, subst, ◌∙◌, Contains, arith}
use Rattle.plan_model.specs.declared.options.Style.{Style}
use Rattle.plan_model.specs.declared.terms.GroundAtom.{GroundAtom}
use Rattle.plan_model.specs.declared.values.Compiled.{Compiled}
use Rattle.plan_model.specs.declared.values.Pddl.{Pddl}
use Rattle.plan_model.specs.task_networks.Net.{Net, count}
use Rattle.plan_model.specs.task_networks.Spelling.{apply}
use Rattle.plan_model.proofs.task_networks.Lists.{Contains-later, head_or_tail, not-in_empty}
use Rattle.slot_machine.specs.Machine as Machine
use Rattle.slot_machine.specs.Machine.{insert_at, with_heir, IsSlotOf}
use Rattle.slot_machine.proofs.Inserts.{insert_cases}
use Rattle.plan_model.specs.plan_meaning.Truth.{State}
use Rattle.plan_model.specs.plan_meaning.Network.{Work, GroundMethod, network}
use Rattle.slot_encoding.specs.EncodedNames.{free_predicate, before_predicate, guard_predicate}
use Rattle.slot_encoding.specs.EncodedValue.{atom}
use Rattle.slot_encoding.proofs.Pieces.{PredicatesDiffer, slot_object, IsSlot}
use Rattle.plan_proof.proofs.machine.Reading.{IsKnown, held, free_atom, pair, Reads, Keeps}
use Rattle.slot_encoding.proofs.places.ListPlaces.{get_contains, contains_get}
use Rattle.plan_proof.proofs.machine.Atoms.{one_slot, held_free, held_before, free_before, same_held, same_free, same_pair, source_held, source_free, source_before, behind_held, behind_free, behind_before}
use Rattle.plan_proof.proofs.machine.Freed.{Changed}

insert_keeps : (k h : ℕ) (hs : List ℕ) (x : ℕ) → Contains hs x → Contains (insert_at k h hs) x
insert_keeps zero h hs x d = Contains-later h hs x d
insert_keeps (suc k) h [] x d = absurd (not-in_empty x d)
insert_keeps (suc k) h (y ∷ hs) x d = elim (head_or_tail y hs x d) [ inl e ↦ (0, omega arith, e) | inr e ↦ Contains-later y (insert_at k h hs) x (insert_keeps k h hs x e) ]

module _ (c : Compiled) (b : ℕ) (style : Style) (p : Pddl) (d : PredicatesDiffer c) (S : State) (t : Machine.SlotState (network c)) (T : State) (r : Reads c b style p S t T) (h : ℕ) (new : List ℕ) (g : GroundMethod) where
  abbrev N : Net
  N = network c

  abbrev pub Goes : GroundAtom → Type 0
  Goes a = (a ≡ held c b style p h (N.head g)) ⊎ ((x : ℕ) × Contains new x × (a ≡ free_atom c b style p x))

  abbrev pub IsChild : GroundAtom → Type 0
  IsChild a = (i : ℕ) × (x : ℕ) × (w : Work) × IsSlotOf N h new g i x × (slice_get (N.works g) i ≡ Some w) × (a ≡ held c b style p x w)

  abbrev pub IsLink : GroundAtom → Type 0
  IsLink a = (i : ℕ) × (j : ℕ) × (x : ℕ) × (y : ℕ) × N.Pair g i j × IsSlotOf N h new g i x × IsSlotOf N h new g j y × (a ≡ pair c b style p x y)

  abbrev pub IsCopy : GroundAtom → Type 0
  IsCopy a = (i : ℕ) × (x : ℕ) × (y : ℕ) × N.IsCopier g i × IsSlotOf N h new g i x × IsSlot c b style p y × S (pair c b style p h y) × (a ≡ pair c b style p x y)

  abbrev pub Comes : GroundAtom → Type 0
  Comes a = IsChild a ⊎ (IsLink a ⊎ IsCopy a)

  abbrev split : Machine.SlotState N
  split = Machine.after_act N t (apply h new g)

  abbrev S' : State
  S' = Changed S Goes Comes

  module _ (holds : t.holds h (N.head g)) (alone : t.free h → ⊥) (hd : ℕ) (heir : N.heir g ≡ Some hd) (some : 0 < count N g)
      (children : (i : ℕ) (w : Work) → slice_get (N.works g) i ≡ Some w → IsKnown c w) (free : (x : ℕ) → Contains new x → t.free x) where
    known : IsKnown c (N.head g)
    known = ((r.holds h (N.head g)).0 holds).0

    slot : IsSlot c b style p h
    slot = ((r.holds h (N.head g)).0 holds).1

    new_slot : (x : ℕ) → Contains new x → IsSlot c b style p x
    new_slot x k = ((r.free x).0 (free x k)).0

    of_children : (i x : ℕ) → IsSlotOf N h new g i x → (h ≡ x) ⊎ Contains new x
    of_children i x s = insert_cases hd h new x (get_contains (insert_at hd h new) i x (subst (λ o. slice_get (with_heir o h new) i ≡ Some x) heir s))

    child_slot : (i x : ℕ) → IsSlotOf N h new g i x → IsSlot c b style p x
    child_slot i x s = elim (of_children i x s) [ inl e ↦ subst (IsSlot c b style p) e slot | inr k ↦ new_slot x k ]

    in_children : (x : ℕ) → Contains new x → (i : ℕ) × IsSlotOf N h new g i x
    in_children x k = let (i, e) = contains_get (insert_at hd h new) x (insert_keeps hd h new x k) in (i, subst (λ o. slice_get (with_heir o h new) i ≡ Some x) (sym heir) e)

    child_at : (i x y : ℕ) → IsSlotOf N h new g i x → x ≡ y → IsSlotOf N h new g i y
    child_at i x y s e = subst (IsSlotOf N h new g i) e s

    split_holds : (x : ℕ) (v : Work) → split.holds x v ↔ (IsKnown c v × IsSlot c b style p x × S' (held c b style p x v))
    split_holds x v = (to, from)
      where
        to : split.holds x v → IsKnown c v × IsSlot c b style p x × S' (held c b style p x v)
        to (inl (a, n)) =
            let (k, s, q) = (r.holds x v).0 a in
            (k, s, inl (q, λ z. elim z [ inl e ↦ n (same_held c b style p d x h v (N.head g) k known s slot e) | inr e ↦ held_free c b style p d x (slot_object c b style p e.0) v k e.2 ]))
        to (inr (i, s, e)) = (children i v e, child_slot i x s, inr (inl (i, x, v, s, e, refl)))

        from : IsKnown c v × IsSlot c b style p x × S' (held c b style p x v) → split.holds x v
        from (k, s, inl (q, n)) = inl ((r.holds x v).1 (k, s, q), λ e. n (inl (ap (λ z. held c b style p z v) e.0 ∙ ap (held c b style p h) e.1)))
        from (k, s, inr (inl (i, y, w, u, e, q))) =
            let f = same_held c b style p d x y v w k (children i w e) s (child_slot i y u) q in
            inr (i, child_at i y x u (sym f.0), e ∙ ap Some (sym f.1))
        from (k, s, inr (inr (inl (i, j, y, z, q, u, u', e)))) = absurd (held_before c b style p d x v (slot_object c b style p y ∷ slot_object c b style p z ∷ []) k e)
        from (k, s, inr (inr (inr (i, y, z, q, u, u', a, e)))) = absurd (held_before c b style p d x v (slot_object c b style p y ∷ slot_object c b style p z ∷ []) k e)

    split_free : (x : ℕ) → split.free x ↔ (IsSlot c b style p x × S' (free_atom c b style p x))
    split_free x = (to, from)
      where
        to : split.free x → IsSlot c b style p x × S' (free_atom c b style p x)
        to (inl (f, n)) =
            let (s, q) = (r.free x).0 f in (
              s,
              inl (
                q,
                λ z. elim z [
                  | inl e ↦ held_free c b style p d h (slot_object c b style p x) (N.head g) known (sym e)
                  | inr e ↦ (let i = in_children e.0 e.1 in n i.0 (child_at i.0 e.0 x i.1 (sym (same_free c b style p d x e.0 s (new_slot e.0 e.1) e.2))))
                ],
              ),
            )
        to (inr (z, e)) = absurd (omega (arith, some))

        from : IsSlot c b style p x × S' (free_atom c b style p x) → split.free x
        from (s, inl (q, n)) =
            let f = (r.free x).1 (s, q) in
            inl (f, λ i u. elim (of_children i x u) [ inl e ↦ alone (subst t.free (sym e) f) | inr k ↦ n (inr (x, k, refl)) ])
        from (s, inr (inl (i, y, w, u, e, q))) = absurd (held_free c b style p d y (slot_object c b style p x) w (children i w e) (sym q))
        from (s, inr (inr (inl (i, j, y, z, q, u, u', e)))) = absurd (free_before c b style p d (slot_object c b style p x) (slot_object c b style p y ∷ slot_object c b style p z ∷ []) e)
        from (s, inr (inr (inr (i, y, z, q, u, u', a, e)))) = absurd (free_before c b style p d (slot_object c b style p x) (slot_object c b style p y ∷ slot_object c b style p z ∷ []) e)

    split_before : (x y : ℕ) → split.before x y ↔ (IsSlot c b style p x × IsSlot c b style p y × S' (pair c b style p x y))
    split_before x y = (to, from)
      where
        os : List ℕ
        os = slot_object c b style p x ∷ slot_object c b style p y ∷ []

        to : split.before x y → IsSlot c b style p x × IsSlot c b style p y × S' (pair c b style p x y)
        to (inl (f, n)) =
            let (s, u, q) = (r.before x y).0 f in
            (s, u, inl (q, λ z. elim z [ inl e ↦ held_before c b style p d h (N.head g) (slot_object c b style p x ∷ slot_object c b style p y ∷ []) known (sym e) | inr e ↦ free_before c b style p d (slot_object c b style p e.0) (slot_object c b style p x ∷ slot_object c b style p y ∷ []) (sym e.2) ]))
        to (inr (inl (i, j, q, u, u'))) = (child_slot i x u, child_slot j y u', inr (inr (inl (i, j, x, y, q, u, u', refl))))
        to (inr (inr (i, q, u, f))) = let (s, k, a) = (r.before h y).0 f in (child_slot i x u, k, inr (inr (inr (i, x, y, q, u, k, a, refl))))

        both : (x' y' : ℕ) → IsSlot c b style p x → IsSlot c b style p y → IsSlot c b style p x' → IsSlot c b style p y' → pair c b style p x y ≡ pair c b style p x' y' → (x ≡ x') × (y ≡ y')
        both x' y' s k s' k' e =
            let f = same_pair c b style p d x (slot_object c b style p y) x' (slot_object c b style p y') s s' e in
            (f.0, one_slot c b style p y y' k k' f.1)

        from : IsSlot c b style p x × IsSlot c b style p y × S' (pair c b style p x y) → split.before x y
        from (s, k, inl (q, n)) = inl ((r.before x y).1 (s, k, q), λ z. (let l = z.0 in omega (arith, some)))
        from (s, k, inr (inl (i, z, w, u, e, q))) = absurd (held_before c b style p d z w (slot_object c b style p x ∷ slot_object c b style p y ∷ []) (children i w e) (sym q))
        from (s, k, inr (inr (inl (i, j, x', y', q, u, u', e)))) =
            let f = both x' y' s k (child_slot i x' u) (child_slot j y' u') e in
            inr (inl (i, j, q, child_at i x' x u (sym f.0), child_at j y' y u' (sym f.1)))
        from (s, k, inr (inr (inr (i, x', y', q, u, k', a, e)))) =
            let f = both x' y' s k (child_slot i x' u) k' e in
            inr (inr (i, q, child_at i x' x u (sym f.0), subst (t.before h) (sym f.1) ((r.before h y').1 (slot, k', a))))

    -- what is neither held, nor free, nor a pair stays
    stays : (a : GroundAtom) → ((x : ℕ) (w : Work) → IsKnown c w → a ≡ held c b style p x w → ⊥) → ((o : ℕ) → a ≡ atom (free_predicate c) o → ⊥) → ((os : List ℕ) → a ≡ record { predicate = before_predicate c; args = os } → ⊥) → S' a ↔ S a
    stays a not_held not_free not_pair = (to, λ q. inl (q, goes))
      where
        goes : Goes a → ⊥
        goes (inl e) = not_held h (N.head g) known e
        goes (inr (x, k, e)) = not_free (slot_object c b style p x) e

        to : S' a → S a
        to (inl (q, n)) = q
        to (inr (inl (i, x, w, u, e, f))) = absurd (not_held x w (children i w e) f)
        to (inr (inr (inl (i, j, x, y, q, u, u', e)))) = absurd (not_pair (slot_object c b style p x ∷ slot_object c b style p y ∷ []) e)
        to (inr (inr (inr (i, x, y, q, u, k, f, e)))) = absurd (not_pair (slot_object c b style p x ∷ slot_object c b style p y ∷ []) e)

    -- so does what has the predicate of a guard, or a later one
    pub split_keeps : Keeps c S S'
    split_keeps a l = stays a (λ x w k e. behind_held c b style p d a x w l k e) (λ o e. behind_free c b style p d a o l e) (λ os e. behind_before c b style p d a os l e)

    pub split_reads : Reads c b style p S' split T
    split_reads = record {
      holds = split_holds;
      free = split_free;
      before = split_before;
      source = λ a l. (let q = r.source a l in let k = stays a
          (λ x w known e. source_held c b style p d x w known (subst (λ (z : GroundAtom). z.predicate < length c.hddl.predicates) e l))
          (λ o e. source_free c b style p d (subst (λ (z : GroundAtom). z.predicate < length c.hddl.predicates) e l))
          (λ os e. source_before c b style p d (subst (λ (z : GroundAtom). z.predicate < length c.hddl.predicates) e l)) in (λ z. q.0 (k.0 z), λ z. k.1 (q.1 z)));
      guards = λ ty o m. (let q = r.guards ty o m in let k = split_keeps (atom (guard_predicate c ty) o) (omega arith) in (λ z. q.0 (k.0 z), λ z. k.1 (q.1 z)));
    }
