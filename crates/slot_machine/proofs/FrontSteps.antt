-- A front grows by one step, and shrinks by one.
use Rattle.std.proofs.Common.{ℕ, ◌≡◌, ◌≢◌, ◌⊎◌, inl, inr, List, [], ◌∷◌, ◌++◌, Option, Some, None, option_map, slice_get, refl, ap, sym, subst, ◌∙◌, Contains, append_assoc}
use Rattle.std.proofs.lemmas.List.Elements.{Contains-append_left, Contains-push, Contains-push_cases}
use Rattle.plan_model.specs.task_networks.Net.{Net}
use Rattle.plan_model.specs.task_networks.Tree.{waits, Label, IsTaken, Tree, Address, IsOpen, IsProcessed, label_at, IsAddress, used, IsAbove}
use Rattle.plan_model.specs.task_networks.Schedule.{Blocks, IsDue, IsSchedule}
use Rattle.plan_model.proofs.task_networks.Addresses.{not-below_parent, below-itself, is_same_address}
use Rattle.plan_model.proofs.task_networks.Lists.{cut_push, cut_at}
use Rattle.slot_machine.proofs.Growth.{IsGrowth, child_works, place}

module _ (N : Net) where
  pub waits_only : (o : Option N.Work) (l : Label N) → option_map waits o ≡ Some l → (v : N.Work) × (l ≡ waits v) × (o ≡ Some v)
  waits_only None l e = absurd cc
  waits_only (Some v) l e = (v, cc, refl)

  pub taken_apart : (l : Label N) (w : N.Work) → l ≡ waits w → IsTaken N l → ⊥
  taken_apart l w e t = let h : IsTaken N (waits w) = subst (IsTaken N) e t in h

  pub open_address : (tree : Tree N) (u : Address) → IsOpen N tree u → IsAddress N tree u
  open_address tree u (w, e) = (waits w, e)

  pub open_apart : (tree : Tree N) (p : Address) → IsOpen N tree p → IsProcessed N tree p → ⊥
  open_apart tree p (w, e) (l, f, t) = taken_apart l w (cc) t

  module _ (tree tree' : Tree N) (p : Address) (w : N.Work) (l : Label N) (g : IsGrowth N tree tree' p w l) where
    -- a node other than p and its children has the same label
    pub child_waits : (i : ℕ) (k : Label N) → label_at N tree' (i ∷ p) ≡ Some k → (v : N.Work) × (k ≡ waits v) × (slice_get (child_works N l) i ≡ Some v)
    child_waits i k e = waits_only (slice_get (child_works N l) i) k (sym (g.children i) ∙ e)

    pub address_grows : (q : Address) → IsAddress N tree q → IsAddress N tree' q
    address_grows q (k, e) = go (place N p q)
      where
        go : (q ≡ p) ⊎ (((i : ℕ) × (q ≡ i ∷ p)) ⊎ ((q ≢ p) × ((i : ℕ) → q ≢ i ∷ p))) → IsAddress N tree' q
        go (inl f) = (l, ap (label_at N tree') f ∙ g.now)
        go (inr (inl (i, f))) = let h = g.childless i in let x = ap (label_at N tree) f in absurd cc
        go (inr (inr (a, b))) = (k, g.others q a b ∙ e)

    pub address_back : (q : Address) → IsAddress N tree' q → IsAddress N tree q ⊎ ((i : ℕ) × (q ≡ i ∷ p))
    address_back q (k, e) = go (place N p q)
      where
        go : (q ≡ p) ⊎ (((i : ℕ) × (q ≡ i ∷ p)) ⊎ ((q ≢ p) × ((i : ℕ) → q ≢ i ∷ p))) → IsAddress N tree q ⊎ ((i : ℕ) × (q ≡ i ∷ p))
        go (inl f) = inl (waits w, ap (label_at N tree) f ∙ g.was)
        go (inr (inl h)) = inr h
        go (inr (inr (a, b))) = inl (k, sym (g.others q a b) ∙ e)

    pub processed_grows : (q : Address) → IsProcessed N tree q → (q ≢ p) × IsProcessed N tree' q
    processed_grows q (k, e, t) = go (place N p q)
      where
        go : (q ≡ p) ⊎ (((i : ℕ) × (q ≡ i ∷ p)) ⊎ ((q ≢ p) × ((i : ℕ) → q ≢ i ∷ p))) → (q ≢ p) × IsProcessed N tree' q
        go (inl f) = absurd (taken_apart k w (let x = ap (label_at N tree) f in let y = g.was in cc) t)
        go (inr (inl (i, f))) = let h = g.childless i in let x = ap (label_at N tree) f in absurd cc
        go (inr (inr (a, b))) = (a, (k, g.others q a b ∙ e, t))

    pub processed_back : (q : Address) → q ≢ p → IsProcessed N tree' q → IsProcessed N tree q
    processed_back q n (k, e, t) = go (place N p q)
      where
        go : (q ≡ p) ⊎ (((i : ℕ) × (q ≡ i ∷ p)) ⊎ ((q ≢ p) × ((i : ℕ) → q ≢ i ∷ p))) → IsProcessed N tree q
        go (inl f) = absurd (n f)
        go (inr (inl (i, f))) = let h = child_waits i k (sym (ap (label_at N tree') f) ∙ e) in absurd (taken_apart k h.0 h.1 t)
        go (inr (inr (a, b))) = (k, sym (g.others q a b) ∙ e, t)

    pub used_grows : (q : Address) (m : N.Method) → label_at N tree q ≡ Some (used m) → (q ≢ p) × (label_at N tree' q ≡ Some (used m))
    used_grows q m e = go (place N p q)
      where
        go : (q ≡ p) ⊎ (((i : ℕ) × (q ≡ i ∷ p)) ⊎ ((q ≢ p) × ((i : ℕ) → q ≢ i ∷ p))) → (q ≢ p) × (label_at N tree' q ≡ Some (used m))
        go (inl f) = let x = ap (label_at N tree) f in let y = g.was in absurd cc
        go (inr (inl (i, f))) = let h = g.childless i in let x = ap (label_at N tree) f in absurd cc
        go (inr (inr (a, b))) = (a, g.others q a b ∙ e)

    pub used_back : (q : Address) (m : N.Method) → q ≢ p → label_at N tree' q ≡ Some (used m) → label_at N tree q ≡ Some (used m)
    used_back q m n e = go (place N p q)
      where
        go : (q ≡ p) ⊎ (((i : ℕ) × (q ≡ i ∷ p)) ⊎ ((q ≢ p) × ((i : ℕ) → q ≢ i ∷ p))) → label_at N tree q ≡ Some (used m)
        go (inl f) = absurd (n f)
        go (inr (inl (i, f))) = let h = child_waits i (used m) (sym (ap (label_at N tree') f) ∙ e) in absurd (taken_apart (used m) h.0 h.1 tt)
        go (inr (inr (a, b))) = sym (g.others q a b) ∙ e

    pub blocks_grows : (u v : Address) → Blocks N tree u v → Blocks N tree' u v
    blocks_grows u [] b = b
    blocks_grows u (j ∷ q) (m, i, e, c, d) = (m, i, (used_grows q m e).1, c, d)

    pub blocks_back : (u : Address) (j : ℕ) (q : Address) → q ≢ p → Blocks N tree' u (j ∷ q) → Blocks N tree u (j ∷ q)
    blocks_back u j q n (m, i, e, c, d) = (m, i, used_back q m n e, c, d)

    -- what blocks a child of p that is no sibling blocks p: so too the other way
    pub due_grows : (taken : List Address) (v : Address) → IsProcessed N tree v → (Contains taken p → ⊥) → IsDue N tree taken v → IsDue N tree' taken v
    due_grows taken v pv np d = record { fresh = d.fresh; begun = d.begun; clear = clear v pv d }
      where
        clear : (v : Address) → IsProcessed N tree v → IsDue N tree taken v → (u : Address) → IsAddress N tree' u → Blocks N tree' u v → Contains taken u
        clear [] pv d u a b = absurd b
        clear (j ∷ q) pv d u a b = go (address_back u a)
          where
            n : q ≢ p
            n f = let h = g.childless j in let x = ap (λ y. label_at N tree (j ∷ y)) f in let z = pv.1 in absurd cc

            b' : Blocks N tree u (j ∷ q)
            b' = blocks_back u j q n b

            up : (i : ℕ) → u ≡ i ∷ p → Blocks N tree p (j ∷ q)
            up i f = (b'.0, b'.1, b'.2, b'.3, inside (subst (λ x. IsAbove (b'.1 ∷ q) x) f b'.4))
              where
                inside : (b'.1 ∷ q ≡ i ∷ p) ⊎ IsAbove (b'.1 ∷ q) p → IsAbove (b'.1 ∷ q) p
                inside (inl h) = absurd (n cc)
                inside (inr h) = h

            go : IsAddress N tree u ⊎ ((i : ℕ) × (u ≡ i ∷ p)) → Contains taken u
            go (inl x) = d.clear u x b'
            go (inr (i, f)) = absurd (np (d.clear p (waits w, g.was) (up i f)))

    pub due_back : (taken : List Address) (v : Address) → IsDue N tree' taken v → IsDue N tree taken v
    due_back taken v d = record { fresh = d.fresh; begun = d.begun; clear = λ u a b. d.clear u (address_grows u a) (blocks_grows u v b) }

    open_p : IsOpen N tree p
    open_p = (w, g.was)

    pub schedule_grows : (order : List Address) → IsSchedule N tree order → IsDue N tree' order p → IsSchedule N tree' (order ++ p ∷ [])
    schedule_grows order s d = record { covers = λ q. (to q, from q (is_same_address q p)); due = λ taken rest q e. dues taken rest q (cut_push order p taken q rest e) }
      where
        not_p : Contains order p → ⊥
        not_p c = open_apart tree p open_p ((s.covers p).0 c)

        to : (q : Address) → Contains (order ++ p ∷ []) q → IsProcessed N tree' q
        to q c = elim (Contains-push_cases order p q c) [ inl x ↦ (processed_grows q ((s.covers q).0 x)).1 | inr x ↦ subst (IsProcessed N tree') x (l, g.now, g.taken) ]

        from : (q : Address) → Dec (q ≡ p) → IsProcessed N tree' q → Contains (order ++ p ∷ []) q
        from q (yes e) h = subst (Contains (order ++ p ∷ [])) (sym e) (Contains-push order p)
        from q (no n) h = Contains-append_left order (p ∷ []) q ((s.covers q).1 (processed_back q n h))

        dues : (taken rest : List Address) (q : Address) → ((order ≡ taken) × (p ≡ q)) ⊎ ((rest' : List Address) × (order ≡ taken ++ q ∷ rest')) → IsDue N tree' taken q
        dues taken rest q (inl (e, f)) = subst (λ x. IsDue N tree' x q) e (subst (λ x. IsDue N tree' order x) f d)
        dues taken rest q (inr (r, e)) =
            let c : Contains order q = subst (λ x. Contains x q) (append_assoc taken (q ∷ []) r ∙ sym e) (Contains-append_left (taken ++ q ∷ []) r q (Contains-push taken q)) in
            let n : Contains taken p → ⊥ = λ c. not_p (subst (λ x. Contains x p) (sym e) (Contains-append_left taken (q ∷ r) p c)) in
            due_grows taken q ((s.covers q).0 c) n (s.due taken r q e)

    pub schedule_back : (order : List Address) → IsSchedule N tree' (order ++ p ∷ []) → IsSchedule N tree order × IsDue N tree' order p
    schedule_back order s = (record { covers = λ q. (to q, from q); due = λ taken rest q e. due_back taken q (s.due taken (rest ++ p ∷ []) q (ap (λ x. x ++ p ∷ []) e ∙ append_assoc taken (q ∷ rest) (p ∷ []))) }, d)
      where
        d : IsDue N tree' order p
        d = s.due order [] p refl

        to : (q : Address) → Contains order q → IsProcessed N tree q
        to q c = processed_back q (λ e. d.fresh (subst (Contains order) e c)) ((s.covers q).0 (Contains-append_left order (p ∷ []) q c))

        from : (q : Address) → IsProcessed N tree q → Contains order q
        from q h = let x = processed_grows q h in elim (Contains-push_cases order p q ((s.covers q).1 x.1)) [ inl y ↦ y | inr y ↦ absurd (x.0 (sym y)) ]

  -- the last node of a schedule has open leaves for children
  pub last_children_wait : (tree : Tree N) (order : List Address) (p : Address) → IsSchedule N tree (order ++ p ∷ []) → (i : ℕ) (l : Label N) → label_at N tree (i ∷ p) ≡ Some l → IsTaken N l → ⊥
  last_children_wait tree order p s i l e t = go (Contains-push_cases order p (i ∷ p) ((s.covers (i ∷ p)).1 (l, e, t)))
    where
      d : IsDue N tree order p
      d = s.due order [] p refl

      go : Contains order (i ∷ p) ⊎ (p ≡ i ∷ p) → ⊥
      go (inr f) = not-below_parent i p (subst (λ x. IsAbove x p) f (below-itself p))
      go (inl c) =
          let h = cut_at order (i ∷ p) c in
          let b : Contains h.0 p = (s.due h.0 (h.1 ++ p ∷ []) (i ∷ p) (ap (λ x. x ++ p ∷ []) h.2 ∙ append_assoc h.0 ((i ∷ p) ∷ h.1) (p ∷ []))).begun in
          d.fresh (subst (λ x. Contains x p) (sym h.2) (Contains-append_left h.0 ((i ∷ p) ∷ h.1) p b))
