-- A step keeps what holds between the machine and a front.
use Rattle.std.proofs.Common.{ℕ, ◌≡◌, ◌≢◌, ◌<◌, ◌≤◌, ◌⊎◌, ◌↔◌, inl, inr, ◌∷◌, length, Some, None, option_map, option_and_then, slice_get, get_or, refl, ap, sym, subst, ◌∙◌, arith}
use Rattle.std.proofs.Math.Decide.{ℕ_discrete}
use Rattle.std.proofs.lemmas.Option.{slice_get_within, slice_get_cases}
use Rattle.plan_model.specs.task_networks.Net.{Net}
use Rattle.plan_model.specs.task_networks.Lawful.{IsLawful}
use Rattle.plan_model.specs.task_networks.Tree.{at, Tree, Address, Label, IsOpen, waits, label_at, label, child_at, children_of}
use Rattle.plan_model.specs.task_networks.Schedule.{Blocks}
use Rattle.plan_model.proofs.task_networks.Addresses.{is_same_address}
use Rattle.plan_model.proofs.task_networks.Orders.{is_some}
use Rattle.slot_machine.specs.Machine.{SlotState, IsUnblocked}
use Rattle.slot_machine.proofs.AtLabel.{heir_of, PairOf, CopierOf, heir_exists, heir_within, from_pair, pair_within, blocks_sibling, copier_within, TakesOverOf, PrecedesOf, covered, not-blocks_itself, last_pair_of, sibling_blocks}
use Rattle.slot_machine.proofs.FrontSteps.{taken_apart, child_waits, open_address, blocks_grows}
use Rattle.slot_machine.proofs.Growth.{IsGrowth, child_works, place, leaf_at, none_below}
use Rattle.slot_machine.proofs.Matching.{Matches, back, down, up, nothing_blocks}

module _ (N : Net) (law : IsLawful N) (b : ℕ) (s s' : SlotState N) (tree tree' : Tree N) (p : Address) (w : N.Work) (l : Label N) (g : IsGrowth N tree tree' p w l) (slot : Address → ℕ) (m : Matches N b s tree slot) (unblocked : IsUnblocked N s (slot p)) where
  abbrev n : ℕ
  n = length (child_works N l)

  -- what a step makes of the machine, in the slots of the tree
  pub record IsAfter : Type 0 where
    pub heirs : (i : ℕ) → heir_of N l ≡ Some i → slot (i ∷ p) ≡ slot p
    pub was_free : (i : ℕ) → i < n → (heir_of N l ≡ Some i → ⊥) → s.free (slot (i ∷ p))
    pub new_apart : (i j : ℕ) → i < n → j < n → (heir_of N l ≡ Some i → ⊥) → (heir_of N l ≡ Some j → ⊥) → slot (i ∷ p) ≡ slot (j ∷ p) → i ≡ j
    pub holds : (x : ℕ) (v : N.Work) → s'.holds x v ↔ ((s.holds x v × ((x ≡ slot p) × (v ≡ w) → ⊥)) ⊎ ((i : ℕ) × (x ≡ slot (i ∷ p)) × (slice_get (child_works N l) i ≡ Some v)))
    pub free : (x : ℕ) → s'.free x ↔ ((s.free x × ((i : ℕ) → i < n → x ≡ slot (i ∷ p) → ⊥)) ⊎ ((n ≡ 0) × (x ≡ slot p)))
    pub before : (x y : ℕ) → s'.before x y ↔ ((s.before x y × ((n ≡ 0) × (x ≡ slot p) → ⊥)) ⊎ (((i : ℕ) × (j : ℕ) × PairOf N l i j × (x ≡ slot (i ∷ p)) × (y ≡ slot (j ∷ p))) ⊎ ((i : ℕ) × CopierOf N l i × (x ≡ slot (i ∷ p)) × s.before (slot p) y)))

  open_p : IsOpen N tree p
  open_p = (w, g.was)

  -- an open leaf of the grown tree is a new child, or an old one
  open_cases : (u : Address) (v : N.Work) → label_at N tree' u ≡ Some (waits v) → ((i : ℕ) × (u ≡ i ∷ p) × (slice_get (child_works N l) i ≡ Some v)) ⊎ ((u ≢ p) × (label_at N tree u ≡ Some (waits v)))
  open_cases u v e = go (place N p u)
    where
      go : (u ≡ p) ⊎ (((i : ℕ) × (u ≡ i ∷ p)) ⊎ ((u ≢ p) × ((i : ℕ) → u ≢ i ∷ p))) → ((i : ℕ) × (u ≡ i ∷ p) × (slice_get (child_works N l) i ≡ Some v)) ⊎ ((u ≢ p) × (label_at N tree u ≡ Some (waits v)))
      go (inl f) = absurd (taken_apart N l v (let x = ap (label_at N tree') f in let y = g.now in cc) g.taken)
      go (inr (inl (i, f))) = inl (i, f, (let h = child_waits N tree tree' p w l g i (waits v) (sym (ap (label_at N tree') f) ∙ e) in let x = h.2 in let y = h.1 in cc))
      go (inr (inr (a, c))) = inr (a, sym (g.others u a c) ∙ e)

  old_open : (u : Address) (v : N.Work) → label_at N tree u ≡ Some (waits v) → u ≢ p → label_at N tree' u ≡ Some (waits v)
  old_open u v e a = go (place N p u)
    where
      go : (u ≡ p) ⊎ (((i : ℕ) × (u ≡ i ∷ p)) ⊎ ((u ≢ p) × ((i : ℕ) → u ≢ i ∷ p))) → label_at N tree' u ≡ Some (waits v)
      go (inl f) = absurd (a f)
      go (inr (inl (i, f))) = let h = g.childless i in let x = ap (label_at N tree) f in absurd cc
      go (inr (inr (a, c))) = g.others u a c ∙ e

  keeps_open : (u : Address) → IsOpen N tree u → u ≢ p → IsOpen N tree' u
  keeps_open u (v, e) a = (v, old_open u v e a)

  new_open : (i : ℕ) (v : N.Work) → slice_get (child_works N l) i ≡ Some v → label_at N tree' (i ∷ p) ≡ Some (waits v)
  new_open i v e = g.children i ∙ ap (option_map waits) e

  child_open : (i : ℕ) → i < n → IsOpen N tree' (i ∷ p)
  child_open i h = go (slice_get_cases (child_works N l) i).1
    where
      go : ((v : N.Work) × (i < length (child_works N l)) × (slice_get (child_works N l) i ≡ Some v) × (get_or (child_works N l) i v ≡ v)) ⊎ ((length (child_works N l) ≤ i) × (slice_get (child_works N l) i ≡ None)) → IsOpen N tree' (i ∷ p)
      go (inl (v, a, e, c)) = (v, new_open i v e)
      go (inr (a, e)) = absurd (omega arith)

  -- a new child, or an old leaf
  abbrev IsNew : Address → Type 0
  IsNew u = (i : ℕ) × (u ≡ i ∷ p) × (i < n)

  abbrev IsOld : Address → Type 0
  IsOld u = (u ≢ p) × IsOpen N tree u

  new_or_old : (u : Address) → IsOpen N tree' u → IsNew u ⊎ IsOld u
  new_or_old u (v, e) = elim (open_cases u v e) [ inl x ↦ inl (x.0, x.1, slice_get_within (child_works N l) x.0 v x.2) | inr x ↦ inr (x.0, (v, x.1)) ]

  blocks_old : (u v : Address) → IsOpen N tree v → Blocks N tree' u v → Blocks N tree u v
  blocks_old u v o bl = back N law b s tree tree' p w l g slot m u v (open_address N tree v o) bl

  blocks_child : (k : ℕ) (v : Address) → Blocks N tree p v → Blocks N tree' (k ∷ p) v
  blocks_child k v bl = blocks_grows N tree tree' p w l g (k ∷ p) v (down N law b s tree tree' p w l g slot m k v bl)

  child_blocks : (k : ℕ) (v : Address) → IsOpen N tree v → Blocks N tree' (k ∷ p) v → Blocks N tree p v
  child_blocks k v o bl = up N law b s tree tree' p w l g slot m k v (open_address N tree v o) (blocks_old (k ∷ p) v o bl)

  -- no old leaf blocks a new child
  old_new : (u : Address) (j : ℕ) → IsOpen N tree u → Blocks N tree' u (j ∷ p) → ⊥
  old_new u j (v, e) (x, i, f, h, c) =
      let y : at N tree (i ∷ p) ≡ None = ap (option_and_then (λ t. child_at N (children_of N t) i)) (leaf_at N tree p w g.was) in
      let z = ap (option_map (label N)) (none_below N tree (i ∷ p) u y c) in absurd cc

  module _ (a : IsAfter) where
    is_p : (u : Address) → IsOpen N tree u → slot u ≡ slot p → u ≡ p
    is_p u o e = m.apart u p o open_p e

    new_slot : (i : ℕ) (u : Address) → i < n → IsOpen N tree u → u ≢ p → slot (i ∷ p) ≡ slot u → ⊥
    new_slot i u h o np e = go (is_some (heir_of N l) i)
      where
        go : Dec (heir_of N l ≡ Some i) → ⊥
        go (yes f) = np (is_p u o (sym e ∙ a.heirs i f))
        go (no f) = ((m.free (slot (i ∷ p))).0 (a.was_free i h f)).2 u o (sym e)

    not-own_slot : (i : ℕ) → i < n → (heir_of N l ≡ Some i → ⊥) → slot (i ∷ p) ≡ slot p → ⊥
    not-own_slot i h f e = ((m.free (slot (i ∷ p))).0 (a.was_free i h f)).2 p open_p (sym e)

    new_slots : (i j : ℕ) → i < n → j < n → slot (i ∷ p) ≡ slot (j ∷ p) → i ≡ j
    new_slots i j hi hj e = go (is_some (heir_of N l) i) (is_some (heir_of N l) j)
      where
        go : Dec (heir_of N l ≡ Some i) → Dec (heir_of N l ≡ Some j) → i ≡ j
        go (yes x) (yes y) = cc
        go (yes x) (no y) = absurd (not-own_slot j hj y (sym e ∙ a.heirs i x))
        go (no x) (yes y) = absurd (not-own_slot i hi x (e ∙ a.heirs j y))
        go (no x) (no y) = a.new_apart i j hi hj x y e

    apart : (u v : Address) → IsOpen N tree' u → IsOpen N tree' v → slot u ≡ slot v → u ≡ v
    apart u v ou ov e = go (new_or_old u ou) (new_or_old v ov)
      where
        go : IsNew u ⊎ IsOld u → IsNew v ⊎ IsOld v → u ≡ v
        go (inl (i, x, hi)) (inl (j, y, hj)) = let k : i ≡ j = new_slots i j hi hj (sym (ap slot x) ∙ e ∙ ap slot y) in cc
        go (inl (i, x, hi)) (inr (nv, o)) = absurd (new_slot i v hi o nv (sym (ap slot x) ∙ e))
        go (inr (nu, o)) (inl (j, y, hj)) = absurd (new_slot j u hj o nu (sym (e ∙ ap slot y)))
        go (inr (nu, o)) (inr (nv, q)) = m.apart u v o q e

    range : (u : Address) → IsOpen N tree' u → (1 ≤ slot u) × (slot u ≤ b)
    range u o = go (new_or_old u o)
      where
        child : (i : ℕ) → i < n → Dec (heir_of N l ≡ Some i) → (1 ≤ slot (i ∷ p)) × (slot (i ∷ p) ≤ b)
        child i h (yes f) = subst (λ x. (1 ≤ x) × (x ≤ b)) (sym (a.heirs i f)) (m.range p open_p)
        child i h (no f) = let r = (m.free (slot (i ∷ p))).0 (a.was_free i h f) in (r.0, r.1)

        go : IsNew u ⊎ IsOld u → (1 ≤ slot u) × (slot u ≤ b)
        go (inl (i, x, h)) = subst (λ y. (1 ≤ slot y) × (slot y ≤ b)) (sym x) (child i h (is_some (heir_of N l) i))
        go (inr (nu, q)) = m.range u q

    holds : (x : ℕ) (v : N.Work) → s'.holds x v ↔ ((q : Address) × (label_at N tree' q ≡ Some (waits v)) × (slot q ≡ x))
    holds x v = (λ h. to ((a.holds x v).0 h), λ h. (a.holds x v).1 (from h.0 (open_cases h.0 v h.1) h.2))
      where
        to : (s.holds x v × ((x ≡ slot p) × (v ≡ w) → ⊥)) ⊎ ((i : ℕ) × (x ≡ slot (i ∷ p)) × (slice_get (child_works N l) i ≡ Some v)) → (q : Address) × (label_at N tree' q ≡ Some (waits v)) × (slot q ≡ x)
        to (inl (h, f)) =
            let (q, e, k) = (m.holds x v).0 h in
            (q, old_open q v e (λ c. f (sym k ∙ ap slot c, (let y = ap (label_at N tree) c in let z = g.was in cc))), k)
        to (inr (i, e, k)) = (i ∷ p, new_open i v k, sym e)

        from : (q : Address) → ((i : ℕ) × (q ≡ i ∷ p) × (slice_get (child_works N l) i ≡ Some v)) ⊎ ((q ≢ p) × (label_at N tree q ≡ Some (waits v))) → slot q ≡ x → (s.holds x v × ((x ≡ slot p) × (v ≡ w) → ⊥)) ⊎ ((i : ℕ) × (x ≡ slot (i ∷ p)) × (slice_get (child_works N l) i ≡ Some v))
        from q (inl (i, e, k)) c = inr (i, sym c ∙ ap slot e, k)
        from q (inr (nq, e)) c = inl ((m.holds x v).1 (q, e, c), λ h. nq (is_p q (v, e) (c ∙ h.0)))

    free : (x : ℕ) → s'.free x ↔ ((1 ≤ x) × (x ≤ b) × ((q : Address) → IsOpen N tree' q → slot q ≡ x → ⊥))
    free x = (λ h. to ((a.free x).0 h), λ h. (a.free x).1 (from h.0 h.1 h.2))
      where
        to : (s.free x × ((i : ℕ) → i < n → x ≡ slot (i ∷ p) → ⊥)) ⊎ ((n ≡ 0) × (x ≡ slot p)) → (1 ≤ x) × (x ≤ b) × ((q : Address) → IsOpen N tree' q → slot q ≡ x → ⊥)
        to (inl (h, f)) =
            let r = (m.free x).0 h in
            (r.0, r.1, λ q o e. elim (new_or_old q o) [ inl y ↦ f y.0 y.2 (sym e ∙ ap slot y.1) | inr y ↦ r.2 q y.1 e ])
        to (inr (z, h)) =
            let r = m.range p open_p in
            (subst (λ y. 1 ≤ y) (sym h) r.0, subst (λ y. y ≤ b) (sym h) r.1, λ q o e. elim (new_or_old q o) [ inl y ↦ (let k = y.2 in omega arith) | inr y ↦ y.0 (is_p q y.1 (e ∙ h)) ])

        from : 1 ≤ x → x ≤ b → ((q : Address) → IsOpen N tree' q → slot q ≡ x → ⊥) → (s.free x × ((i : ℕ) → i < n → x ≡ slot (i ∷ p) → ⊥)) ⊎ ((n ≡ 0) × (x ≡ slot p))
        from c d f = go (ℕ_discrete x (slot p)) (ℕ_discrete n 0)
          where
            old : x ≢ slot p → (s.free x × ((i : ℕ) → i < n → x ≡ slot (i ∷ p) → ⊥))
            old k = ((m.free x).1 (c, d, λ q o e. f q (keeps_open q o (λ y. k (sym e ∙ ap slot y))) e), λ i h e. f (i ∷ p) (child_open i h) (sym e))

            go : Dec (x ≡ slot p) → Dec (n ≡ 0) → (s.free x × ((i : ℕ) → i < n → x ≡ slot (i ∷ p) → ⊥)) ⊎ ((n ≡ 0) × (x ≡ slot p))
            go (yes e) (yes z) = inr (z, e)
            go (yes e) (no z) = let h = heir_exists N law l (omega arith) in absurd (f (h.0 ∷ p) (child_open h.0 (heir_within N law l h.0 h.1)) (a.heirs h.0 h.1 ∙ sym e))
            go (no k) z = inl (old k)

    abbrev Sound : ℕ → ℕ → Type 0
    Sound x y = (u : Address) × (v : Address) × IsOpen N tree' u × IsOpen N tree' v × (slot u ≡ x) × (slot v ≡ y) × Blocks N tree' u v

    sound : (x y : ℕ) → s'.before x y → Sound x y
    sound x y bf = to ((a.before x y).0 bf)
      where
        to : (s.before x y × ((n ≡ 0) × (x ≡ slot p) → ⊥)) ⊎ (((i : ℕ) × (j : ℕ) × PairOf N l i j × (x ≡ slot (i ∷ p)) × (y ≡ slot (j ∷ p))) ⊎ ((i : ℕ) × CopierOf N l i × (x ≡ slot (i ∷ p)) × s.before (slot p) y)) → Sound x y
        to (inl (h, f)) = go (m.sound x y h)
          where
            go : (u : Address) × (v : Address) × IsOpen N tree u × IsOpen N tree v × (slot u ≡ x) × (slot v ≡ y) × Blocks N tree u v → Sound x y
            go (u, v, ou, ov, eu, ev, bl) = pick (is_same_address u p) (ℕ_discrete n 0)
              where
                nv : v ≢ p
                nv e = unblocked x (subst (λ z. s.before x z) (sym ev ∙ ap slot e) h)

                pick : Dec (u ≡ p) → Dec (n ≡ 0) → Sound x y
                pick (no nu) z = (u, v, keeps_open u ou nu, keeps_open v ov nv, eu, ev, blocks_grows N tree tree' p w l g u v bl)
                pick (yes e) (yes z) = absurd (f (z, sym eu ∙ ap slot e))
                pick (yes e) (no z) =
                    let h = heir_exists N law l (omega arith) in
                    (h.0 ∷ p, v, child_open h.0 (heir_within N law l h.0 h.1), keeps_open v ov nv, a.heirs h.0 h.1 ∙ sym (ap slot e) ∙ eu, ev, blocks_child h.0 v (subst (λ z. Blocks N tree z v) e bl))
        to (inr (inl (i, j, pr, ex, ey))) =
            let pc = from_pair N law l i j pr in
            let r = pair_within N law l i j pc in
            (i ∷ p, j ∷ p, child_open i r.0, child_open j r.1, sym ex, sym ey, blocks_sibling N law tree' p l i j g.now pc)
        to (inr (inr (i, c, ex, h))) = go (m.sound (slot p) y h)
          where
            go : (u : Address) × (v : Address) × IsOpen N tree u × IsOpen N tree v × (slot u ≡ slot p) × (slot v ≡ y) × Blocks N tree u v → Sound x y
            go (u, v, ou, ov, eu, ev, bl) =
                let nv : v ≢ p = λ e. unblocked (slot p) (subst (λ z. s.before (slot p) z) (sym ev ∙ ap slot e) h) in
                (i ∷ p, v, child_open i (copier_within N law l i c), keeps_open v ov nv, sym ex, ev, blocks_child i v (subst (λ z. Blocks N tree z v) (is_p u ou eu) bl))

    abbrev Complete : Address → Address → Type 0
    Complete u v = s'.before (slot u) (slot v) ⊎ ((x : Address) × IsOpen N tree' x × Blocks N tree' u x × s'.before (slot x) (slot v))

    -- a pair between old leaves stays
    stays : (u v : Address) → u ≢ p → IsOpen N tree u → s.before (slot u) (slot v) → s'.before (slot u) (slot v)
    stays u v nu ou bf = (a.before (slot u) (slot v)).1 (inl (bf, λ h. nu (is_p u ou h.1)))

    -- the heir keeps the pairs of p, and copiers get them
    inherits : (i : ℕ) (v : Address) → i < n → TakesOverOf N l i → s.before (slot p) (slot v) → s'.before (slot (i ∷ p)) (slot v)
    inherits i v h (inl e) bf = (a.before (slot (i ∷ p)) (slot v)).1 (inl (subst (λ x. s.before x (slot v)) (sym (a.heirs i e)) bf, λ k. (let z = k.0 in omega arith)))
    inherits i v h (inr c) bf = (a.before (slot (i ∷ p)) (slot v)).1 (inr (inr (i, c, refl, bf)))

    old_old : (u v : Address) → IsOld u → IsOld v → Blocks N tree u v → Complete u v
    old_old u v (nu, ou) (nv, ov) bl = go (m.complete u v ou ov bl)
      where
        go : s.before (slot u) (slot v) ⊎ ((x : Address) × IsOpen N tree x × Blocks N tree u x × s.before (slot x) (slot v)) → Complete u v
        go (inl bf) = inl (stays u v nu ou bf)
        go (inr (x, ox, bx, bf)) =
            let nx : x ≢ p = λ e. nothing_blocks N b s tree slot p u m unblocked open_p ou (subst (Blocks N tree u) e bx) in
            inr (x, keeps_open x ox nx, blocks_grows N tree tree' p w l g u x bx, stays x v nx ox bf)

    new_old : (i : ℕ) (v : Address) → i < n → IsOld v → Blocks N tree p v → Complete (i ∷ p) v
    new_old i v h (nv, ov) bl = go (m.complete p v open_p ov bl)
      where
        pick : s.before (slot p) (slot v) → TakesOverOf N l i ⊎ ((c : ℕ) × PrecedesOf N l i c × TakesOverOf N l c) → Complete (i ∷ p) v
        pick bf (inl t) = inl (inherits i v h t bf)
        pick bf (inr (c, pc, k)) =
            let r = (pair_within N law l i c pc).1 in
            inr (c ∷ p, child_open c r, blocks_sibling N law tree' p l i c g.now pc, inherits c v r k bf)

        go : s.before (slot p) (slot v) ⊎ ((x : Address) × IsOpen N tree x × Blocks N tree p x × s.before (slot x) (slot v)) → Complete (i ∷ p) v
        go (inl bf) = pick bf (covered N law l i h)
        go (inr (x, ox, bx, bf)) =
            let nx : x ≢ p = λ e. not-blocks_itself N law tree p (subst (Blocks N tree p) e bx) in
            inr (x, keeps_open x ox nx, blocks_child i x bx, stays x v nx ox bf)

    new_new : (i j : ℕ) → PrecedesOf N l i j → Complete (i ∷ p) (j ∷ p)
    new_new i j pc = go (last_pair_of N law l i j pc)
      where
        joins : (k : ℕ) → PairOf N l k j → s'.before (slot (k ∷ p)) (slot (j ∷ p))
        joins k pr = (a.before (slot (k ∷ p)) (slot (j ∷ p))).1 (inr (inl (k, j, pr, refl, refl)))

        go : PairOf N l i j ⊎ ((k : ℕ) × PrecedesOf N l i k × PairOf N l k j) → Complete (i ∷ p) (j ∷ p)
        go (inl pr) = inl (joins i pr)
        go (inr (k, pk, pr)) = inr (k ∷ p, child_open k (pair_within N law l i k pk).1, blocks_sibling N law tree' p l i k g.now pk, joins k pr)

    complete : (u v : Address) → IsOpen N tree' u → IsOpen N tree' v → Blocks N tree' u v → Complete u v
    complete u v ou ov bl = go (new_or_old u ou) (new_or_old v ov)
      where
        go : IsNew u ⊎ IsOld u → IsNew v ⊎ IsOld v → Complete u v
        go (inr x) (inr y) = old_old u v x y (blocks_old u v y.1 bl)
        go (inr x) (inl (j, e, h)) = absurd (old_new u j x.1 (subst (Blocks N tree' u) e bl))
        go (inl (i, e, h)) (inr y) = subst (λ z. Complete z v) (sym e) (new_old i v h y (child_blocks i v y.1 (subst (λ z. Blocks N tree' z v) e bl)))
        go (inl (i, e, h)) (inl (j, f, k)) =
            let c : Blocks N tree' (i ∷ p) (j ∷ p) = subst (λ z. Blocks N tree' z (j ∷ p)) e (subst (Blocks N tree' u) f bl) in
            subst (λ z. Complete z v) (sym e) (subst (Complete (i ∷ p)) (sym f) (new_new i j (sibling_blocks N law tree' p l i j g.now c)))

    pub keeps : Matches N b s' tree' slot
    keeps = record { holds = holds; free = free; range = range; apart = apart; sound = sound; complete = complete }
