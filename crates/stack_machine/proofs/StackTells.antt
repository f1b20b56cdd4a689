-- The cells of a front's open leaves are 1 to tip, and a leaf waits for those above it.
use Rattle.std.proofs.Common.{ℕ, ◌≡◌, ◌≢◌, ◌+◌, ◌-◌, ◌<◌, ◌≤◌, ◌⊎◌, ◌↔◌, inl, inr, List, [], ◌∷◌, ◌++◌, length, Option, Some, None, option_map, get_or, refl, ap, sym, subst, ◌∙◌, arith}
use Rattle.std.proofs.lemmas.Option.{slice_get_within, slice_get-get_or}
use Rattle.plan_model.specs.task_networks.Order.{Precedes}
use Rattle.plan_model.specs.task_networks.Net.{Net, count}
use Rattle.plan_model.specs.task_networks.Tree.{Tree, Label, Address, open_leaf, at, label, label_at, waits, ran, used, IsAbove, IsAddress, IsOpen}
use Rattle.plan_model.specs.task_networks.Schedule.{Blocks, IsDue, IsSchedule}
use Rattle.plan_model.specs.task_networks.Front.{IsFront}
use Rattle.plan_model.proofs.task_networks.Addresses.{not-below_parent}
use Rattle.plan_model.proofs.task_networks.Lists.{by_push}
use Rattle.slot_machine.proofs.Closure.{only_siblings}
use Rattle.slot_machine.proofs.FrontSteps.{address_grows, blocks_back, blocks_grows, child_waits, open_apart, taken_apart, used_grows}
use Rattle.slot_machine.proofs.Growth.{IsGrowth, child_works, none_below, place}
use Rattle.slot_machine.proofs.LabelTrees.{work_at, leaf_only}
use Rattle.stack_machine.specs.Stack.{IsTotal, AreCells, TellsTip}
use Rattle.stack_machine.proofs.FrontsShrink.{shrink_front, unopened}
use Rattle.stack_machine.proofs.Heights.{AreHeights, line_of, is_line, high, heights, high_of}
use Rattle.schedules.proofs.ruled.LowestRule.{by_order}

module _ (N : Net) where
  -- the same of single blocks: between the open leaves of a front they are what must precede
  pub record HasTip (tree : Tree N) (cell : Address → ℕ) (tip : ℕ) : Type 0 where
    pub range : (p : Address) → IsOpen N tree p → (1 ≤ cell p) × (cell p ≤ tip)
    pub full : (x : ℕ) → 1 ≤ x → x ≤ tip → (p : Address) × IsOpen N tree p × (cell p ≡ x)
    pub apart : (u v : Address) → IsOpen N tree u → IsOpen N tree v → cell u ≡ cell v → u ≡ v
    pub blocks : (u v : Address) → IsOpen N tree u → IsOpen N tree v → Blocks N tree u v ↔ (cell v < cell u)

  pub tells_has : (tree : Tree N) (order : List Address) (cell : Address → ℕ) (tip : ℕ) → IsSchedule N tree order → HasTip tree cell tip → TellsTip N tree cell tip
  tells_has tree order cell tip s h = record {
    range = h.range;
    full = h.full;
    apart = h.apart;
    waits = λ u v ou ov. (let o = only_siblings N tree order u v s ou ov in let k = h.blocks u v ou ov in (λ x. k.0 (o.0 x), λ x. o.1 (k.1 x)));
  }

  pub has_tells : (tree : Tree N) (order : List Address) (cell : Address → ℕ) (tip : ℕ) → IsSchedule N tree order → TellsTip N tree cell tip → HasTip tree cell tip
  has_tells tree order cell tip s h = record {
    range = h.range;
    full = h.full;
    apart = h.apart;
    blocks = λ u v ou ov. (let o = only_siblings N tree order u v s ou ov in let k = h.waits u v ou ov in (λ x. k.0 (o.1 x), λ x. o.0 (k.1 x)));
  }

  pub one_tip : (tree : Tree N) (cell : Address → ℕ) (tip other : ℕ) → TellsTip N tree cell tip → TellsTip N tree cell other → tip ≡ other
  one_tip tree cell tip other a b = elim (by_order tip other) [
    | inl h ↦ absurd (let (p, o, e) = b.full other (omega arith) (omega arith) in let x = (a.range p o).1 in omega arith)
    | inr (inl e) ↦ e
    | inr (inr h) ↦ absurd (let (p, o, e) = a.full tip (omega arith) (omega arith) in let x = (b.range p o).1 in omega arith)
  ]

  module _ (tree tree' : Tree N) (p : Address) (w : N.Work) (l : Label N) (g : IsGrowth N tree tree' p w l) where
    abbrev n : ℕ
    n = length (child_works N l)

    open_child : (i : ℕ) → i < n → IsOpen N tree' (i ∷ p)
    open_child i h = (get_or (child_works N l) i w, g.children i ∙ ap (option_map waits) (slice_get-get_or (child_works N l) i w h))

    child_of : (i : ℕ) → IsAddress N tree' (i ∷ p) → i < n
    child_of i (k, e) = let h = child_waits N tree tree' p w l g i k e in slice_get_within (child_works N l) i h.0 h.2

    -- an open leaf of the grown tree is one of the tree before, other than p, or a child of p
    leaf_cases : (q : Address) → IsOpen N tree' q → (IsOpen N tree q × (q ≢ p)) ⊎ ((i : ℕ) × (i < n) × (q ≡ i ∷ p))
    leaf_cases q (v, e) = go (place N p q)
      where
        go : (q ≡ p) ⊎ (((i : ℕ) × (q ≡ i ∷ p)) ⊎ ((q ≢ p) × ((i : ℕ) → q ≢ i ∷ p))) → (IsOpen N tree q × (q ≢ p)) ⊎ ((i : ℕ) × (i < n) × (q ≡ i ∷ p))
        go (inl f) = absurd (taken_apart N l v (let x = ap (label_at N tree') f in let y = g.now in cc) g.taken)
        go (inr (inl (i, f))) = inr (i, child_of i (waits v, sym (ap (label_at N tree') f) ∙ e), f)
        go (inr (inr (a, c))) = inl ((v, sym (g.others q a c) ∙ e), a)

    -- an open leaf other than p stays one
    leaf_stays : (q : Address) → IsOpen N tree q → q ≢ p → IsOpen N tree' q
    leaf_stays q (v, e) a = go (place N p q)
      where
        go : (q ≡ p) ⊎ (((i : ℕ) × (q ≡ i ∷ p)) ⊎ ((q ≢ p) × ((i : ℕ) → q ≢ i ∷ p))) → IsOpen N tree' q
        go (inl f) = absurd (a f)
        go (inr (inl (i, f))) = let h = g.childless i in let x = ap (label_at N tree) f in absurd cc
        go (inr (inr (b, c))) = (v, g.others q b c ∙ e)

    nothing_under : (i : ℕ) (q : Address) → IsAbove (i ∷ p) q → IsAddress N tree q → ⊥
    nothing_under i q a (k, e) = go (at N tree (i ∷ p)) refl (g.childless i)
      where
        go : (o : Option (Tree N)) → at N tree (i ∷ p) ≡ o → option_map (label N) o ≡ None → ⊥
        go None f c = let h = ap (option_map (label N)) (none_below N tree (i ∷ p) q f a) in cc
        go (Some t) f c = cc

    module _ (cell : Address → ℕ) (tip : ℕ) (high : ℕ → ℕ) (h : HasTip tree cell tip)
        (below : (i : ℕ) → i < n → high i < n) (fill : (k : ℕ) → k < n → (i : ℕ) × (i < n) × (high i ≡ k)) (differ : (i j : ℕ) → i < n → j < n → high i ≡ high j → i ≡ j)
        (order : (i j : ℕ) → i < n → j < n → Blocks N tree' (i ∷ p) (j ∷ p) ↔ (high j < high i)) (cells : (i : ℕ) → i < n → cell (i ∷ p) ≡ cell p + high i) (at_tip : cell p ≡ tip) where
      open_p : IsOpen N tree p
      open_p = (w, g.was)

      positive : 1 ≤ tip
      positive = let x = h.range p open_p in let y = x.0 in omega arith

      -- the other leaves are below the tip
      lower : (q : Address) → IsOpen N tree q → q ≢ p → cell q < tip
      lower q o a = let x = (h.range q o).1 in let y : cell q ≢ tip = (λ e. a (h.apart q p o open_p (e ∙ sym at_tip))) in omega arith

      new_cell : (i : ℕ) → i < n → cell (i ∷ p) ≡ tip + high i
      new_cell i r = cells i r ∙ ap (λ z. z + high i) at_tip

      range : (q : Address) → (IsOpen N tree q × (q ≢ p)) ⊎ ((i : ℕ) × (i < n) × (q ≡ i ∷ p)) → (1 ≤ cell q) × (cell q ≤ (tip - 1) + n)
      range q (inl (o, a)) = let x = lower q o a in ((h.range q o).0, omega (arith, positive))
      range q (inr (i, r, e)) = subst (λ z. (1 ≤ cell z) × (cell z ≤ (tip - 1) + n)) (sym e) (let x = new_cell i r in let y = below i r in (omega (arith, positive), omega (arith, positive)))

      full : (x : ℕ) → 1 ≤ x → x ≤ (tip - 1) + n → (q : Address) × IsOpen N tree' q × (cell q ≡ x)
      full x a b = elim (by_order x tip) [
        | inl y ↦ (let (q, o, e) = h.full x a (omega arith) in (q, leaf_stays q o (λ f. (let z = ap cell f in omega (arith, at_tip))), e))
        | inr y ↦ (let (i, r, e) = fill (x - tip) (elim y [ inl z ↦ omega (arith, positive) | inr z ↦ omega (arith, positive) ]) in (i ∷ p, open_child i r, (let z = new_cell i r in elim y [ inl v ↦ omega arith | inr v ↦ omega arith ])))
      ]

      apart : (u v : Address) → (IsOpen N tree u × (u ≢ p)) ⊎ ((i : ℕ) × (i < n) × (u ≡ i ∷ p)) → (IsOpen N tree v × (v ≢ p)) ⊎ ((i : ℕ) × (i < n) × (v ≡ i ∷ p)) → cell u ≡ cell v → u ≡ v
      apart u v (inl (ou, a)) (inl (ov, b)) e = h.apart u v ou ov e
      apart u v (inl (ou, a)) (inr (j, r, f)) e = absurd (let x = lower u ou a in let y = new_cell j r in let z = ap cell f in omega arith)
      apart u v (inr (i, q, f)) (inl (ov, b)) e = absurd (let x = lower v ov b in let y = new_cell i q in let z = ap cell f in omega arith)
      apart u v (inr (i, q, f)) (inr (j, r, k)) e = f ∙ ap (λ z. z ∷ p) (differ i j q r (let x = new_cell i q in let y = new_cell j r in let z = ap cell f in let t = ap cell k in omega arith)) ∙ sym k

      old_parent : (j : ℕ) (q : Address) → IsOpen N tree (j ∷ q) → q ≢ p
      old_parent j q (k, e) f = let x = g.childless j in let y = ap (λ z. label_at N tree (j ∷ z)) f in cc

      -- what blocked p blocks its children, and p's children block what p did
      by_child : (i : ℕ) (v : Address) → Blocks N tree' p v → Blocks N tree' (i ∷ p) v
      by_child i [] b = b
      by_child i (j ∷ q) (m, k, e, c, d) = (m, k, e, c, inr d)

      old_back : (u v : Address) → IsOpen N tree v → Blocks N tree' u v → Blocks N tree u v
      old_back u [] o b = b
      old_back u (j ∷ q) o b = blocks_back N tree tree' p w l g u j q (old_parent j q o) b

      old_blocks_child : (u : Address) (j : ℕ) → IsOpen N tree u → Blocks N tree' u (j ∷ p) → ⊥
      old_blocks_child u j (k, e) (m, i, f, c, d) = nothing_under i u d (waits k, e)

      blocks : (u v : Address) → (IsOpen N tree u × (u ≢ p)) ⊎ ((i : ℕ) × (i < n) × (u ≡ i ∷ p)) → (IsOpen N tree v × (v ≢ p)) ⊎ ((i : ℕ) × (i < n) × (v ≡ i ∷ p)) → Blocks N tree' u v ↔ (cell v < cell u)
      blocks u v (inl (ou, a)) (inl (ov, b)) = (λ x. (h.blocks u v ou ov).0 (old_back u v ov x), λ x. blocks_grows N tree tree' p w l g u v ((h.blocks u v ou ov).1 x))
      blocks u v (inl (ou, a)) (inr (j, r, f)) = (
        λ x. absurd (old_blocks_child u j ou (subst (Blocks N tree' u) f x)),
        λ x. absurd (let y = lower u ou a in let z = new_cell j r in let t = ap cell f in omega arith),
      )
      blocks u v (inr (i, q, f)) (inl (ov, b)) = (
        λ x. (let y = lower v ov b in let z = new_cell i q in let t = ap cell f in omega arith),
        λ x. subst (λ z. Blocks N tree' z v) (sym f) (by_child i v (blocks_grows N tree tree' p w l g p v ((h.blocks p v open_p ov).1 (let y = lower v ov b in omega (arith, at_tip))))),
      )
      blocks u v (inr (i, q, f)) (inr (j, r, k)) = (
        λ x. (let y = (order i j q r).0 (subst (λ z. Blocks N tree' z (j ∷ p)) f (subst (Blocks N tree' u) k x)) in let a = new_cell i q in let b = new_cell j r in let c = ap cell f in let d = ap cell k in omega arith),
        λ x. subst (λ z. Blocks N tree' z v) (sym f) (subst (Blocks N tree' (i ∷ p)) (sym k) ((order i j q r).1 (let a = new_cell i q in let b = new_cell j r in let c = ap cell f in let d = ap cell k in omega arith))),
      )

      has_grown : HasTip tree' cell ((tip - 1) + n)
      has_grown = record {
        range = λ q o. range q (leaf_cases q o);
        full = full;
        apart = λ u v ou ov e. apart u v (leaf_cases u ou) (leaf_cases v ov) e;
        blocks = λ u v ou ov. blocks u v (leaf_cases u ou) (leaf_cases v ov);
      }

    -- the node that is taken is at the tip
    pub taken_at_tip : (cell : Address → ℕ) (tip : ℕ) (order : List Address) → IsSchedule N tree order → HasTip tree cell tip → IsDue N tree' order p → cell p ≡ tip
    taken_at_tip cell tip order s h d = elim (by_order (cell p) tip) [
      | inl x ↦ absurd (
          let (u, o, e) = h.full tip (omega arith) (omega arith) in
          let b : Blocks N tree u p = (h.blocks u p o (w, g.was)).1 (omega arith) in
          let a : IsAddress N tree' u = address_grows N tree tree' p w l g u (waits o.0, o.1) in
          open_apart N tree u o ((s.covers u).0 (d.clear u a (blocks_grows N tree tree' p w l g u p b))))
      | inr (inl x) ↦ x
      | inr (inr x) ↦ absurd (let y = (h.range p (w, g.was)).1 in omega arith)
    ]

  module _ (total : IsTotal N) where
    -- one more node is taken: the tip falls by one and rises by the number of its children
    pub tip_grows : (tree tree' : Tree N) (p : Address) (w : N.Work) (l : Label N) → IsGrowth N tree tree' p w l → (cell : Address → ℕ) (tip : ℕ) → AreCells N tree' cell → HasTip tree cell tip → cell p ≡ tip
        → HasTip tree' cell ((tip - 1) + length (child_works N l))
    tip_grows tree tree' p w (waits v) g cell tip c h e = absurd g.taken
    tip_grows tree tree' p w (ran v) g cell tip c h e = has_grown tree tree' p w (ran v) g cell tip (λ i. 0) h (λ i r. absurd (omega arith)) (λ k r. absurd (omega arith)) (λ i j r. absurd (omega arith)) (λ i j r. absurd (omega arith)) (λ i r. absurd (omega arith)) e
    tip_grows tree tree' p w (used m) g cell tip c h e = has_grown tree tree' p w (used m) g cell tip (high N total m) h x.below x.full x.apart order (λ i r. c.children p m i (line_of N total m) g.now (is_line N total m) r ∙ ap (λ z. cell p + z) (high_of N total m (line_of N total m) (is_line N total m) i)) e
      where
        x : AreHeights (count N m) (Precedes (N.Pair m)) (high N total m)
        x = heights N total m

        order : (i j : ℕ) → i < count N m → j < count N m → Blocks N tree' (i ∷ p) (j ∷ p) ↔ (high N total m j < high N total m i)
        order i j q r = (
          λ b. (x.order i j q r).0 (to b),
          λ y. (m, i, g.now, (x.order i j q r).1 y, inl refl),
        )
          where
            to : Blocks N tree' (i ∷ p) (j ∷ p) → Precedes (N.Pair m) i j
            to (k, i', f, pr, inl a) =
                let y = g.now in
                let z : k ≡ m = cc in
                let t : i' ≡ i = cc in
                subst (λ v. Precedes (N.Pair m) v j) t (subst (λ v. Precedes (N.Pair v) i' j) z pr)
            to (k, i', f, pr, inr a) = absurd (not-below_parent i' p a)

    -- the cells of a grown tree are cells of the tree before
    pub cells_back : (tree tree' : Tree N) (p : Address) (w : N.Work) (l : Label N) → IsGrowth N tree tree' p w l → (cell : Address → ℕ) → AreCells N tree' cell → AreCells N tree cell
    cells_back tree tree' p w l g cell c = record { root = c.root; children = λ q m i line e x r. c.children q m i line (used_grows N tree tree' p w l g q m e).1 x r }

    -- of an open leaf alone the tip is 1
    pub tip_at_start : (top : N.Work) (cell : Address → ℕ) → cell [] ≡ 1 → HasTip (open_leaf top) cell 1
    tip_at_start top cell e = record {
      range = λ q o. (let x = ap cell (only q o) in (omega arith, omega arith));
      full = λ x a b. ([], (top, refl), (let y = a in omega arith));
      apart = λ u v ou ov f. only u ou ∙ sym (only v ov);
      blocks = λ u v ou ov. (λ b. absurd (subst (Blocks N (open_leaf top) u) (only v ov) b), λ x. absurd (let y = ap cell (only u ou) in let z = ap cell (only v ov) in omega arith));
    }
      where
        only : (q : Address) → IsOpen N (open_leaf top) q → q ≡ []
        only q o = (leaf_only N top (waits o.0) q o.1).0

    abbrev T : N.Work → List Address → Type 0
    T top order = (tree : Tree N) (cell : Address → ℕ) → IsFront N top tree order → AreCells N tree cell → (tip : ℕ) × HasTip tree cell tip

    pub has_tip : (top : N.Work) (order : List Address) → T top order
    has_tip top = by_push (T top) (λ tree cell f c. (1, subst (λ z. HasTip z cell 1) (sym (unopened N top tree f)) (tip_at_start top cell c.root))) more
      where
        more : (order : List Address) (p : Address) → T top order → T top (order ++ p ∷ [])
        more order p ih tree' cell f c =
            let s = shrink_front N top tree' order p f in
            let (tip, h) = ih s.tree cell s.front (cells_back s.tree tree' p (work_at N s.label) s.label s.growth cell c) in
            let e = taken_at_tip s.tree tree' p (work_at N s.label) s.label s.growth cell tip order s.front.schedule h s.due in
            ((tip - 1) + length (child_works N s.label), tip_grows s.tree tree' p (work_at N s.label) s.label s.growth cell tip c h e)

    pub tells_tip : (top : N.Work) (tree : Tree N) (order : List Address) (cell : Address → ℕ) → IsFront N top tree order → AreCells N tree cell → (tip : ℕ) × TellsTip N tree cell tip
    tells_tip top tree order cell f c = let (tip, h) = has_tip top order tree cell f c in (tip, tells_has tree order cell tip f.schedule h)
