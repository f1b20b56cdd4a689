-- What holds between the machine and a front, and that a step keeps it.
use Rattle.std.proofs.Common.{ℕ, ◌≡◌, ◌≢◌, ◌≤◌, ◌⊎◌, ◌↔◌, inl, inr, List, [], ◌∷◌, Option, Some, None, option_map, refl, ap, subst, ◌∙◌, Contains}
use Rattle.plan_model.specs.task_networks.Net.{Net}
use Rattle.plan_model.specs.task_networks.Lawful.{IsLawful}
use Rattle.plan_model.specs.task_networks.Tree.{at, Tree, Address, label_at, label, waits, IsOpen, ran, used, Label, IsAddress, IsAbove, IsProcessed}
use Rattle.plan_model.specs.task_networks.Schedule.{Blocks, IsSchedule, IsDue, IsBegun}
use Rattle.plan_model.proofs.task_networks.Nodes.{parent}
use Rattle.slot_machine.specs.Machine.{SlotState, IsUnblocked}
use Rattle.slot_machine.proofs.AtLabel.{not-blocks_itself}
use Rattle.slot_machine.proofs.FrontSteps.{blocks_back, blocks_grows, open_apart, address_back}
use Rattle.slot_machine.proofs.Growth.{IsGrowth, place}

module _ (N : Net) where
  pub record Matches (b : ℕ) (s : SlotState N) (tree : Tree N) (slot : Address → ℕ) : Type 0 where
    pub holds : (x : ℕ) (w : N.Work) → s.holds x w ↔ ((q : Address) × (label_at N tree q ≡ Some (waits w)) × (slot q ≡ x))
    pub free : (x : ℕ) → s.free x ↔ ((1 ≤ x) × (x ≤ b) × ((q : Address) → IsOpen N tree q → slot q ≡ x → ⊥))
    pub range : (q : Address) → IsOpen N tree q → (1 ≤ slot q) × (slot q ≤ b)
    pub apart : (u v : Address) → IsOpen N tree u → IsOpen N tree v → slot u ≡ slot v → u ≡ v
    pub sound : (x y : ℕ) → s.before x y → (u : Address) × (v : Address) × IsOpen N tree u × IsOpen N tree v × (slot u ≡ x) × (slot v ≡ y) × Blocks N tree u v
    pub complete : (u v : Address) → IsOpen N tree u → IsOpen N tree v → Blocks N tree u v → s.before (slot u) (slot v) ⊎ ((x : Address) × IsOpen N tree x × Blocks N tree u x × s.before (slot x) (slot v))

  pub nothing_blocks : (b : ℕ) (s : SlotState N) (tree : Tree N) (slot : Address → ℕ) (p u : Address) → Matches b s tree slot → IsUnblocked N s (slot p) → IsOpen N tree p → IsOpen N tree u → Blocks N tree u p → ⊥
  nothing_blocks b s tree slot p u m unblocked op ou bl = elim (m.complete u p ou op bl) [ inl x ↦ unblocked (slot u) x | inr x ↦ unblocked (slot x.0) x.3 ]

  -- the parent of an address is a split
  pub parent_used : (tree : Tree N) (i : ℕ) (q : Address) (l : Label N) → label_at N tree (i ∷ q) ≡ Some l → (m : N.Method) × (label_at N tree q ≡ Some (used m))
  parent_used tree i q l e = go (at N tree (i ∷ q)) refl e
    where
      go : (o : Option (Tree N)) → at N tree (i ∷ q) ≡ o → option_map (label N) o ≡ Some l → (m : N.Method) × (label_at N tree q ≡ Some (used m))
      go None f c = absurd cc
      go (Some t) f c = let h = parent N tree i q t f in (h.0, ap (option_map (label N)) h.2)

  -- the parent of an open leaf is taken, or there is none
  pub open_begun : (tree : Tree N) (order : List Address) (u : Address) (w : N.Work) → IsSchedule N tree order → label_at N tree u ≡ Some (waits w) → IsBegun order u
  open_begun tree order [] w s e = tt
  open_begun tree order (i ∷ q) w s e = let h = parent_used tree i q (waits w) e in (s.covers q).1 (used h.0, h.1, tt)

  module _ (law : IsLawful N) (b : ℕ) (s : SlotState N) (tree tree' : Tree N) (p : Address) (w : N.Work) (l : Label N) (g : IsGrowth N tree tree' p w l) (slot : Address → ℕ) (m : Matches b s tree slot) where
    open_p : IsOpen N tree p
    open_p = (w, g.was)

    -- a way to an open leaf isn't that of a child of p
    parent_apart : (j : ℕ) (q : Address) → IsAddress N tree (j ∷ q) → q ≢ p
    parent_apart j q (k, e) f = let h = g.childless j in let x = ap (λ y. label_at N tree (j ∷ y)) f in absurd cc

    pub back : (u v : Address) → IsAddress N tree v → Blocks N tree' u v → Blocks N tree u v
    back u [] a bl = bl
    back u (j ∷ q) a bl = blocks_back N tree tree' p w l g u j q (parent_apart j q a) bl

    -- what blocks another address, blocks it for the children too
    pub up : (k : ℕ) (v : Address) → IsAddress N tree v → Blocks N tree (k ∷ p) v → Blocks N tree p v
    up k [] a bl = bl
    up k (j ∷ q) a (n, i, e, h, c) = (n, i, e, h, go c)
      where
        go : (i ∷ q ≡ k ∷ p) ⊎ IsAbove (i ∷ q) p → IsAbove (i ∷ q) p
        go (inl x) = absurd (parent_apart j q a (let y : q ≡ p = cc in y))
        go (inr x) = x

    pub down : (k : ℕ) (v : Address) → Blocks N tree p v → Blocks N tree (k ∷ p) v
    down k [] bl = bl
    down k (j ∷ q) (n, i, e, h, c) = (n, i, e, h, inr c)

    pub due_unblocked : (order : List Address) → IsSchedule N tree order → IsDue N tree' order p → IsUnblocked N s (slot p)
    due_unblocked order sc d x bf =
        let (u, v, ou, ov, eu, ev, bl) = m.sound x (slot p) bf in
        let e : v ≡ p = m.apart v p ov open_p ev in
        let c : Contains order u = d.clear u (go u ou) (blocks_grows N tree tree' p w l g u p (subst (Blocks N tree u) e bl)) in
        open_apart N tree u ou ((sc.covers u).0 c)
      where
        go : (u : Address) → IsOpen N tree u → IsAddress N tree' u
        go u (k, e) = elim (place N p u) [
          | inl f ↦ (l, ap (label_at N tree') f ∙ g.now)
          | inr (inl (i, f)) ↦ (let h = g.childless i in let x = ap (label_at N tree) f in absurd cc)
          | inr (inr (a, c)) ↦ (waits k, g.others u a c ∙ e)
        ]

    is_open : (k : Label N) (u : Address) → label_at N tree u ≡ Some k → IsOpen N tree u ⊎ IsProcessed N tree u
    is_open (waits v) u e = inl (v, e)
    is_open (ran v) u e = inr (ran v, e, tt)
    is_open (used n) u e = inr (used n, e, tt)

    pub unblocked_due : (order : List Address) → IsSchedule N tree order → IsUnblocked N s (slot p) → IsDue N tree' order p
    unblocked_due order sc unblocked = record { fresh = λ c. open_apart N tree p open_p ((sc.covers p).0 c); begun = open_begun tree order p w sc g.was; clear = λ u a bl. clear u (address_back N tree tree' p w l g u a) bl }
      where
        clear : (u : Address) → IsAddress N tree u ⊎ ((i : ℕ) × (u ≡ i ∷ p)) → Blocks N tree' u p → Contains order u
        clear u (inl (k, e)) bl = elim (is_open k u e) [ inl o ↦ absurd (nothing_blocks b s tree slot p u m unblocked open_p o (back u p (waits w, g.was) bl)) | inr o ↦ (sc.covers u).1 o ]
        clear u (inr (i, e)) bl = absurd (not-blocks_itself N law tree p (up i p (waits w, g.was) (subst (λ x. Blocks N tree x p) e (back u p (waits w, g.was) bl))))
