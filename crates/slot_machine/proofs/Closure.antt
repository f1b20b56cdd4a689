-- The closure of the pairs is the order between open leaves.
use Rattle.std.proofs.Common.{ℕ, zero, suc, ◌≡◌, ◌+◌, ◌<◌, ◌⊎◌, ◌↔◌, inl, inr, List, [], ◌∷◌, length, ap, sym, subst, ◌∙◌, Contains, arith}
use Rattle.std.proofs.lemmas.List.Elements.{Contains-append_left}
use Rattle.plan_model.specs.task_networks.Order.{Precedes, direct, through}
use Rattle.plan_model.specs.task_networks.Net.{Net}
use Rattle.plan_model.specs.task_networks.Lawful.{IsLawful}
use Rattle.plan_model.specs.task_networks.Tree.{Tree, Address, IsAddress, IsAbove, label_at, IsOpen, waits, used, IsProcessed}
use Rattle.plan_model.specs.task_networks.Schedule.{Blocks, IsSchedule, MustPrecede}
use Rattle.htn_base.specs.Different.{AreDifferent}
use Rattle.plan_model.proofs.task_networks.Addresses.{below_below, below_up, below-itself}
use Rattle.plan_model.proofs.task_networks.Different.{no_more}
use Rattle.plan_model.proofs.task_networks.Lists.{Contains-here, head_or_tail, not-in_empty, cut_at}
use Rattle.plan_model.proofs.task_networks.Orders.{precedes_then}
use Rattle.slot_machine.specs.Machine.{SlotState, IsUnblocked}
use Rattle.slot_machine.proofs.AtLabel.{not-blocks_itself}
use Rattle.slot_machine.proofs.FrontSteps.{open_address, open_apart}
use Rattle.slot_machine.proofs.Growth.{leaves}
use Rattle.slot_machine.proofs.Matching.{Matches, parent_used, nothing_blocks}

module _ (N : Net) where
  module _ (law : IsLawful N) where
    pub blocks_then : (tree : Tree N) (u v w : Address) → IsAddress N tree v → Blocks N tree u v → Blocks N tree v w → Blocks N tree u w
    blocks_then tree u v [] a x y = y
    blocks_then tree u [] (k ∷ r) a x y = absurd x
    blocks_then tree u (j ∷ q) (k ∷ r) a (m, i, e, c, d) (m', i', e', c', d') = go d'
      where
        go : (i' ∷ r ≡ j ∷ q) ⊎ IsAbove (i' ∷ r) q → Blocks N tree u (k ∷ r)
        go (inl f) =
            let g : i' ≡ j = cc in
            let h : r ≡ q = cc in
            let s : m' ≡ m = (let x = ap (label_at N tree) h in cc) in
            (m', i, e', precedes_then i j k (subst (λ z. Precedes (N.Pair z) i j) (sym s) c) (subst (λ z. Precedes (N.Pair m') z k) g c'), subst (λ z. IsAbove (i ∷ z) u) (sym h) d)
        go (inr f) = (m', i', e', c', below_below (i' ∷ r) q u f (below_up i q u d))

    module _ (b : ℕ) (s : SlotState N) (tree : Tree N) (slot : Address → ℕ) (m : Matches N b s tree slot) where
      -- the pairs say no more than the tree
      pub chain_sound : (x y : ℕ) → Precedes s.before x y → (u : Address) × (v : Address) × IsOpen N tree u × IsOpen N tree v × (slot u ≡ x) × (slot v ≡ y) × Blocks N tree u v
      chain_sound x y (direct h) = m.sound x y h
      chain_sound x y (through {j = z} c h) =
          let (u, v, ou, ov, eu, ev, bl) = chain_sound x z c in
          let (v', w, ov', ow, ev', ew, bl') = m.sound z y h in
          let f : v' ≡ v = m.apart v' v ov' ov (ev' ∙ sym ev) in
          (u, w, ou, ow, eu, ew, blocks_then tree u v w (open_address N tree v ov) bl (subst (λ z. Blocks N tree z w) f bl'))

      -- the walk back from v meets different leaves, so it ends
      walk : (leaves : List Address) → ((p : Address) → IsOpen N tree p → Contains leaves p) → (k : ℕ) (u v : Address) (seen : List Address) → length leaves < k + length seen
          → AreDifferent (v ∷ seen) → ((p : Address) → Contains (v ∷ seen) p → IsOpen N tree p) → ((p : Address) → Contains seen p → Blocks N tree v p)
          → IsOpen N tree u → Blocks N tree u v → Precedes s.before (slot u) (slot v)
      walk leaves all zero u v seen h d o bs ou bl = absurd (let x = no_more (v ∷ seen) leaves d (λ p c. all p (o p c)) in omega arith)
      walk leaves all (suc k) u v seen h d o bs ou bl = elim (m.complete u v ou ov bl) [
        | inl bf ↦ direct bf
        | inr y ↦ (let (x, ox, bx, bf) = y in through (walk leaves all k u x (v ∷ seen) (omega arith) (new x ox bf, d) (opens x ox) (λ p c. before x p ox (blocks x ox bf) c) ou bx) bf)
      ]
        where
          ov : IsOpen N tree v
          ov = o v (Contains-here v seen)

          blocks : (x : Address) → IsOpen N tree x → s.before (slot x) (slot v) → Blocks N tree x v
          blocks x ox bf =
              let (x', v', ox', ov', ex, ev, bl') = m.sound (slot x) (slot v) bf in
              subst (λ z. Blocks N tree z v) (m.apart x' x ox' ox ex) (subst (Blocks N tree x') (m.apart v' v ov' ov ev) bl')

          before : (x p : Address) → IsOpen N tree x → Blocks N tree x v → Contains (v ∷ seen) p → Blocks N tree x p
          before x p ox bl' c = elim (head_or_tail v seen p c) [ inl e ↦ subst (Blocks N tree x) e bl' | inr e ↦ blocks_then tree x v p (open_address N tree v ov) bl' (bs p e) ]

          new : (x : Address) → IsOpen N tree x → s.before (slot x) (slot v) → Contains (v ∷ seen) x → ⊥
          new x ox bf c = not-blocks_itself N law tree x (before x x ox (blocks x ox bf) c)

          opens : (x : Address) → IsOpen N tree x → (p : Address) → Contains (x ∷ v ∷ seen) p → IsOpen N tree p
          opens x ox p c = elim (head_or_tail x (v ∷ seen) p c) [ inl e ↦ subst (IsOpen N tree) e ox | inr e ↦ o p e ]

      pub chain_complete : (leaves : List Address) → ((p : Address) → IsOpen N tree p → Contains leaves p) → (u v : Address) → IsOpen N tree u → IsOpen N tree v → Blocks N tree u v → Precedes s.before (slot u) (slot v)
      chain_complete leaves all u v ou ov bl = walk leaves all (suc (length leaves)) u v [] (omega arith) (not-in_empty v, tt) (λ p c. elim (head_or_tail v [] p c) [ inl e ↦ subst (IsOpen N tree) e ov | inr e ↦ absurd (not-in_empty p e) ]) (λ p c. absurd (not-in_empty p c)) ou bl

      pub chain_iff : (leaves : List Address) → ((p : Address) → IsOpen N tree p → Contains leaves p) → (u v : Address) → IsOpen N tree u → IsOpen N tree v → Precedes s.before (slot u) (slot v) ↔ Blocks N tree u v
      chain_iff leaves all u v ou ov = (λ c. to (chain_sound (slot u) (slot v) c), chain_complete leaves all u v ou ov)
        where
          to : (u' : Address) × (v' : Address) × IsOpen N tree u' × IsOpen N tree v' × (slot u' ≡ slot u) × (slot v' ≡ slot v) × Blocks N tree u' v' → Blocks N tree u v
          to (u', v', ou', ov', eu, ev, bl) = subst (λ z. Blocks N tree z v) (m.apart u' u ou' ou eu) (subst (Blocks N tree u') (m.apart v' v ov' ov ev) bl)

  -- between open leaves of a front, no proper ancestor of the second waits
  pub only_siblings : (tree : Tree N) (order : List Address) (u v : Address) → IsSchedule N tree order → IsOpen N tree u → IsOpen N tree v → MustPrecede N tree u v ↔ Blocks N tree u v
  only_siblings tree order u v s ou ov = (λ h. to v ov h.0 h.1 h.2, λ h. (v, below-itself v, h))
    where
      used_above : (c v : Address) → IsAbove c v → IsAddress N tree v → (c ≡ v) ⊎ IsProcessed N tree c
      used_above c [] e a = inl e
      used_above c (k ∷ v) (inl e) a = inl e
      used_above c (k ∷ v) (inr h) (l, e) =
          let (m, f) = parent_used N tree k v l e in
          elim (used_above c v h (used m, f)) [ inl x ↦ inr (used m, ap (label_at N tree) x ∙ f, tt) | inr x ↦ inr x ]

      to : (v : Address) → IsOpen N tree v → (c : Address) → IsAbove c v → Blocks N tree u c → Blocks N tree u v
      to v (w, e) c h bl = elim (used_above c v h (waits w, e)) [
        | inl x ↦ subst (Blocks N tree u) x bl
        | inr x ↦ (let (taken, rest, f) = cut_at order c ((s.covers c).1 x) in
            let y : Contains taken u = (s.due taken rest c f).clear u (waits ou.0, ou.1) bl in
            absurd (open_apart N tree u ou ((s.covers u).0 (subst (λ z. Contains z u) (sym f) (Contains-append_left taken (c ∷ rest) u y)))))
      ]

  -- the machine's test is the sentence on the tree
  pub waiting_iff : (b : ℕ) (s : SlotState N) (tree : Tree N) (order : List Address) (slot : Address → ℕ) (v : Address) → Matches N b s tree slot → IsSchedule N tree order → IsOpen N tree v → IsUnblocked N s (slot v) ↔ ((u : Address) → IsOpen N tree u → MustPrecede N tree u v → ⊥)
  waiting_iff b s tree order slot v m sc ov = (
    λ unblocked u ou h. nothing_blocks N b s tree slot v u m unblocked ov ou ((only_siblings tree order u v sc ou ov).0 h),
    λ f x bf. (let (u, v', ou, ov', eu, ev, bl) = m.sound x (slot v) bf in f u ou (v, below-itself v, subst (Blocks N tree u) (m.apart v' v ov' ov ev) bl)),
  )
