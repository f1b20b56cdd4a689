-- The cells of a stack: what the rule picks are they, and there is room for them wherever there are slots at all.
use Rattle.std.proofs.Common.{ℕ, suc, ◌≡◌, ◌+◌, ◌-◌, ◌<◌, ◌≤◌, ◌↔◌, inl, inr, List, [], ◌∷◌, length, map, Some, ap, sym, subst, ◌∙◌, Contains, arith}
use Rattle.std.proofs.Math.Decide.{ℕ_discrete}
use Rattle.std.proofs.lemmas.List.{length-map}
use Rattle.plan_model.specs.task_networks.Order.{IsLine, Precedes}
use Rattle.plan_model.specs.task_networks.Net.{Net, count}
use Rattle.plan_model.specs.task_networks.Lawful.{IsLawful}
use Rattle.plan_model.specs.task_networks.Tree.{Tree, Address, used, waits, label_at, IsOpen}
use Rattle.plan_model.specs.task_networks.Spelling.{Act, apply, numbers, others, Spells}
use Rattle.plan_model.proofs.task_networks.Different.{no_more}
use Rattle.plan_model.proofs.task_networks.Lists.{cut_at, head_or_tail, not-in_empty}
use Rattle.plan_model.proofs.task_networks.Numbers.{length-numbers, to_numbers}
use Rattle.plan_model.proofs.task_networks.Orders.{is_some}
use Rattle.slot_machine.specs.Machine.{SlotState, IsUnblocked, May}
use Rattle.slot_machine.specs.OtherMachine.{TakesAll}
use Rattle.slot_machine.proofs.Matching.{Matches, nothing_blocks}
use Rattle.plan_model.proofs.task_networks.OtherChildren.{rest_of, rest_cases, different_rest}
use Rattle.slot_machine.proofs.OtherChildren.{different-map, map_cases, map_same, length-rest}
use Rattle.slot_machine.proofs.SpellingRuns.{runs_from_spells}
use Rattle.schedules.specs.ruled.Narrowed.{after, AlwaysPicks, PicksOne, SpellsPicked}
use Rattle.schedules.specs.ruled.SlotRule.{SeesFree, PicksBy, Follows}
use Rattle.stack_machine.specs.Stack.{IsTotal, StackRule, AreCells, behind}
use Rattle.schedules.proofs.ruled.Following.{picked_iff_follows}
use Rattle.stack_machine.proofs.Heights.{AreHeights, line_of, is_line, high, heights, high_of, heir_lowest}
use Rattle.schedules.proofs.ruled.LowestRule.{by_order}
use Rattle.stack_machine.proofs.StackTells.{HasTip, has_tip}

same_images : (f g : ℕ → ℕ) (xs : List ℕ) (x : ℕ) → map f xs ≡ map g xs → Contains xs x → f x ≡ g x
same_images f g [] x e c = absurd (not-in_empty x c)
same_images f g (y ∷ xs) x e c = elim (head_or_tail y xs x c) [ inl h ↦ subst (λ z. f z ≡ g z) h (cc) | inr d ↦ same_images f g xs x (cc) d ]

module _ (N : Net) where
  pub stack_sees_free : SeesFree N (StackRule N)
  stack_sees_free free other h m new same r = r

  module _ (law : IsLawful N) (total : IsTotal N) (b : ℕ) (top : N.Work) where
    abbrev pub Pick : List (Act N) → Act N → Type 0
    Pick = PicksBy N (StackRule N) b top

    pub stack_one : PicksOne N Pick b top
    stack_one acts tree order slot h new other m s a c p q = p (line_of N total m) (is_line N total m) ∙ sym (q (line_of N total m) (is_line N total m))

    -- the slots that follow the rule are the cells
    pub cells_iff_picked : (acts : List (Act N)) (tree : Tree N) (order : List Address) (slot : Address → ℕ) → Spells N b top acts tree order slot → TakesAll N Pick acts ↔ AreCells N tree slot
    cells_iff_picked acts tree order slot s = (λ t. to (iff.0 t), λ c. iff.1 (from c))
      where
        iff : TakesAll N Pick acts ↔ Follows N (StackRule N) b tree order slot
        iff = picked_iff_follows N law (StackRule N) stack_sees_free b top acts tree order slot s

        to : Follows N (StackRule N) b tree order slot → AreCells N tree slot
        to f = record { root = s.root; children = children }
          where
            children : (p : Address) (m : N.Method) (i : ℕ) (line : List ℕ) → label_at N tree p ≡ Some (used m) → IsLine (N.Pair m) (count N m) line → i < count N m → slot (i ∷ p) ≡ slot p + behind line i
            children p m i line e l r = elim (is_some (N.heir m) i) [
              | yes h ↦ (let x = s.heirs p m i e h in let y = high_of N total m line l i in let z = heir_lowest N total m i h in omega arith)
              | no n ↦ (let (taken, rest, c) = cut_at order p ((s.front.schedule.covers p).1 (used m, e, tt)) in
                  same_images (λ i. slot (i ∷ p)) (λ i. slot p + behind line i) (others N m) i (f taken rest p m c e line l) ((rest_cases (N.heir m) (count N m) i).1 (r, n)))
            ]

        from : AreCells N tree slot → Follows N (StackRule N) b tree order slot
        from c taken rest p m e l line is = map_same (λ i. slot (i ∷ p)) (λ i. slot p + behind line i) (others N m) (λ i k. c.children p m i line l is ((rest_cases (N.heir m) (count N m) i).0 k).0)

    module _ (acts : List (Act N)) (tree : Tree N) (order : List Address) (slot : Address → ℕ) (s : Spells N b top acts tree order slot) (tip : ℕ) (has : HasTip N tree slot tip) where
      abbrev state : SlotState N
      state = after N b top acts

      pub matches : Matches N b state tree slot
      matches = (runs_from_spells N law b top order acts tree slot s).1

      -- what isn't free is up to the tip
      pub above_tip : (x : ℕ) → state.free x → (tip < x) × (x ≤ b)
      above_tip x f =
          let h = (matches.free x).0 f in (
            elim (by_order tip x) [
              | inl y ↦ y
              | inr y ↦ absurd (let (q, o, e) = has.full x h.0 (elim y [ inl z ↦ omega arith | inr z ↦ omega arith ]) in h.2 q o e)
            ],
            h.1,
          )

      pub free_above : (x : ℕ) → tip < x → x ≤ b → state.free x
      free_above x l r = (matches.free x).1 (omega arith, r, λ q o e. (let y = (has.range q o).1 in omega arith))

      pub tip_within : (p : Address) → IsOpen N tree p → slot p ≡ tip → tip ≤ b
      tip_within p o e = let x = (s.range p (waits o.0, o.1)).1 in omega arith

      -- nothing stands before a leaf exactly where it is at the tip
      pub unblocked_iff : (p : Address) → IsOpen N tree p → IsUnblocked N state (slot p) ↔ (slot p ≡ tip)
      unblocked_iff p o = (to, from)
        where
          to : IsUnblocked N state (slot p) → slot p ≡ tip
          to un = elim (by_order (slot p) tip) [
            | inl x ↦ absurd (let (u, ou, e) = has.full tip (omega arith) (omega arith) in nothing_blocks N b state tree slot p u matches un o ou ((has.blocks u p ou o).1 (omega arith)))
            | inr (inl x) ↦ x
            | inr (inr x) ↦ absurd (let y = (has.range p o).1 in omega arith)
          ]

          from : slot p ≡ tip → IsUnblocked N state (slot p)
          from e x bf =
              let (u, v, ou, ov, eu, ev, bl) = matches.sound x (slot p) bf in
              let y = (has.blocks u v ou ov).0 bl in
              let z = (has.range u ou).1 in
              omega arith

      -- where there are slots at all for a method at the tip, its cells are free
      pub cells_may : (h : ℕ) (some : List ℕ) (m : N.Method) → May N state (apply h some m) → (h ≡ tip) × (h + count N m ≤ suc b)
      cells_may h some m a =
          let (p, e, f) = (matches.holds h (N.head m)).0 a.holds in
          let o : IsOpen N tree p = (N.head m, e) in
          let at : slot p ≡ tip = (unblocked_iff p o).0 (λ x bf. a.unblocked x (subst (state.before x) f bf)) in
          let r = tip_within p o at in
          (sym f ∙ at, room (sym f ∙ at) r (ℕ_discrete (count N m) 0))
        where
          room : h ≡ tip → tip ≤ b → Dec (count N m ≡ 0) → h + count N m ≤ suc b
          room e r (yes z) = omega arith
          room e r (no z) =
              let (k, hk) = law.has_heir m (omega arith) in
              let few : suc (length (others N m)) ≡ count N m = ap (λ o. suc (length (rest_of o (count N m)))) hk ∙ length-rest k (count N m) (law.heir_is_child m k hk) in
              let q = no_more some (numbers (suc tip) (b - tip)) a.apart (λ x c. (let y = above_tip x (a.free x c) in let y0 = y.0 in let y1 = y.1 in to_numbers (suc tip) (b - tip) x (omega arith) (omega arith))) in
              let l = length-numbers (suc tip) (b - tip) in
              let en = a.enough in
              omega arith

      pub may_cells : (h : ℕ) (m : N.Method) (new : List ℕ) → state.holds h (N.head m) → N.IsGround m → h ≡ tip → h + count N m ≤ suc b → StackRule N state.free h m new → May N state (apply h new m)
      may_cells h m new holds ground e r rule = subst (λ z. May N state (apply h z m)) (sym is) (record {
        holds = holds;
        ground = ground;
        unblocked = unblocked;
        enough = length-map (others N m) f;
        free = λ x c. free x (map_cases f (others N m) x c);
        apart = different-map f (others N m) (different_rest (N.heir m) (count N m)) (λ i j c d k. apart i j c d k);
      })
        where
          f : ℕ → ℕ
          f i = h + high N total m i

          hs : AreHeights (count N m) (Precedes (N.Pair m)) (high N total m)
          hs = heights N total m

          is : new ≡ map f (others N m)
          is = rule (line_of N total m) (is_line N total m) ∙ map_same (λ i. h + behind (line_of N total m) i) f (others N m) (λ i c. ap (λ z. h + z) (high_of N total m (line_of N total m) (is_line N total m) i))

          unblocked : IsUnblocked N state h
          unblocked =
              let (p, g, k) = (matches.holds h (N.head m)).0 holds in
              let u = (unblocked_iff p (N.head m, g)).1 (k ∙ e) in
              subst (IsUnblocked N state) k u

          child : (i : ℕ) → Contains (others N m) i → (i < count N m) × (N.heir m ≡ Some i → ⊥)
          child i c = (rest_cases (N.heir m) (count N m) i).0 c

          positive : (i : ℕ) → Contains (others N m) i → 1 ≤ high N total m i
          positive i c =
              let (l, n) = child i c in
              let (k, hk) = law.has_heir m (omega arith) in
              let z = heir_lowest N total m k hk in
              elim (ℕ_discrete (high N total m i) 0) [
                | yes y ↦ absurd (n (hk ∙ ap Some (hs.apart k i (law.heir_is_child m k hk) l (z ∙ sym y))))
                | no y ↦ omega arith
              ]

          free : (x : ℕ) → (i : ℕ) × Contains (others N m) i × (f i ≡ x) → state.free x
          free x (i, c, g) = subst state.free g (free_above (f i) (let y = positive i c in omega arith) (let y = hs.below i (child i c).0 in omega arith))

          apart : (i j : ℕ) → Contains (others N m) i → Contains (others N m) j → f i ≡ f j → i ≡ j
          apart i j c d k = hs.apart i j (child i c).0 (child j d).0 (omega arith)

    pub stack_always : AlwaysPicks N Pick b top
    stack_always = record { runs = λ acts tree order slot h w s a. tt; methods = methods }
      where
        methods : (acts : List (Act N)) (tree : Tree N) (order : List Address) (slot : Address → ℕ) (h : ℕ) (some : List ℕ) (m : N.Method)
            → SpellsPicked N Pick b top acts tree order slot → May N (after N b top acts) (apply h some m)
            → (new : List ℕ) × May N (after N b top acts) (apply h new m) × Pick acts (apply h new m)
        methods acts tree order slot h some m s a =
            let (tip, has) = has_tip N total top order tree slot s.spells.front ((cells_iff_picked acts tree order slot s.spells).0 s.picked) in
            let (e, r) = cells_may acts tree order slot s.spells tip has h some m a in
            let new = map (λ i. h + behind (line_of N total m) i) (others N m) in
            let rule : StackRule N (after N b top acts).free h m new = (λ line l. map_same (λ i. h + behind (line_of N total m) i) (λ i. h + behind line i) (others N m)
            (λ i c. ap (λ z. h + z) (high_of N total m (line_of N total m) (is_line N total m) i ∙ sym (high_of N total m line l i)))) in
            (new, may_cells acts tree order slot s.spells tip has h m new a.holds a.ground e r rule, rule)
