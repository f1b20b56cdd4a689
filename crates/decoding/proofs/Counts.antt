-- The numbers of a front follow a step: with children, or along the way from a leaf without children to the root.
use Rattle.std.proofs.Common.{ℕ, zero, suc, ◌≡◌, ◌≢◌, ◌+◌, ◌<◌, ◌≤◌, ◌⊎◌, ◌↔◌, inl, inr, List, [], ◌∷◌, ◌++◌, length, Option, Some, None, option_map, slice_get, refl, ap, sym, subst, ◌∙◌, Contains, append-nil, arith}
use Rattle.std.proofs.Math.Decide.{ℕ_discrete}
use Rattle.plan_model.specs.task_networks.Order.{direct}
use Rattle.plan_model.specs.task_networks.Net.{Net, count}
use Rattle.plan_model.specs.task_networks.Lawful.{IsLawful}
use Rattle.plan_model.specs.task_networks.Tree.{Tree, Label, open_leaf, waits, used, Address, IsAbove, at, label, label_at, IsAddress, IsOpen}
use Rattle.plan_model.specs.task_networks.Spelling.{Act, label_of, Spells}
use Rattle.htn_base.specs.Different.{AreDifferent}
use Rattle.plan_model.proofs.task_networks.Addresses.{is_same_address, is_below, below-itself, below_up, below_cases, below_below, same_sibling, not-below_parent}
use Rattle.slot_machine.specs.Causes.{IsWaiting}
use Rattle.slot_machine.proofs.FrontSteps.{taken_apart, used_back}
use Rattle.slot_machine.proofs.Growth.{leaf_at, none_below}
use Rattle.slot_machine.proofs.LabelTrees.{leaf_only}
use Rattle.slot_machine.proofs.OtherChildren.{get_number}
use Rattle.slot_machine.proofs.SpellingSteps.{open_slots_apart}
use Rattle.tree_core.proofs.Gets.{get_right, get_cases, get_some, one_place}
use Rattle.tree_core.proofs.GrowthLaws.{once}
use Rattle.decoding.specs.FailingAct.{slot_in, work_in}
use Rattle.decoding.specs.Waiting.{works_below, HasOpen, IsOpenBefore, WaitsDirectly, BlockedBy, OpenChildren, BecomesWhole}
use Rattle.decoding.specs.WaitingLaws.{IsNextStep}
use Rattle.decoding.specs.HeldLeaves.{IsChildSlot}
use Rattle.decoding.specs.Counted.{AreNumbersOf, AreCounted, IsWhole, IsToldTo, AreLowered, AreNumberedNew, AreNumberedNone}
use Rattle.decoding.specs.CountedLaws.{CountedAtFirst, CountTellsWaiting, WalkTells, WalkIsDecided, WalkEndsAtRoot, StepCounts}
use Rattle.decoding.proofs.FailingSteps.{is_in}
use Rattle.decoding.proofs.Many.{many_some}
use Rattle.decoding.proofs.Numbers.{growth, childless, still_open, was_open, off_the_way, on_the_way, blocked_falls, blocked_stays, children_fall, children_stay, new_child, child_new, leaf_is_whole, new_children, new_blocked, number_tells_waiting, number_tells_whole}
use Rattle.decoding.proofs.Locally.{waiting_is_local, who_waits_is_open}
use Rattle.decoding.proofs.NextSteps.{step_is_next}

-- of two addresses above one, one is above the other
comparable : (a c p : Address) → IsAbove a p → IsAbove c p → IsAbove a c ⊎ IsAbove c a
comparable a c [] x y = inl (subst (IsAbove a) (sym y) x)
comparable a c (k ∷ p) (inl x) y = inr (subst (IsAbove c) (sym x) y)
comparable a c (k ∷ p) (inr x) (inl y) = inl (subst (IsAbove a) (sym y) (inr x))
comparable a c (k ∷ p) (inr x) (inr y) = comparable a c p x y

module _ (N : Net) where
  pub counted_at_first : CountedAtFirst N
  counted_at_first top slot blocked open_at e = record {
    root = λ o. e;
    each = λ q. record { blocked_by = λ j o. absurd (let x = (leaf_only N top (waits o.0) (j ∷ q) o.1).0 in cc); open_children = λ k m f g. absurd cc };
  }

  -- above a node there is one
  address_above : (tree : Tree N) (q : Address) → HasOpen N tree q → IsAddress N tree q
  address_above tree q (u, a, (w, o)) = go (at N tree q) refl
    where
      go : (t : Option (Tree N)) → at N tree q ≡ t → IsAddress N tree q
      go None e = absurd (let x = ap (option_map (label N)) (none_below N tree q u e a) in cc)
      go (Some t) e = (label N t, ap (option_map (label N)) e)

  pub count_tells_waiting : IsLawful N → CountTellsWaiting N
  count_tells_waiting law b top acts tree order slot blocked open_at s c p o = (
    λ w. (let e = open_slots_apart N b top acts tree order slot s w.0 p w.1 o w.2 in (told p o).0 (subst (IsWaiting N tree) e w.3)),
    λ l. (p, o, refl, (told p o).1 l),
  )
    where
      direct_one : (p : Address) (o : IsOpen N tree p) → WaitsDirectly N tree p ↔ (1 ≤ blocked (slot p))
      direct_one [] o = ((λ w. absurd w), (λ l. let e = c.root o in omega arith))
      direct_one (j ∷ q) o = number_tells_waiting N tree j q (blocked (slot (j ∷ q))) ((c.each q).blocked_by j o)

      told : (p : Address) (o : IsOpen N tree p) → IsWaiting N tree p ↔ (1 ≤ blocked (slot p))
      told p o =
          let x = waiting_is_local N law tree order p s.front.grown s.front.schedule o in
          let y = direct_one p o in
          ((λ w. y.0 (x.0 w)), (λ l. x.1 (y.1 l)))

  module _ (law : IsLawful N) (b : ℕ) (top : N.Work) (acts : List (Act N)) (a : Act N) (tree grown : Tree N) (order longer : List Address) (slot slots : Address → ℕ)
      (s : Spells N b top acts tree order slot) (s' : Spells N b top (acts ++ a ∷ []) grown longer slots) (n : IsNextStep N a tree grown order longer slot slots) where
    abbrev p : Address
    p = n.leaf

    abbrev l : Label N
    l = label_of N a

    abbrev Of : Tree N → (ℕ → ℕ) → (ℕ → ℕ) → Address → Type 0
    Of of = AreNumbersOf N of grown longer slots

    leaf_open : IsOpen N tree p
    leaf_open = (work_in N a, n.is)

    leaf_once : (q : Address) → IsOpen N tree q → slot q ≡ slot_in N a → q ≡ p
    leaf_once q o e = open_slots_apart N b top acts tree order slot s q p o leaf_open (e ∙ sym n.at_slot)

    slots_once : (u v : Address) → IsOpen N grown u → IsOpen N grown v → slots u ≡ slots v → u ≡ v
    slots_once = open_slots_apart N b top (acts ++ a ∷ []) grown longer slots s'

    not_leaf : (u : Address) → IsOpen N grown u → u ≢ p
    not_leaf u o e = taken_apart N l o.0 (let x = n.grows.now in let z = ap (label_at N grown) e in let w = o.1 in cc) n.grows.taken

    same_slot : (u : Address) → IsOpen N tree u → slots u ≡ slot u
    same_slot u o = n.same u (waits o.0, o.1)

    other_slot : (u : Address) → IsOpen N tree u → IsOpen N grown u → slots u ≢ slot_in N a
    other_slot u o o' e = not_leaf u o' (leaf_once u o (sym (same_slot u o) ∙ e))

    old_leaf : (j : ℕ) (q : Address) → q ≢ p → IsOpen N grown (j ∷ q) → IsOpen N tree (j ∷ q)
    old_leaf j q d o = elim (was_open N tree grown p l n.grows (j ∷ q) o) [ inl x ↦ x | inr (i, e) ↦ absurd (d (let f : q ≡ p = cc in f)) ]

    old_used : (q : Address) (m : N.Method) → q ≢ p → label_at N grown q ≡ Some (used m) → label_at N tree q ≡ Some (used m)
    old_used q m d e = used_back N tree grown p n.grows.was.0 l (growth N tree grown p l n.grows) q m d e

    -- places in the order
    differ : AreDifferent longer
    differ = once N grown longer s'.front.schedule longer [] (sym (append-nil longer))

    place_old : (k : ℕ) (q : Address) → q ≢ p → slice_get longer k ≡ Some q → (k < length order) × (slice_get order k ≡ Some q)
    place_old k q d e = elim (get_cases order (p ∷ []) k q (ap (λ z. slice_get z k) (sym n.ordered) ∙ e)) [ inl x ↦ x | inr x ↦ absurd (d (only x.0 x.2)) ]
      where
        only : (j : ℕ) → slice_get (p ∷ []) j ≡ Some q → q ≡ p
        only zero g = cc
        only (suc j) g = absurd cc

    place_new : (k : ℕ) → slice_get longer k ≡ Some p → k ≡ length order
    place_new k e =
        let f : slice_get longer (length order + 0) ≡ Some p = ap (λ z. slice_get z (length order + 0)) n.ordered ∙ get_right order (p ∷ []) 0 in
        let g = one_place longer differ k (length order + 0) p e f in
        omega arith

    root_taken : IsOpen N grown [] → ⊥
    root_taken o = elim (was_open N tree grown p l n.grows [] o) [ inl x ↦ at_root x | inr (i, e) ↦ cc ]
      where
        at_root : IsOpen N tree [] → ⊥
        at_root (w, e) =
            let x : tree ≡ open_leaf w = (let y = leaf_at N tree [] w e in cc) in
            let f = (leaf_only N w (waits (work_in N a)) p (ap (λ z. label_at N z p) (sym x) ∙ n.is)).0 in
            not_leaf [] o (sym f)

    -- numbers of the old tree are those of the new one, where all children that aren't whole stay so
    stay : (q : Address) → q ≢ p → ((i : ℕ) → HasOpen N tree (i ∷ q) → HasOpen N grown (i ∷ q)) → (bl op : ℕ → ℕ) → Of tree bl op q → Of grown bl op q
    stay q d keep bl op x = record {
      blocked_by = λ j o. (let old = old_leaf j q d o in blocked_stays N tree grown p l n.grows q j (bl (slots (j ∷ q))) (waits old.0, old.1) (λ i before. keep i before.3) (x.blocked_by j o));
      open_children = λ k m e f. children_stay N tree grown p l n.grows q (op k) m (old_used q m d f) keep (x.open_children k m e f);
    }

    same_numbers : (of : Tree N) (q : Address) (bl op bl' op' : ℕ → ℕ) → ((j : ℕ) → IsOpen N grown (j ∷ q) → bl' (slots (j ∷ q)) ≡ bl (slots (j ∷ q))) → ((k : ℕ) → slice_get longer k ≡ Some q → op' k ≡ op k) → Of of bl op q → Of of bl' op' q
    same_numbers of q bl op bl' op' f g x = record {
      blocked_by = λ j o. subst (BlockedBy N of q j) (sym (f j o)) (x.blocked_by j o);
      open_children = λ k m e h. subst (OpenChildren N of q) (sym (g k e)) (x.open_children k m e h);
    }

    from_old : (q : Address) → q ≢ p → (bl op bl' op' : ℕ → ℕ) → ((u : Address) → IsOpen N tree u → IsOpen N grown u → bl' (slots u) ≡ bl (slots u)) → ((k : ℕ) → k < length order → op' k ≡ op k)
        → AreNumbersOf N tree tree order slot bl op q → Of tree bl' op' q
    from_old q d bl op bl' op' fb fo x = record {
      blocked_by = λ j o. (let old = old_leaf j q d o in subst (BlockedBy N tree q j) (ap bl (sym (same_slot (j ∷ q) old)) ∙ sym (fb (j ∷ q) old o)) (x.blocked_by j old));
      open_children = λ k m e f. (let (lt, g) = place_old k q d e in subst (OpenChildren N tree q) (sym (fo k lt)) (x.open_children k m g (old_used q m d f)));
    }

    module _ (m : N.Method) (bl op bl' op' : ℕ → ℕ) (is : l ≡ used m) (some : 0 < count N m) (c : AreCounted N tree order slot bl op) (new : AreNumberedNew N a m (length order) bl op bl' op') where
      long : length (works_below N l) ≡ count N m
      long = ap (λ z. length (works_below N z)) is

      at_leaf : Of grown bl' op' p
      at_leaf = record {
        blocked_by = λ j o. new_blocked N tree grown p l n.grows law m j (bl' (slots (j ∷ p))) is (new.children j (slots (j ∷ p)) (child_slot j o));
        open_children = λ k m' e f. subst (OpenChildren N grown p) (sym (number k m' e f)) (new_children N tree grown p l n.grows m' (label_is m' f));
      }
        where
          child_slot : (j : ℕ) → IsOpen N grown (j ∷ p) → IsChildSlot N a j (slots (j ∷ p))
          child_slot j o =
              let lt : j < count N m = (let x = child_new N tree grown p l n.grows j (j ∷ p, below-itself (j ∷ p), o) in let y = long in omega arith) in
              (m, is, ap (λ z. slice_get z j) (n.children m is) ∙ (get_number (λ i. slots (i ∷ p)) (count N m) j (slots (j ∷ p))).1 (lt, refl))

          label_is : (m' : N.Method) → label_at N grown p ≡ Some (used m') → l ≡ used m'
          label_is m' f = let x = n.grows.now in cc

          number : (k : ℕ) (m' : N.Method) → slice_get longer k ≡ Some p → label_at N grown p ≡ Some (used m') → op' k ≡ count N m'
          number k m' e f =
              let g : m ≡ m' = (let x = label_is m' f in let y = is in cc) in
              ap op' (place_new k e) ∙ new.all_open ∙ ap (count N) g

      leaf_has_open : HasOpen N grown p
      leaf_has_open = let (u, x, o) = new_child N tree grown p l n.grows 0 (let y = long in omega arith) in (u, below_up 0 p u x, o)

      keep_with : (q : Address) (i : ℕ) → HasOpen N tree (i ∷ q) → HasOpen N grown (i ∷ q)
      keep_with q i h = elim (is_below (i ∷ q) p) [
        | yes x ↦ (leaf_has_open.0, below_below (i ∷ q) p leaf_has_open.0 x leaf_has_open.1, leaf_has_open.2)
        | no x ↦ off_the_way N tree grown p l n.grows (i ∷ q) x h
      ]

      no_child_slot : (u : Address) → IsOpen N tree u → IsOpen N grown u → (j : ℕ) → IsChildSlot N a j (slots u) → ⊥
      no_child_slot u o o' j (m', e, g) =
          let z = (get_number (λ i. slots (i ∷ p)) (count N m') j (slots u)).0 (subst (λ v. slice_get v j ≡ Some (slots u)) (n.children m' e) g) in
          let (w, h) = get_some (N.works m') j z.0 in
          let open_child : IsOpen N grown (j ∷ p) = (w, n.grows.children j ∙ ap (λ z. option_map waits (slice_get (works_below N z) j)) e ∙ ap (option_map waits) h) in
          let f = slots_once u (j ∷ p) o' open_child z.1 in
          let x = childless N tree grown p l n.grows j in
          let y = ap (label_at N tree) f in
          let v = o.1 in
          absurd cc

      with_children : AreCounted N grown longer slots bl' op'
      with_children = record {
        root = λ o. absurd (root_taken o);
        each = λ q. elim (is_same_address q p) [
          | yes e ↦ subst (Of grown bl' op') (sym e) at_leaf
          | no d ↦ stay q d (keep_with q) bl' op' (from_old q d bl op bl' op' (λ u o o'. new.others (slots u) (other_slot u o o') (no_child_slot u o o')) new.earlier (c.each q))
        ];
      }

    module _ (bl op bl' op' : ℕ → ℕ) (none : works_below N l ≡ []) (c : AreCounted N tree order slot bl op) (new : AreNumberedNone N a (length order) bl op bl' op') where
      leaf_whole : BecomesWhole N tree grown p
      leaf_whole = (leaf_is_whole N tree grown p l n.grows).1 none

      nothing_there : (i : ℕ) (q : Address) (m : N.Method) → IsAbove (i ∷ p) q → label_at N grown q ≡ Some (used m) → ⊥
      nothing_there i q m x f = go (at N grown (i ∷ p)) refl
        where
          here : label_at N grown (i ∷ p) ≡ None
          here = n.grows.children i ∙ ap (λ z. option_map waits (slice_get z i)) none

          go : (t : Option (Tree N)) → at N grown (i ∷ p) ≡ t → ⊥
          go None e = let y = ap (option_map (label N)) (none_below N grown (i ∷ p) q e x) in cc
          go (Some t) e = let y = ap (option_map (label N)) e in let z = here in cc

      below_leaf : (q : Address) → IsAbove p q → Of grown bl' op' q
      below_leaf q x = record {
        blocked_by = λ j o. absurd (leaf_whole.1 (j ∷ q, inr x, o));
        open_children = λ k m e f. elim (below_cases p q x) [ inl d ↦ at_p k m e f d | inr (i, y) ↦ absurd (nothing_there i q m y f) ];
      }
        where
          at_p : (k : ℕ) (m : N.Method) → slice_get longer k ≡ Some q → label_at N grown q ≡ Some (used m) → q ≡ p → OpenChildren N grown q (op' k)
          at_p k m e f d =
              let is : l ≡ used m = (let y = n.grows.now in let z = ap (label_at N grown) d in cc) in
              let long : count N m ≡ 0 = ap (λ z. length (works_below N z)) (sym is) ∙ ap length none in
              let number : op' k ≡ count N m = ap op' (place_new k (e ∙ ap Some d)) ∙ new.none_open ∙ sym long in
              subst (λ z. OpenChildren N grown z (op' k)) (sym d) (subst (OpenChildren N grown p) (sym number) (new_children N tree grown p l n.grows m is))

      walk_begins : IsWhole N tree grown longer slots bl' op' p
      walk_begins = record {
        whole = leaf_whole;
        below = below_leaf;
        others = λ q na. from_old q (λ e. na (subst (IsAbove p) (sym e) (below-itself p))) bl op bl' op' (λ u o o'. new.others (slots u) (other_slot u o o')) new.earlier (c.each q);
      }

    -- the numbers are those of the new tree, once they are so at a node that isn't whole, or at the root
    finish : (u : Address) → IsAbove u p → (u ≡ []) ⊎ HasOpen N grown u → (bl op : ℕ → ℕ) → ((q : Address) → IsAbove u q → Of grown bl op q) → ((q : Address) → (IsAbove u q → ⊥) → Of tree bl op q) → AreCounted N grown longer slots bl op
    finish u above h bl op below others = record {
      root = λ o. absurd (root_taken o);
      each = λ q. elim (is_below u q) [ yes x ↦ below q x | no na ↦ stay q (λ e. na (subst (IsAbove u) (sym e) above)) (keep q na) bl op (others q na) ];
    }
      where
        keep : (q : Address) → (IsAbove u q → ⊥) → (i : ℕ) → HasOpen N tree (i ∷ q) → HasOpen N grown (i ∷ q)
        keep q na i ho = elim (is_below (i ∷ q) p) [ no nb ↦ off_the_way N tree grown p l n.grows (i ∷ q) nb ho | yes x ↦ up (comparable u (i ∷ q) p above x) h ]
          where
            up : IsAbove u (i ∷ q) ⊎ IsAbove (i ∷ q) u → (u ≡ []) ⊎ HasOpen N grown u → HasOpen N grown (i ∷ q)
            up (inl (inl e)) (inl f) = absurd cc
            up (inl (inl e)) (inr g) = subst (HasOpen N grown) e g
            up (inl (inr x)) g = absurd (na x)
            up (inr x) (inl f) = absurd (let y : i ∷ q ≡ [] = subst (IsAbove (i ∷ q)) f x in cc)
            up (inr x) (inr (v, y, o)) = (v, below_below (i ∷ q) u v x y, o)

    module _ (q : Address) (i k : ℕ) (m : N.Method) (bl op : ℕ → ℕ) (w : IsWhole N tree grown longer slots bl op (i ∷ q)) (at_k : slice_get longer k ≡ Some q) (is_used : label_at N grown q ≡ Some (used m)) where
      above : IsAbove (i ∷ q) p
      above = on_the_way N tree grown p l n.grows (i ∷ q) w.whole

      apart : q ≢ p
      apart e = not-below_parent i p (subst (λ z. IsAbove (i ∷ z) p) e above)

      was_used : label_at N tree q ≡ Some (used m)
      was_used = old_used q m apart is_used

      before : (j : ℕ) → N.Pair m i j → IsOpenBefore N tree q j i
      before j d = (m, was_used, d, w.whole.0)

      open_before : (j : ℕ) → N.Pair m i j → IsOpen N tree (j ∷ q)
      open_before j d = who_waits_is_open N law tree order q i j s.front.grown s.front.schedule (before j d)

      open_after : (j : ℕ) → N.Pair m i j → IsOpen N grown (j ∷ q)
      open_after j d = still_open N tree grown p l n.grows (j ∷ q) (open_before j d) other
        where
          other : j ∷ q ≢ p
          other e =
              let f : i ≡ j = same_sibling i j q p above (subst (IsAbove (j ∷ q)) e (below-itself (j ∷ q))) in
              law.acyclic m i (direct (subst (N.Pair m i) (sym f) d))

      old : Of tree bl op q
      old = w.others q (not-below_parent i q)

      module _ (bl' op' : ℕ → ℕ) (lowered : AreLowered N m slots q i k bl op bl' op') where
        same_blocked : (q' : Address) → q' ≢ q → (j : ℕ) → IsOpen N grown (j ∷ q') → bl' (slots (j ∷ q')) ≡ bl (slots (j ∷ q'))
        same_blocked q' d j o = lowered.blocked_stays (slots (j ∷ q')) (λ j' e z. d (let f = slots_once (j ∷ q') (j' ∷ q) o (open_after j' e) z in let g : q' ≡ q = cc in g))

        same_open : (q' : Address) → q' ≢ q → (k' : ℕ) → slice_get longer k' ≡ Some q' → op' k' ≡ op k'
        same_open q' d k' e = lowered.open_stays k' (λ z. d (let f = ap (slice_get longer) z in let h = at_k in let g : q' ≡ q = cc in g))

        moved : (of : Tree N) (q' : Address) → q' ≢ q → Of of bl op q' → Of of bl' op' q'
        moved of q' d x = same_numbers of q' bl op bl' op' (same_blocked q' d) (same_open q' d) x

        at_parent : Of grown bl' op' q
        at_parent = record {
          blocked_by = λ j o. (let many = old.blocked_by j o in elim (is_in many.numbers i) [ yes x ↦ falls j o many x | no x ↦ stays j o many x ]);
          open_children = λ k' m' e f. (let z = one_place longer differ k' k q e at_k in subst (λ y. OpenChildren N grown q (op' y)) (sym z) open_falls);
        }
          where
            falls : (j : ℕ) (o : IsOpen N grown (j ∷ q)) (many : BlockedBy N tree q j (bl (slots (j ∷ q)))) → Contains many.numbers i → BlockedBy N grown q j (bl' (slots (j ∷ q)))
            falls j o many x =
                let (m', e, d, h) = (many.all i).0 x in
                let f : m' ≡ m = (let y = was_used in cc) in
                let old_one = old_leaf j q apart o in
                blocked_falls N tree grown p l n.grows q j i (bl' (slots (j ∷ q))) (waits old_one.0, old_one.1) (m', e, d, h) w.whole.1
                (subst (BlockedBy N tree q j) (lowered.blocked_falls j (subst (λ z. N.Pair z i j) f d)) many)

            stays : (j : ℕ) (o : IsOpen N grown (j ∷ q)) (many : BlockedBy N tree q j (bl (slots (j ∷ q)))) → (Contains many.numbers i → ⊥) → BlockedBy N grown q j (bl' (slots (j ∷ q)))
            stays j o many x =
                let old_one = old_leaf j q apart o in
                blocked_stays N tree grown p l n.grows q j (bl' (slots (j ∷ q))) (waits old_one.0, old_one.1) keep (subst (BlockedBy N tree q j) (sym same) many)
              where
                none : N.Pair m i j → ⊥
                none d = x ((many.all i).1 (before j d))

                same : bl' (slots (j ∷ q)) ≡ bl (slots (j ∷ q))
                same = lowered.blocked_stays (slots (j ∷ q)) (λ j' d z. (let f = slots_once (j ∷ q) (j' ∷ q) o (open_after j' d) z in let g : j' ≡ j = cc in none (subst (N.Pair m i) g d)))

                keep : (i' : ℕ) → IsOpenBefore N tree q j i' → HasOpen N grown (i' ∷ q)
                keep i' h = off_the_way N tree grown p l n.grows (i' ∷ q) (λ y. x ((many.all i).1 (subst (IsOpenBefore N tree q j) (same_sibling i' i q p y above) h))) h.3

            open_falls : OpenChildren N grown q (op' k)
            open_falls = children_fall N tree grown p l n.grows q i (op' k) (address_above tree (i ∷ q) w.whole.0) w.whole (subst (OpenChildren N tree q) lowered.open_falls (old.open_children k m at_k is_used))

        deeper : (k' : ℕ) (q' : Address) → IsAbove (k' ∷ q) q' → Of grown bl' op' q'
        deeper k' q' x = elim (ℕ_discrete k' i) [
          | yes e ↦ moved grown q' apart_q (w.below q' (subst (λ z. IsAbove (z ∷ q) q') e x))
          | no d ↦ moved grown q' apart_q (stay q' (off d) (keep d) bl op (w.others q' (λ y. d (same_sibling k' i q q' x y))))
        ]
          where
            apart_q : q' ≢ q
            apart_q e = not-below_parent k' q (subst (IsAbove (k' ∷ q)) e x)

            off : (k' ≢ i) → q' ≢ p
            off d e = d (same_sibling k' i q p (subst (IsAbove (k' ∷ q)) e x) above)

            keep : (k' ≢ i) → (i' : ℕ) → HasOpen N tree (i' ∷ q') → HasOpen N grown (i' ∷ q')
            keep d i' h = off_the_way N tree grown p l n.grows (i' ∷ q') (λ y. d (same_sibling k' i q p (below_below (k' ∷ q) q' p x (below_up i' q' p y)) above)) h

        told : IsToldTo N tree grown longer slots bl' op' q
        told = record {
          child = (i, w.whole);
          below = λ q' x. elim (below_cases q q' x) [ inl e ↦ subst (Of grown bl' op') (sym e) at_parent | inr (k', y) ↦ deeper k' q' y ];
          others = λ q' na. moved tree q' (λ e. na (subst (IsAbove q) (sym e) (below-itself q))) (w.others q' (λ y. na (below_up i q q' y)));
        }

      goes_on : WalkTells N b top acts a tree grown order longer slot slots q i k m bl op
      goes_on = record {
        waiting = λ j d. (let o = open_after j d in (o, (many_some (IsOpenBefore N tree q j) (bl (slots (j ∷ q))) (old.blocked_by j o)).0 (i, before j d)));
        parent = (many_some (λ z. HasOpen N tree (z ∷ q)) (op k) (old.open_children k m at_k is_used)).0 (i, w.whole.0);
        told = told;
      }

    decided : WalkIsDecided N b top acts a tree grown order longer slot slots
    decided q k m bl op t at_k is_used = record {
      whole = λ z. record { whole = ((u, below_up t.child.0 q u x, o), λ h. let y = tells.0 h in omega arith); below = t.below; others = t.others };
      counted = λ y. finish q (below_up t.child.0 q p (on_the_way N tree grown p l n.grows (t.child.0 ∷ q) t.child.1)) (inr (tells.1 y)) bl op t.below t.others;
    }
      where
        tells : HasOpen N grown q ↔ (1 ≤ op k)
        tells = number_tells_whole N grown q m (op k) is_used ((t.below q (below-itself q)).open_children k m at_k is_used)

        u : Address
        u = t.child.1.0.0

        x : IsAbove (t.child.0 ∷ q) u
        x = t.child.1.0.1

        o : IsOpen N tree u
        o = t.child.1.0.2

    ends_at_root : WalkEndsAtRoot N b top acts a tree grown order longer slot slots
    ends_at_root bl op w = finish [] (on_the_way N tree grown p l n.grows [] w.whole) (inl refl) bl op w.below w.others

  pub step_counts : IsLawful N → StepCounts N
  step_counts law b top acts a tree grown order longer slot slots s s' =
      let n = step_is_next N law b top acts a tree grown order longer slot slots s s' in record {
        with_children = with_children law b top acts a tree grown order longer slot slots s s' n;
        begins = λ p bl op bl' op' none e at_slot c new. subst (IsWhole N tree grown longer slots bl' op') (sym (leaf_once law b top acts a tree grown order longer slot slots s s' n p (work_in N a, e) at_slot))
            (walk_begins law b top acts a tree grown order longer slot slots s s' n bl op bl' op' none c new);
        goes_on = goes_on law b top acts a tree grown order longer slot slots s s' n;
        is_decided = decided law b top acts a tree grown order longer slot slots s s' n;
        ends_at_root = ends_at_root law b top acts a tree grown order longer slot slots s s' n;
      }
