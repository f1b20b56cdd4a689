-- What a decoder keeps tells the front, and a step keeps it.
use Rattle.std.proofs.Common.{ℕ, zero, suc, ◌≡◌, ◌≢◌, ◌+◌, ◌<◌, ◌⊎◌, inl, inr, List, [], ◌∷◌, ◌++◌, length, Option, Some, None, option_map, slice_get, refl, ap, sym, subst, ◌∙◌, Contains, length-append, arith}
use Rattle.std.proofs.Math.Decide.{ℕ_discrete}
use Rattle.plan_model.specs.task_networks.Net.{Net, count}
use Rattle.plan_model.specs.task_networks.Lawful.{IsLawful}
use Rattle.plan_model.specs.task_networks.Tree.{Tree, Label, open_leaf, waits, ran, used, Address, label_at, IsOpen, IsProcessed}
use Rattle.plan_model.specs.task_networks.Spelling.{Act, run, apply, label_of, Spells}
use Rattle.slot_machine.specs.Machine.{with_heir}
use Rattle.slot_machine.specs.Reached.{HasLeaf}
use Rattle.slot_machine.proofs.FrontSteps.{waits_only, taken_apart, open_apart}
use Rattle.slot_machine.proofs.LabelTrees.{leaf_only}
use Rattle.slot_machine.proofs.OtherChildren.{get_number}
use Rattle.slot_machine.proofs.SpellingSteps.{open_slots_apart}
use Rattle.tree_core.specs.Growths.{Growth, IsUnder, AreGrowths}
use Rattle.tree_core.proofs.Gets.{get_left, get_right, get_within, get_some}
use Rattle.tree_core.proofs.GrowthLaws.{one_more}
use Rattle.decoding.specs.FailingAct.{slot_in, new_in, work_in}
use Rattle.decoding.specs.Waiting.{works_below}
use Rattle.decoding.specs.WaitingLaws.{IsNextStep}
use Rattle.decoding.proofs.NextSteps.{step_is_next}
use Rattle.decoding.proofs.Numbers.{childless, was_open}
use Rattle.decoding.specs.HeldLeaves.{Leaf, IsLeafAt, Fits, growth_of, IsChildSlot, AreHeldAfter}
use Rattle.decoding.specs.HeldLaws.{FitsAtFirst, FittingTells, StepFits}

module _ (N : Net) where
  pub fits_at_first : FitsAtFirst N
  fits_at_first top held slot r h n = record {
    growths_are = record { many = refl; under = λ k g p e f. absurd cc; labels = λ k g p e f. absurd cc };
    held_are = held_at;
    all = λ p o. (let x = (leaf_only N top (waits o.0) p o.1).0 in (record { parent = None; child = 0; work = top }, ap held (ap slot x ∙ r) ∙ h));
  }
    where
      held_at : (x : ℕ) (leaf : Leaf N) → held x ≡ Some leaf → IsLeafAt N (open_leaf top) [] slot x leaf
      held_at x leaf e = elim (ℕ_discrete x 1) [
        | no d ↦ absurd (let z = n x d in cc)
        | yes d ↦ (
            let z : record { parent = None; child = 0; work = top } ≡ leaf = (let y : held 1 ≡ Some leaf = subst (λ v. held v ≡ Some leaf) d e in cc) in
            subst (IsLeafAt N (open_leaf top) [] slot x) z ([], refl, r ∙ sym d, refl))
      ]

  module _ (law : IsLawful N) where
    pub fitting_tells : FittingTells N
    fitting_tells b top acts tree order slot growths held s f = record { holds = λ x w. (to x w, from x w); is_held = λ x. (λ h. (let (leaf, e) = f.all h.0 h.1 in (leaf, ap held (sym h.2) ∙ e)), λ h. (let (p, e, at, u) = f.held_are x h.0 h.1 in (p, (h.0.work, e), at))) }
      where
        to : (x : ℕ) (w : N.Work) → HasLeaf N tree slot x w → (leaf : Leaf N) × (held x ≡ Some leaf) × (leaf.work ≡ w)
        to x w (p, e, at) =
            let (leaf, h) = f.all p (w, e) in
            let (q, d, i, u) = f.held_are (slot p) leaf h in
            let z : q ≡ p = open_slots_apart N b top acts tree order slot s q p (leaf.work, d) (w, e) i in
            (leaf, ap held (sym at) ∙ h, (let y = ap (label_at N tree) z in cc))

        from : (x : ℕ) (w : N.Work) → (leaf : Leaf N) × (held x ≡ Some leaf) × (leaf.work ≡ w) → HasLeaf N tree slot x w
        from x w (leaf, h, e) = let (p, d, i, u) = f.held_are x leaf h in (p, d ∙ ap (λ z. Some (waits z)) e, i)

    -- a child's slot, or none
    child_slot : (a : Act N) (x : ℕ) → ((i : ℕ) × IsChildSlot N a i x) ⊎ ((i : ℕ) → IsChildSlot N a i x → ⊥)
    child_slot (run h w) x = inr (λ i c. (let e = c.1 in cc))
    child_slot (apply h new m) x = elim (search (with_heir (N.heir m) h new)) [ yes k ↦ inl (k.0, (m, refl, k.1)) | no n ↦ inr (λ i c. n (i, subst (λ z. slice_get (with_heir (N.heir z) h new) i ≡ Some x) (let e = c.1 in let g : c.0 ≡ m = cc in g) c.2)) ]
      where
        search : (xs : List ℕ) → Dec ((i : ℕ) × (slice_get xs i ≡ Some x))
        search [] = no (λ k. let e = k.1 in cc)
        search (y ∷ xs) = go (ℕ_discrete y x) (search xs)
          where
            go : Dec (y ≡ x) → Dec ((i : ℕ) × (slice_get xs i ≡ Some x)) → Dec ((i : ℕ) × (slice_get (y ∷ xs) i ≡ Some x))
            go (yes e) d = yes (0, ap Some e)
            go (no n) (yes k) = yes (suc k.0, k.1)
            go (no n) (no k) = no (λ h. cases h.0 h.1)
              where
                cases : (i : ℕ) → slice_get (y ∷ xs) i ≡ Some x → ⊥
                cases zero e = n cc
                cases (suc i) e = k (i, e)

    longer : (order : List Address) (p : Address) (o : Option ℕ) (i : ℕ) (q : Address) → IsUnder N order (length order) o i q → IsUnder N (order ++ p ∷ []) (length (order ++ p ∷ [])) o i q
    longer order p None i q x = x
    longer order p (Some y) i q (l, (v, e, f)) = (let z = length-append order (p ∷ []) in omega arith, (v, get_left order (p ∷ []) y v e, f))

    module _ (b : ℕ) (top : N.Work) (acts : List (Act N)) (a : Act N) (tree grown : Tree N) (order longer_order : List Address) (slot slots : Address → ℕ) (growths : List (Growth N)) (held held' : ℕ → Option (Leaf N)) (leaf : Leaf N)
        (s : Spells N b top acts tree order slot) (s' : Spells N b top (acts ++ a ∷ []) grown longer_order slots) (f : Fits N growths held tree order slot) (h : held (slot_in N a) ≡ Some leaf) (after : AreHeldAfter N held held' a (length growths))
        (n : IsNextStep N a tree grown order longer_order slot slots) where
      y : Address
      y = n.leaf

      -- the leaf that is kept at the act's slot is the one that grows
      here : IsUnder N order (length order) leaf.parent leaf.child n.leaf
      here =
          let (p, e, i, u) = f.held_are (slot_in N a) leaf h in
          let z : p ≡ n.leaf = open_slots_apart N b top acts tree order slot s p n.leaf (leaf.work, e) (work_in N a, n.is) (i ∙ sym n.at_slot) in
          subst (IsUnder N order (length order) leaf.parent leaf.child) z u

      no_child : (q : Address) (l : Label N) → label_at N tree q ≡ Some l → (i : ℕ) → q ≢ i ∷ n.leaf
      no_child q l e i x = let z = childless N tree grown n.leaf (label_of N a) n.grows i in let w = ap (label_at N tree) x in cc

      same_label : (q : Address) (l : Label N) → label_at N tree q ≡ Some l → q ≢ n.leaf → label_at N grown q ≡ Some l
      same_label q l e d = n.grows.others q d (no_child q l e) ∙ e

      grown_order : AreGrowths N (growths ++ growth_of N leaf a ∷ []) grown longer_order
      grown_order = subst (AreGrowths N (growths ++ growth_of N leaf a ∷ []) grown) (sym n.ordered) (one_more N growths tree grown order f.growths_are same (growth_of N leaf a) n.leaf here n.grows.now)
        where
          same : (q : Address) → Contains order q → label_at N grown q ≡ label_at N tree q
          same q c =
              let (l, e, t) = (s.front.schedule.covers q).0 c in
              same_label q l e (λ x. open_apart N tree n.leaf (work_in N a, n.is) (subst (IsProcessed N tree) x (l, e, t))) ∙ sym e

      -- the children's slots
      slot_of_child : (i x : ℕ) → IsChildSlot N a i x → (m : N.Method) × (label_of N a ≡ used m) × (i < count N m) × (x ≡ slots (i ∷ n.leaf))
      slot_of_child i x (m, e, g) =
          let z = (get_number (λ i. slots (i ∷ n.leaf)) (count N m) i x).0 (subst (λ v. slice_get v i ≡ Some x) (n.children m e) g) in
          (m, e, z.0, z.1)

      child_leaf : (i x : ℕ) → IsChildSlot N a i x → (leaf' : Leaf N) × (held' x ≡ Some leaf') × IsLeafAt N grown longer_order slots x leaf'
      child_leaf i x c =
          let (m, e, l, at) = slot_of_child i x c in
          let (w, k) = get_some (N.works m) i l in (
            record { parent = Some (length growths); child = i; work = w },
            after.children i x m w e (subst (λ z. slice_get (with_heir (N.heir z) (slot_in N a) (new_in N a)) i ≡ Some x) (let u = c.1 in let v : c.0 ≡ m = cc in v) c.2) k,
            (i ∷ n.leaf, n.grows.children i ∙ ap (λ z. option_map waits (slice_get (works_below N z) i)) e ∙ ap (option_map waits) k, sym at, under),
          )
        where
          under : IsUnder N longer_order (length longer_order) (Some (length growths)) i (i ∷ n.leaf)
          under =
              let z = ap length n.ordered in
              let v = length-append order (n.leaf ∷ []) in
              let m = f.growths_are.many in
              (omega arith, (n.leaf, ap (λ o. slice_get o (length growths)) n.ordered ∙ ap (slice_get (order ++ n.leaf ∷ [])) (let w : length growths ≡ length order + 0 = omega arith in w) ∙ get_right order (n.leaf ∷ []) 0, refl))

      held_after : (x : ℕ) (leaf' : Leaf N) → held' x ≡ Some leaf' → IsLeafAt N grown longer_order slots x leaf'
      held_after x leaf' e = go (child_slot a x) (ℕ_discrete x (slot_in N a))
        where
          old : x ≢ slot_in N a → ((i : ℕ) → IsChildSlot N a i x → ⊥) → IsLeafAt N grown longer_order slots x leaf'
          old d c =
              let (p, l, at, u) = f.held_are x leaf' (sym (after.others x d c) ∙ e) in
              (p, same_label p (waits leaf'.work) l (λ z. d (sym at ∙ ap slot z ∙ n.at_slot)), n.same p (waits leaf'.work, l) ∙ at, subst (λ o. IsUnder N o (length o) leaf'.parent leaf'.child p) (sym n.ordered) (longer order n.leaf leaf'.parent leaf'.child p u))

          go : ((i : ℕ) × IsChildSlot N a i x) ⊎ ((i : ℕ) → IsChildSlot N a i x → ⊥) → Dec (x ≡ slot_in N a) → IsLeafAt N grown longer_order slots x leaf'
          go (inl (i, c)) d = let (k, g, is) = child_leaf i x c in subst (IsLeafAt N grown longer_order slots x) (let z : k ≡ leaf' = cc in z) is
          go (inr c) (yes d) = absurd (let z = after.freed x d c in cc)
          go (inr c) (no d) = old d c

      all_after : (p : Address) → IsOpen N grown p → (leaf' : Leaf N) × (held' (slots p) ≡ Some leaf')
      all_after p o = elim (was_open N tree grown n.leaf (label_of N a) n.grows p o) [ inl q ↦ old q | inr (i, e) ↦ new i e ]
        where
          apart : p ≢ n.leaf
          apart e = taken_apart N (label_of N a) o.0 (let x = n.grows.now in let z = ap (label_at N grown) e in let w = o.1 in cc) n.grows.taken

          same_slot : IsOpen N tree p → slots p ≡ slot p
          same_slot q = n.same p (waits q.0, q.1)

          old : IsOpen N tree p → (leaf' : Leaf N) × (held' (slots p) ≡ Some leaf')
          old q = let (leaf', k) = f.all p q in (leaf', after.others (slots p) other none ∙ ap held (same_slot q) ∙ k)
            where
              other : slots p ≢ slot_in N a
              other e = apart (open_slots_apart N b top acts tree order slot s p n.leaf q (work_in N a, n.is) (sym (same_slot q) ∙ e ∙ sym n.at_slot))

              none : (i : ℕ) → IsChildSlot N a i (slots p) → ⊥
              none i c =
                  let (k, g, (r, l, at, u)) = child_leaf i (slots p) c in
                  let (m, e, lt, z) = slot_of_child i (slots p) c in
                  let (w, j) = get_some (N.works m) i lt in
                  let open_child : IsOpen N grown (i ∷ n.leaf) = (w, n.grows.children i ∙ ap (λ z. option_map waits (slice_get (works_below N z) i)) e ∙ ap (option_map waits) j) in
                  no_child p (waits q.0) q.1 i (open_slots_apart N b top (acts ++ a ∷ []) grown longer_order slots s' p (i ∷ n.leaf) o open_child z)

          new : (i : ℕ) → p ≡ i ∷ n.leaf → (leaf' : Leaf N) × (held' (slots p) ≡ Some leaf')
          new i e = let (m, g, l) = method (label_of N a) refl in let (k, x, is) = child_leaf i (slots p) (m, g, in_list m g l) in (k, x)
            where
              work : (v : N.Work) × (slice_get (works_below N (label_of N a)) i ≡ Some v)
              work = let z = waits_only N (slice_get (works_below N (label_of N a)) i) (waits o.0) (sym (n.grows.children i) ∙ subst (λ z. label_at N grown z ≡ Some (waits o.0)) e o.1) in (z.0, z.2)

              method : (l : Label N) → label_of N a ≡ l → (m : N.Method) × (label_of N a ≡ used m) × (i < count N m)
              method (waits w) g = absurd (let x : slice_get (works_below N (waits w)) i ≡ Some work.0 = subst (λ z. slice_get (works_below N z) i ≡ Some work.0) g work.1 in cc)
              method (ran w) g = absurd (let x : slice_get (works_below N (ran w)) i ≡ Some work.0 = subst (λ z. slice_get (works_below N z) i ≡ Some work.0) g work.1 in cc)
              method (used m) g = (m, g, get_within (N.works m) i work.0 (subst (λ z. slice_get (works_below N z) i ≡ Some work.0) g work.1))

              in_list : (m : N.Method) → label_of N a ≡ used m → i < count N m → slice_get (with_heir (N.heir m) (slot_in N a) (new_in N a)) i ≡ Some (slots p)
              in_list m g l = subst (λ z. slice_get z i ≡ Some (slots p)) (sym (n.children m g)) ((get_number (λ i. slots (i ∷ n.leaf)) (count N m) i (slots p)).1 (l, ap slots e))

      fits : Fits N (growths ++ growth_of N leaf a ∷ []) held' grown longer_order slots
      fits = record { growths_are = grown_order; held_are = held_after; all = all_after }

    pub step_fits : StepFits N
    step_fits b top acts a tree grown order longer_order slot slots growths held held' leaf s s' f h after =
        fits b top acts a tree grown order longer_order slot slots growths held held' leaf s s' f h after (step_is_next N law b top acts a tree grown order longer_order slot slots s s')
