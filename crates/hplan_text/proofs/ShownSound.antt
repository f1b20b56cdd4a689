-- The plan that a finished tree shows is sound: its ids are the numbers of the shown nodes, each listed at its parent.
use Rattle.std.proofs.Common.{ℕ, zero, suc, ◌≡◌, ◌+◌, ◌<◌, inl, inr, List, [], ◌∷◌, ◌++◌, length, map, true, false, Option, Some, None, slice_get, refl, ap, ap₂, sym, subst, ◌∙◌, Contains, arith}
use Rattle.std.proofs.lemmas.List.{length-append}
use Rattle.std.proofs.lemmas.List.Elements.{Contains-append_cases}
use Rattle.htn_base.specs.Different.{AreDifferent}
use Rattle.plan_model.specs.declared.values.Compiled.{Compiled}
use Rattle.plan_model.specs.task_networks.Net.{count}
use Rattle.plan_model.specs.task_networks.Tree.{Tree, split, Label, waits, ran, used, Address, at, label, label_at, IsAddress}
use Rattle.plan_model.specs.task_networks.Front.{IsFinished}
use Rattle.plan_model.specs.task_networks.Spelling.{numbers}
use Rattle.plan_model.specs.plan_meaning.Network.{action, check, task, GroundMethod, network}
use Rattle.plan_model.specs.plan_meaning.Solution.{top_work}
use Rattle.plan_model.proofs.task_networks.Different.{different_append}
use Rattle.plan_model.proofs.task_networks.Filters.{filter_to, to_filter, different-filter}
use Rattle.plan_model.proofs.task_networks.Lists.{not-in_empty, head_or_tail, Contains-here, Contains-later}
use Rattle.plan_model.proofs.task_networks.Nodes.{parent, grown_at}
use Rattle.plan_model.proofs.task_networks.Numbers.{numbers_to, to_numbers, different-numbers}
use Rattle.plan_texts.specs.Types.{Has}
use Rattle.plan_texts.proofs.Members.{contains-has, has-contains, has-to_map}
use Rattle.tree_core.proofs.Gets.{get_cases, get_within, get_some, at_place, one_place}
use Rattle.std.proofs.Common.{option_map}
use Rattle.hplan_text.specs.declared.values.HLine.{HLine}
use Rattle.hplan_text.specs.declared.values.HNode.{HNode}
use Rattle.hplan_text.specs.declared.values.HPlan.{HPlan}
use Rattle.hplan_text.specs.HPlanFaults.{Reaches, lists, leads}
use Rattle.hplan_text.specs.Printable.{line_id, node_id, task_ids, listed_by, all_ids, IsSoundHPlan}
use Rattle.hplan_text.specs.ShownPlan.{is_primitive, is_lower, is_shown, primitives_in, lower_in, numbered, AreIds, shown_children, ArePrimitives, IsNode, AreNodes, ShowsHPlan}
use Rattle.hplan_text.proofs.ShownOnce.{map_to, order_once, primitive_label, lower_label, numbered_once, has_number}
use Rattle.hplan_text.proofs.ShownChildren.{child_within}

to_map : {A B : Type 0} (f : A → B) (xs : List A) (x : A) → Contains xs x → Contains (map f xs) (f x)
to_map f xs x c = has-contains (map f xs) (f x) (has-to_map f xs x (contains-has xs x c))

different_map : {A B : Type 0} (f : A → B) (xs : List A) → ((x y : A) → f x ≡ f y → x ≡ y) → AreDifferent xs → AreDifferent (map f xs)
different_map f [] one d = tt
different_map f (x ∷ xs) one d = (λ c. (let (y, e, g) = map_to f xs (f x) c in d.0 (subst (Contains xs) (one y x g) e)), different_map f xs one d.1)

numbers_join : (i m n : ℕ) → numbers i m ++ numbers (i + m) n ≡ numbers i (m + n)
numbers_join i zero n = ap₂ numbers (let e : i + 0 ≡ i = omega arith in e) (let e : n ≡ 0 + n = omega arith in e)
numbers_join i (suc m) n =
    ap (λ ks. i ∷ ks) (ap (λ k. numbers (suc i) m ++ numbers k n) (let e : i + suc m ≡ suc i + m = omega arith in e) ∙ numbers_join (suc i) m n)
    ∙ ap (numbers i) (let e : suc (m + n) ≡ suc m + n = omega arith in e)

one_above : (i j : ℕ) (p q : Address) → i ∷ p ≡ j ∷ q → p ≡ q
one_above i j p q e = cc

module _ (c : Compiled) where
  primitive_shown : (o : Option (Label (network c))) → is_primitive c o ≡ true → is_shown c o ≡ true
  primitive_shown (Some (ran (action a args))) e = refl
  primitive_shown (Some (ran (check m values))) e = absurd cc
  primitive_shown (Some (ran (task t args))) e = refl
  primitive_shown (Some (waits w)) e = refl
  primitive_shown (Some (used g)) e = refl
  primitive_shown None e = refl

  module _ (tree : Tree (network c)) (order : List Address) (f : IsFinished (network c) (top_work c) tree order) where
    -- the ids of nodes

    id_at : (ps : List Address) (ns : List ℕ) → AreIds c tree order ps ns → (n : ℕ) → Has ns n → (p : Address) × Contains ps p × (slice_get (numbered c tree order) n ≡ Some p)
    id_at [] [] a n h = absurd h
    id_at [] (k ∷ ns) a n h = absurd a
    id_at (p ∷ ps) [] a n h = absurd a
    id_at (p ∷ ps) (k ∷ ns) (e, a) n (inl x) = (p, Contains-here p ps, subst (λ z. slice_get (numbered c tree order) z ≡ Some p) x e)
    id_at (p ∷ ps) (k ∷ ns) (e, a) n (inr h) = let (q, d, g) = id_at ps ns a n h in (q, Contains-later p ps q d, g)

    -- a node's number is among the ids of nodes that it is among
    number_has : (ps : List Address) (ns : List ℕ) → AreIds c tree order ps ns → (p : Address) → Contains ps p → (n : ℕ) → slice_get (numbered c tree order) n ≡ Some p → Has ns n
    number_has [] ns a p d n e = absurd (not-in_empty p d)
    number_has (q ∷ ps) [] a p d n e = absurd a
    number_has (q ∷ ps) (k ∷ ns) (g, a) p d n e = elim (head_or_tail q ps p d) [
      | inl x ↦ inl (one_place (numbered c tree order) (numbered_once c tree order f) k n p (g ∙ ap Some x) e)
      | inr h ↦ inr (number_has ps ns a p h n e)
    ]

    ids_join : (ps qs : List Address) (ns ms : List ℕ) → AreIds c tree order ps ns → AreIds c tree order qs ms → AreIds c tree order (ps ++ qs) (ns ++ ms)
    ids_join [] qs [] ms a b = b
    ids_join [] qs (n ∷ ns) ms a b = absurd a
    ids_join (p ∷ ps) qs [] ms a b = absurd a
    ids_join (p ∷ ps) qs (n ∷ ns) ms (e, a) b = (e, ids_join ps qs ns ms a b)

    different_ids : (ps : List Address) (ns : List ℕ) → AreIds c tree order ps ns → AreDifferent ps → AreDifferent ns
    different_ids [] [] a d = tt
    different_ids [] (n ∷ ns) a d = absurd a
    different_ids (p ∷ ps) [] a d = absurd a
    different_ids (p ∷ ps) (n ∷ ns) (e, a) (new, d) = (λ k. again (id_at ps ns a n (contains-has ns n k)), different_ids ps ns a d)
      where
        again : (q : Address) × Contains ps q × (slice_get (numbered c tree order) n ≡ Some q) → ⊥
        again (q, k, g) = new (subst (Contains ps) (let x : q ≡ p = cc in x) k)

    primitive_ids : (n : ℕ) (ps : List Address) (ls : List HLine) → ArePrimitives c tree order n ps ls → map line_id ls ≡ numbers n (length ps)
    primitive_ids n [] [] a = refl
    primitive_ids n [] (l ∷ ls) a = absurd a
    primitive_ids n (p ∷ ps) [] a = absurd a
    primitive_ids n (p ∷ ps) (l ∷ ls) ((w, is, e), a) = ap₂ (λ k ks. k ∷ ks) (ap line_id e) (primitive_ids (suc n) ps ls a)

    node_ids : (n : ℕ) (ps : List Address) (xs : List HNode) → AreNodes c tree order n ps xs → map node_id xs ≡ numbers n (length ps)
    node_ids n [] [] a = refl
    node_ids n [] (x ∷ xs) a = absurd a
    node_ids n (p ∷ ps) [] a = absurd a
    node_ids n (p ∷ ps) (x ∷ xs) (is, a) = ap₂ (λ k ks. k ∷ ks) (ap line_id is.line) (node_ids (suc n) ps xs a)

    node_of : (n : ℕ) (ps : List Address) (xs : List HNode) → AreNodes c tree order n ps xs → (k : ℕ) (p : Address) → slice_get ps k ≡ Some p → (x : HNode) × Has xs x × IsNode c tree order (n + k) p x
    node_of n [] xs a k p e = absurd cc
    node_of n (q ∷ ps) [] a k p e = absurd a
    node_of n (q ∷ ps) (x ∷ xs) (is, a) zero p e =
        (x, inl refl, subst (λ z. IsNode c tree order z p x) (let y : n ≡ n + 0 = omega arith in y) (subst (λ z. IsNode c tree order n z x) (let y : q ≡ p = cc in y) is))
    node_of n (q ∷ ps) (x ∷ xs) (is, a) (suc k) p e =
        let (y, h, i) = node_of (suc n) ps xs a k p e in (y, inr h, subst (λ z. IsNode c tree order z p y) (let z : suc n + k ≡ n + suc k = omega arith in z) i)

    -- the shown children of nodes

    abbrev kids_by : Address → Option (Label (network c)) → List Address
    kids_by p (Some (used g)) = shown_children c tree order p g
    kids_by p (Some (ran w)) = []
    kids_by p (Some (waits w)) = []
    kids_by p None = []

    abbrev kids : List Address → List Address
    kids [] = []
    kids (p ∷ ps) = kids_by p (label_at (network c) tree p) ++ kids ps

    kids_listed : (n : ℕ) (ps : List Address) (xs : List HNode) → AreNodes c tree order n ps xs → AreIds c tree order (kids ps) (listed_by xs)
    kids_listed n [] [] a = tt
    kids_listed n [] (x ∷ xs) a = absurd a
    kids_listed n (p ∷ ps) [] a = absurd a
    kids_listed n (p ∷ ps) (x ∷ xs) (is, a) = ids_join (kids_by p (label_at (network c) tree p)) (kids ps) x.ids (listed_by xs) (subst (λ o. AreIds c tree order (kids_by p o) x.ids) (sym is.is) is.ids) (kids_listed (suc n) ps xs a)

    abbrev IsKid : Address → Address → Type 0
    IsKid q p = (i : ℕ) × (i ∷ q ≡ p)

    kid_of : (q : Address) (o : Option (Label (network c))) (p : Address) → Contains (kids_by q o) p → IsKid q p
    kid_of q (Some (used g)) p d =
        let (i, k, e) = map_to (λ i. i ∷ q) (numbers 0 (count (network c) g)) p (filter_to (λ p. is_shown c (label_at (network c) tree p)) (map (λ i. i ∷ q) (numbers 0 (count (network c) g))) p d).0 in
        (i, e)
    kid_of q (Some (ran w)) p d = absurd (not-in_empty p d)
    kid_of q (Some (waits w)) p d = absurd (not-in_empty p d)
    kid_of q None p d = absurd (not-in_empty p d)

    kid_in : (qs : List Address) (p : Address) → Contains (kids qs) p → (q : Address) × Contains qs q × IsKid q p
    kid_in [] p d = absurd (not-in_empty p d)
    kid_in (q ∷ qs) p d = elim (Contains-append_cases (kids_by q (label_at (network c) tree q)) (kids qs) p d) [
      | inl h ↦ (q, Contains-here q qs, kid_of q (label_at (network c) tree q) p h)
      | inr h ↦ (let (u, k, e) = kid_in qs p h in (u, Contains-later q qs u k, e))
    ]

    different_by : (q : Address) (o : Option (Label (network c))) → AreDifferent (kids_by q o)
    different_by q (Some (used g)) = different-filter (λ p. is_shown c (label_at (network c) tree p)) (map (λ i. i ∷ q) (numbers 0 (count (network c) g)))
        (different_map (λ i. i ∷ q) (numbers 0 (count (network c) g)) (λ i j e. cc) (different-numbers 0 (count (network c) g)))
    different_by q (Some (ran w)) = tt
    different_by q (Some (waits w)) = tt
    different_by q None = tt

    different_kids : (qs : List Address) → AreDifferent qs → AreDifferent (kids qs)
    different_kids [] d = tt
    different_kids (q ∷ qs) (new, d) = different_append (kids_by q (label_at (network c) tree q)) (kids qs) (different_by q (label_at (network c) tree q)) (different_kids qs d) apart
      where
        apart : (p : Address) → Contains (kids_by q (label_at (network c) tree q)) p → Contains (kids qs) p → ⊥
        apart p a b =
            let (i, e) = kid_of q (label_at (network c) tree q) p a in
            let (u, k, (j, g)) = kid_in qs p b in
            new (subst (Contains qs) (one_above j i u q (g ∙ sym e)) k)

    -- a numbered node is shown, and isn't the root

    pub not_top : (g : GroundMethod) → label_at (network c) tree [] ≡ Some (used g) → (n : ℕ) → slice_get (numbered c tree order) n ≡ Some [] → ⊥
    not_top g is n e = elim (get_cases (primitives_in c tree order) (lower_in c tree order) n [] e) [
      | inl h ↦ (let (w, x) = primitive_label c (label_at (network c) tree []) (filter_to (λ p. is_primitive c (label_at (network c) tree p)) order [] (at_place (primitives_in c tree order) n [] h.1)).1 in cc)
      | inr h ↦ (let x : false ≡ true = (filter_to (λ p. is_lower c p (label_at (network c) tree p)) order [] (at_place (lower_in c tree order) h.0 [] h.2)).1 in cc)
    ]

    numbered_shown : (n : ℕ) (p : Address) → slice_get (numbered c tree order) n ≡ Some p → is_shown c (label_at (network c) tree p) ≡ true
    numbered_shown n p e = elim (get_cases (primitives_in c tree order) (lower_in c tree order) n p e) [
      | inl h ↦ primitive_shown (label_at (network c) tree p) (filter_to (λ p. is_primitive c (label_at (network c) tree p)) order p (at_place (primitives_in c tree order) n p h.1)).1
      | inr h ↦ (let (g, x) = lower_label c p (label_at (network c) tree p) (filter_to (λ p. is_lower c p (label_at (network c) tree p)) order p (at_place (lower_in c tree order) h.0 p h.2)).1 in ap (is_shown c) x)
    ]

    -- the parent of a node is decomposed, and lists it
    listed_above : (i : ℕ) (q : Address) → IsAddress (network c) tree (i ∷ q) → is_shown c (label_at (network c) tree (i ∷ q)) ≡ true
        → (g : GroundMethod) × (label_at (network c) tree q ≡ Some (used g)) × Contains (shown_children c tree order q g) (i ∷ q)
    listed_above i q (l, e) s = go (at (network c) tree (i ∷ q)) refl e
      where
        go : (o : Option (Tree (network c))) → at (network c) tree (i ∷ q) ≡ o → option_map (label (network c)) o ≡ Some l → (g : GroundMethod) × (label_at (network c) tree q ≡ Some (used g)) × Contains (shown_children c tree order q g) (i ∷ q)
        go None d h = absurd cc
        go (Some t) d h =
            let (g, ts, up, here) = parent (network c) tree i q t d in
            let ws = (grown_at (network c) tree q (split g ts) f.front.grown up).1 in
            let few : i < count (network c) g = subst (λ z. i < length z) ws (child_within c ts i t here) in (
              g,
              ap (option_map (label (network c))) up,
              to_filter (λ p. is_shown c (label_at (network c) tree p)) (map (λ i. i ∷ q) (numbers 0 (count (network c) g))) (i ∷ q)
                  (to_map (λ i. i ∷ q) (numbers 0 (count (network c) g)) i (to_numbers 0 (count (network c) g) i (omega arith) (omega arith))) s,
            )

    -- a decomposed node other than the root has the number of its place among these
    lower_place : (j : ℕ) (q : Address) (g : GroundMethod) → label_at (network c) tree (j ∷ q) ≡ Some (used g)
        → (k : ℕ) × (slice_get (lower_in c tree order) k ≡ Some (j ∷ q)) × (slice_get (numbered c tree order) (length (primitives_in c tree order) + k) ≡ Some (j ∷ q))
    lower_place j q g is = go (has_number c tree order f j q (used g, is) (ap (is_shown c) is))
      where
        go : (n : ℕ) × (slice_get (numbered c tree order) n ≡ Some (j ∷ q)) → (k : ℕ) × (slice_get (lower_in c tree order) k ≡ Some (j ∷ q)) × (slice_get (numbered c tree order) (length (primitives_in c tree order) + k) ≡ Some (j ∷ q))
        go (n, e) = elim (get_cases (primitives_in c tree order) (lower_in c tree order) n (j ∷ q) e) [
          | inl h ↦ absurd (let (w, x) = primitive_label c (label_at (network c) tree (j ∷ q)) (filter_to (λ p. is_primitive c (label_at (network c) tree p)) order (j ∷ q) (at_place (primitives_in c tree order) n (j ∷ q) h.1)).1 in cc)
          | inr (k, l, h) ↦ (k, h, subst (λ z. slice_get (numbered c tree order) z ≡ Some (j ∷ q)) l e)
        ]

    pub numbered_address : (n : ℕ) (p : Address) → slice_get (numbered c tree order) n ≡ Some p → IsAddress (network c) tree p
    numbered_address n p e = elim (get_cases (primitives_in c tree order) (lower_in c tree order) n p e) [
      | inl h ↦ (let (w, x) = primitive_label c (label_at (network c) tree p) (filter_to (λ p. is_primitive c (label_at (network c) tree p)) order p (at_place (primitives_in c tree order) n p h.1)).1 in (ran w, x))
      | inr h ↦ (let (g, x) = lower_label c p (label_at (network c) tree p) (filter_to (λ p. is_lower c p (label_at (network c) tree p)) order p (at_place (lower_in c tree order) h.0 p h.2)).1 in (used g, x))
    ]

    module _ (plan : HPlan) (s : ShowsHPlan c tree order plan) where
      abbrev Count : ℕ
      Count = length (numbered c tree order)

      ids_are : task_ids plan ≡ numbers 0 Count
      ids_are =
          ap₂ (λ a b. a ++ b) (primitive_ids 0 (primitives_in c tree order) plan.primitives s.primitives) (node_ids (length (primitives_in c tree order)) (lower_in c tree order) plan.nodes s.nodes)
          ∙ ap (λ k. numbers 0 (length (primitives_in c tree order)) ++ numbers k (length (lower_in c tree order))) (let e : length (primitives_in c tree order) ≡ 0 + length (primitives_in c tree order) = omega arith in e)
          ∙ numbers_join 0 (length (primitives_in c tree order)) (length (lower_in c tree order))
          ∙ ap (numbers 0) (sym (length-append (primitives_in c tree order) (lower_in c tree order)))

      abbrev listed_nodes : List Address
      listed_nodes = kids ([] ∷ lower_in c tree order)

      listed_are : AreIds c tree order listed_nodes (all_ids plan)
      listed_are = ids_join (kids_by [] (label_at (network c) tree [])) (kids (lower_in c tree order)) plan.root (listed_by plan.nodes)
          (subst (λ o. AreIds c tree order (kids_by [] o) plan.root) (sym s.at_root) s.root)
          (kids_listed (length (primitives_in c tree order)) (lower_in c tree order) plan.nodes s.nodes)

      parents_differ : AreDifferent ([] ∷ lower_in c tree order)
      parents_differ = (
        λ d. (let x : false ≡ true = (filter_to (λ p. is_lower c p (label_at (network c) tree p)) order [] d).1 in cc),
        different-filter (λ p. is_lower c p (label_at (network c) tree p)) order (order_once c tree order f),
      )

      is_known : (n : ℕ) → Has (all_ids plan) n → Has (task_ids plan) n
      is_known n h =
          let (p, d, e) = id_at listed_nodes (all_ids plan) listed_are n h in
          let l = get_within (numbered c tree order) n p e in
          subst (λ ks. Has ks n) (sym ids_are) (contains-has (numbers 0 Count) n (to_numbers 0 Count n (omega arith) (omega arith)))

      is_reached : (p : Address) (n : ℕ) → slice_get (numbered c tree order) n ≡ Some p → Reaches plan n
      is_reached [] n e = absurd (not_top s.top s.at_root n e)
      is_reached (i ∷ q) n e = go q (listed_above i q (numbered_address n (i ∷ q) e) (numbered_shown n (i ∷ q) e)) (is_reached q) e
        where
          go : (q : Address) → (g : GroundMethod) × (label_at (network c) tree q ≡ Some (used g)) × Contains (shown_children c tree order q g) (i ∷ q) → ((m : ℕ) → slice_get (numbered c tree order) m ≡ Some q → Reaches plan m) → slice_get (numbered c tree order) n ≡ Some (i ∷ q) → Reaches plan n
          go [] (g, is, d) above e =
              let same : g ≡ s.top = (let x = s.at_root in cc) in
              lists (number_has (shown_children c tree order [] s.top) plan.root s.root (i ∷ []) (subst (λ (g : GroundMethod). Contains (shown_children c tree order [] g) (i ∷ [])) same d) n e)
          go (j ∷ r) (g, is, d) above e =
              let (k, low, num) = lower_place j r g is in
              let (x, h, node) = node_of (length (primitives_in c tree order)) (lower_in c tree order) plan.nodes s.nodes k (j ∷ r) low in
              let same : g ≡ node.method = (let y = node.is in cc) in
              leads x h (subst (Reaches plan) (sym (ap line_id node.line)) (above (length (primitives_in c tree order) + k) num))
              (number_has (shown_children c tree order (j ∷ r) node.method) x.ids node.ids (i ∷ j ∷ r) (subst (λ (g : GroundMethod). Contains (shown_children c tree order (j ∷ r) g) (i ∷ j ∷ r)) same d) n e)

      all_reached : (n : ℕ) → Has (task_ids plan) n → Reaches plan n
      all_reached n h =
          let l = (numbers_to 0 Count n (has-contains (numbers 0 Count) n (subst (λ ks. Has ks n) ids_are h))).1 in
          let (p, e) = get_some (numbered c tree order) n (omega arith) in
          is_reached p n e

      pub shown_sound : IsSoundHPlan plan
      shown_sound = record {
        own = subst AreDifferent (sym ids_are) (different-numbers 0 Count);
        known = is_known;
        once = different_ids listed_nodes (all_ids plan) listed_are (different_kids ([] ∷ lower_in c tree order) parents_differ);
        reached = all_reached;
      }
