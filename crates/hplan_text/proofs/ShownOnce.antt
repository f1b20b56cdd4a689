-- A finished tree shows exactly one plan.
use Rattle.std.proofs.Common.{ℕ, suc, ◌≡◌, ◌<◌, inl, inr, List, [], ◌∷◌, length, map, true, Option, Some, None, slice_get, refl, ap, sym, subst, ◌∙◌, Contains, append-nil, arith}
use Rattle.std.proofs.lemmas.List.Elements.{Contains-append_left, Contains-append_right}
use Rattle.plan_model.specs.declared.values.Compiled.{Compiled}
use Rattle.plan_model.specs.task_networks.Net.{count}
use Rattle.plan_model.specs.task_networks.Tree.{Tree, Label, waits, ran, used, done, Address, label_at, IsAddress, IsTaken, IsGrown, open_leaf, split, label, work_of}
use Rattle.plan_model.specs.task_networks.Front.{IsFinished}
use Rattle.plan_model.specs.task_networks.Spelling.{numbers}
use Rattle.plan_model.specs.plan_meaning.Network.{Work, action, check, task, GroundMethod, network, IsPrimitive}
use Rattle.plan_model.specs.plan_meaning.Solution.{top_work}
use Rattle.htn_base.specs.Different.{AreDifferent}
use Rattle.plan_model.proofs.task_networks.Different.{different_append}
use Rattle.plan_model.proofs.task_networks.Filters.{filter_to, to_filter, different-filter}
use Rattle.plan_model.proofs.task_networks.Lists.{not-in_empty, head_or_tail, Contains-here, Contains-later}
use Rattle.plan_model.proofs.task_networks.Numbers.{numbers_to}
use Rattle.hplan_text.specs.declared.values.HLine.{HLine}
use Rattle.hplan_text.specs.declared.values.HNode.{HNode}
use Rattle.hplan_text.specs.declared.values.HPlan.{HPlan}
use Rattle.hplan_text.specs.ShownPlan.{line_of, method_name_by, is_primitive, is_decomposed, is_lower, is_shown, primitives_in, lower_in, numbered, AreIds, shown_children, ArePrimitives, IsNode, AreNodes, ShowsHPlan}
use Rattle.hplan_text.specs.ShownLaws.{IsShownOnce, EachIsShownOnce}
use Rattle.std.proofs.Common.{option_map}
use Rattle.plan_model.specs.task_networks.Tree.{Trees, at}
use Rattle.plan_model.proofs.task_networks.Nodes.{grown_at, child_in, child_below}
use Rattle.tree_core.proofs.Gets.{place_of, one_place}
use Rattle.tree_core.proofs.GrowthLaws.{once}

pub map_to : {A B : Type 0} (f : A → B) (xs : List A) (y : B) → Contains (map f xs) y → (x : A) × Contains xs x × (f x ≡ y)
map_to f [] y c = absurd (not-in_empty y c)
map_to f (x ∷ xs) y c = elim (head_or_tail (f x) (map f xs) y c) [ inl e ↦ (x, Contains-here x xs, e) | inr d ↦ (let h = map_to f xs y d in (h.0, Contains-later x xs h.0 h.1, h.2)) ]

same_nodes : (x y : HNode) → x.line ≡ y.line → x.method ≡ y.method → x.ids ≡ y.ids → x ≡ y
same_nodes x y e f g = λ i. record { line = e i; method = f i; ids = g i }

same_plans : (x y : HPlan) → x.primitives ≡ y.primitives → x.root ≡ y.root → x.nodes ≡ y.nodes → x ≡ y
same_plans x y e f g = λ i. record { primitives = e i; root = f i; nodes = g i }

module _ (c : Compiled) where
  pub primitive_label : (o : Option (Label (network c))) → is_primitive c o ≡ true → (w : Work) × (o ≡ Some (ran w))
  primitive_label (Some (ran w)) e = (w, refl)
  primitive_label (Some (waits w)) e = absurd cc
  primitive_label (Some (used g)) e = absurd cc
  primitive_label None e = absurd cc

  pub lower_label : (p : Address) (o : Option (Label (network c))) → is_lower c p o ≡ true → (g : GroundMethod) × (o ≡ Some (used g))
  lower_label [] o e = absurd cc
  lower_label (i ∷ q) (Some (used g)) e = (g, refl)
  lower_label (i ∷ q) (Some (ran w)) e = absurd cc
  lower_label (i ∷ q) (Some (waits w)) e = absurd cc
  lower_label (i ∷ q) None e = absurd cc

  module _ (tree : Tree (network c)) (order : List Address) (f : IsFinished (network c) (top_work c) tree order) where
    pub order_once : AreDifferent order
    order_once = once (network c) tree order f.front.schedule order [] (sym (append-nil order))

    pub numbered_once : AreDifferent (numbered c tree order)
    numbered_once = different_append (primitives_in c tree order) (lower_in c tree order)
        (different-filter (λ p. is_primitive c (label_at (network c) tree p)) order order_once)
        (different-filter (λ p. is_lower c p (label_at (network c) tree p)) order order_once)
        (λ p x y. (
        let a = primitive_label (label_at (network c) tree p) (filter_to (λ p. is_primitive c (label_at (network c) tree p)) order p x).1 in
        let d = lower_label p (label_at (network c) tree p) (filter_to (λ p. is_lower c p (label_at (network c) tree p)) order p y).1 in
        let z = a.1 in
        let w = d.1 in
        cc
        ))

    -- a decomposed node's children are nodes
    pub split_at : (q : Address) (g : GroundMethod) → label_at (network c) tree q ≡ Some (used g) → (ts : Trees (network c)) × (at (network c) tree q ≡ Some (split g ts))
    split_at q g e = go (at (network c) tree q) refl e
      where
        go : (o : Option (Tree (network c))) → at (network c) tree q ≡ o → option_map (label (network c)) o ≡ Some (used g) → (ts : Trees (network c)) × (at (network c) tree q ≡ Some (split g ts))
        go None a e = absurd cc
        go (Some (open_leaf w)) a e = absurd cc
        go (Some (done w)) a e = absurd cc
        go (Some (split h ts)) a e = (ts, a ∙ ap (λ z. Some (split z ts)) (let x : h ≡ g = cc in x))

    pub done_at : (q : Address) (w : Work) → label_at (network c) tree q ≡ Some (ran w) → at (network c) tree q ≡ Some (done w)
    done_at q w e = go (at (network c) tree q) refl e
      where
        go : (o : Option (Tree (network c))) → at (network c) tree q ≡ o → option_map (label (network c)) o ≡ Some (ran w) → at (network c) tree q ≡ Some (done w)
        go None a e = absurd cc
        go (Some (open_leaf v)) a e = absurd cc
        go (Some (done v)) a e = a ∙ ap (λ z. Some (done z)) (let x : v ≡ w = cc in x)
        go (Some (split h ts)) a e = absurd cc

    pub child_address : (q : Address) (g : GroundMethod) (i : ℕ) → label_at (network c) tree q ≡ Some (used g) → i < count (network c) g → IsAddress (network c) tree (i ∷ q)
    child_address q g i e l =
        let (ts, a) = split_at q g e in
        let ws = (grown_at (network c) tree q (split g ts) f.front.grown a).1 in
        let x = child_in (network c) ts i (subst (λ z. i < length z) (sym ws) l) in
        (label (network c) x.0, ap (option_map (label (network c))) (child_below (network c) tree i q g ts a ∙ x.1))

    abbrev pub Numbered : Address → Type 0
    Numbered p = (n : ℕ) × (slice_get (numbered c tree order) n ≡ Some p)

    -- a shown node other than the root has a number
    pub has_number : (i : ℕ) (q : Address) → IsAddress (network c) tree (i ∷ q) → is_shown c (label_at (network c) tree (i ∷ q)) ≡ true → Numbered (i ∷ q)
    has_number i q (l, e) s = go l e
      where
        listed : (l : Label (network c)) → label_at (network c) tree (i ∷ q) ≡ Some l → IsTaken (network c) l → Contains order (i ∷ q)
        listed l e t = (f.front.schedule.covers (i ∷ q)).1 (l, e, t)

        go : (l : Label (network c)) → label_at (network c) tree (i ∷ q) ≡ Some l → Numbered (i ∷ q)
        go (waits w) e = absurd (f.no_leaves (i ∷ q) (w, e))
        go (ran (action a args)) e = place_of (numbered c tree order) (i ∷ q) (Contains-append_left (primitives_in c tree order) (lower_in c tree order) (i ∷ q)
            (to_filter (λ p. is_primitive c (label_at (network c) tree p)) order (i ∷ q) (listed (ran (action a args)) e tt) (ap (is_primitive c) e)))
        go (ran (check m values)) e = absurd (let x = ap (is_shown c) e in cc)
        go (ran (task t args)) e = absurd (grown_at (network c) tree (i ∷ q) (done (task t args)) f.front.grown (done_at (i ∷ q) (task t args) e))
        go (used g) e = place_of (numbered c tree order) (i ∷ q) (Contains-append_right (primitives_in c tree order) (lower_in c tree order) (i ∷ q)
            (to_filter (λ p. is_lower c p (label_at (network c) tree p)) order (i ∷ q) (listed (used g) e tt) (ap (is_decomposed c) e)))

    ids_of : (ps : List Address) → ((p : Address) → Contains ps p → Numbered p) → (ns : List ℕ) × AreIds c tree order ps ns
    ids_of [] h = ([], tt)
    ids_of (p ∷ ps) h = let (n, e) = h p (Contains-here p ps) in let (ns, r) = ids_of ps (λ q d. h q (Contains-later p ps q d)) in (n ∷ ns, (e, r))

    one_ids : (ps : List Address) (ns ms : List ℕ) → AreIds c tree order ps ns → AreIds c tree order ps ms → ns ≡ ms
    one_ids [] [] [] a d = refl
    one_ids [] [] (m ∷ ms) a d = absurd d
    one_ids [] (n ∷ ns) ms a d = absurd a
    one_ids (p ∷ ps) [] ms a d = absurd a
    one_ids (p ∷ ps) (n ∷ ns) [] a d = absurd d
    one_ids (p ∷ ps) (n ∷ ns) (m ∷ ms) a d = let e = one_place (numbered c tree order) numbered_once n m p a.0 d.0 in let r = one_ids ps ns ms a.1 d.1 in λ i. e i ∷ r i

    children_numbered : (q : Address) (g : GroundMethod) → label_at (network c) tree q ≡ Some (used g) → (p : Address) → Contains (shown_children c tree order q g) p → Numbered p
    children_numbered q g e p d =
        let h = filter_to (λ p. is_shown c (label_at (network c) tree p)) (map (λ i. i ∷ q) (numbers 0 (count (network c) g))) p d in
        let (i, k, r) = map_to (λ i. i ∷ q) (numbers 0 (count (network c) g)) p h.0 in
        let l = (numbers_to 0 (count (network c) g) i k).1 in
        subst Numbered r (has_number i q (child_address q g i e (omega arith)) (subst (λ z. is_shown c (label_at (network c) tree z) ≡ true) (sym r) h.1))

    primitives_of : (n : ℕ) (ps : List Address) → ((p : Address) → Contains ps p → is_primitive c (label_at (network c) tree p) ≡ true) → (ls : List HLine) × ArePrimitives c tree order n ps ls
    primitives_of n [] h = ([], tt)
    primitives_of n (p ∷ ps) h =
        let (w, e) = primitive_label (label_at (network c) tree p) (h p (Contains-here p ps)) in
        let (ls, r) = primitives_of (suc n) ps (λ q d. h q (Contains-later p ps q d)) in
        (line_of c w n ∷ ls, ((w, e, refl), r))

    one_primitives : (n : ℕ) (ps : List Address) (ls ms : List HLine) → ArePrimitives c tree order n ps ls → ArePrimitives c tree order n ps ms → ls ≡ ms
    one_primitives n [] [] [] a d = refl
    one_primitives n [] [] (m ∷ ms) a d = absurd d
    one_primitives n [] (l ∷ ls) ms a d = absurd a
    one_primitives n (p ∷ ps) [] ms a d = absurd a
    one_primitives n (p ∷ ps) (l ∷ ls) [] a d = absurd d
    one_primitives n (p ∷ ps) (l ∷ ls) (m ∷ ms) ((w, e, x), a) ((v, g, y), d) =
        let z : w ≡ v = cc in
        let s : l ≡ m = x ∙ ap (λ u. line_of c u n) z ∙ sym y in
        let r = one_primitives (suc n) ps ls ms a d in
        λ i. s i ∷ r i

    nodes_of : (n : ℕ) (ps : List Address) → ((p : Address) → Contains ps p → is_lower c p (label_at (network c) tree p) ≡ true) → (xs : List HNode) × AreNodes c tree order n ps xs
    nodes_of n [] h = ([], tt)
    nodes_of n (p ∷ ps) h =
        let (g, e) = lower_label p (label_at (network c) tree p) (h p (Contains-here p ps)) in
        let (ns, a) = ids_of (shown_children c tree order p g) (children_numbered p g e) in
        let (xs, r) = nodes_of (suc n) ps (λ q d. h q (Contains-later p ps q d)) in
        (record { line = line_of c ((network c).head g) n; method = method_name_by c (slice_get c.methods g.number); ids = ns } ∷ xs, (record { method = g; is = e; line = refl; name = refl; ids = a }, r))

    one_node : (n : ℕ) (p : Address) (x y : HNode) → IsNode c tree order n p x → IsNode c tree order n p y → x ≡ y
    one_node n p x y a d =
        let e : a.method ≡ d.method = (let u = a.is in let v = d.is in cc) in
        same_nodes x y
        (a.line ∙ ap (λ (g : GroundMethod). line_of c ((network c).head g) n) e ∙ sym d.line)
        (a.name ∙ ap (λ (g : GroundMethod). method_name_by c (slice_get c.methods g.number)) e ∙ sym d.name)
        (one_ids (shown_children c tree order p d.method) x.ids y.ids (subst (λ (g : GroundMethod). AreIds c tree order (shown_children c tree order p g) x.ids) e a.ids) d.ids)

    one_nodes : (n : ℕ) (ps : List Address) (xs ys : List HNode) → AreNodes c tree order n ps xs → AreNodes c tree order n ps ys → xs ≡ ys
    one_nodes n [] [] [] a d = refl
    one_nodes n [] [] (y ∷ ys) a d = absurd d
    one_nodes n [] (x ∷ xs) ys a d = absurd a
    one_nodes n (p ∷ ps) [] ys a d = absurd a
    one_nodes n (p ∷ ps) (x ∷ xs) [] a d = absurd d
    one_nodes n (p ∷ ps) (x ∷ xs) (y ∷ ys) (a, h) (d, k) = let e = one_node n p x y a d in let r = one_nodes (suc n) ps xs ys h k in λ i. e i ∷ r i

    pub root_used : (g : GroundMethod) × (label_at (network c) tree [] ≡ Some (used g))
    root_used = go tree refl
      where
        go : (t : Tree (network c)) → tree ≡ t → (g : GroundMethod) × (label_at (network c) tree [] ≡ Some (used g))
        go (open_leaf w) e = absurd (f.no_leaves [] (w, ap (λ t. Some (label (network c) t)) e))
        go (done w) e = absurd (
            let x : IsPrimitive w = subst (IsGrown (network c)) e f.front.grown in
            let y : w ≡ top_work c = ap (work_of (network c)) (sym e) ∙ f.front.root in
            let z : IsPrimitive (top_work c) = subst IsPrimitive y x in
            z)
        go (split g ts) e = (g, ap (λ t. Some (label (network c) t)) e)

    only_plan : (plan other : HPlan) → ShowsHPlan c tree order plan → ShowsHPlan c tree order other → other ≡ plan
    only_plan plan other s o =
        let e : o.top ≡ s.top = (let u = o.at_root in let v = s.at_root in cc) in
        same_plans other plan
        (one_primitives 0 (primitives_in c tree order) other.primitives plan.primitives o.primitives s.primitives)
        (one_ids (shown_children c tree order [] s.top) other.root plan.root (subst (λ (g : GroundMethod). AreIds c tree order (shown_children c tree order [] g) other.root) e o.root) s.root)
        (one_nodes (length (primitives_in c tree order)) (lower_in c tree order) other.nodes plan.nodes o.nodes s.nodes)

    shown_once : IsShownOnce c tree order
    shown_once =
        let (g, e) = root_used in
        let (ls, a) = primitives_of 0 (primitives_in c tree order) (λ p d. (filter_to (λ p. is_primitive c (label_at (network c) tree p)) order p d).1) in
        let (ns, r) = ids_of (shown_children c tree order [] g) (children_numbered [] g e) in
        let (xs, d) = nodes_of (length (primitives_in c tree order)) (lower_in c tree order) (λ p d. (filter_to (λ p. is_lower c p (label_at (network c) tree p)) order p d).1) in
        made ls ns xs (record { primitives = a; top = g; at_root = e; root = r; nodes = d })
      where
        made : (ls : List HLine) (ns : List ℕ) (xs : List HNode) → ShowsHPlan c tree order (record { primitives = ls; root = ns; nodes = xs }) → IsShownOnce c tree order
        made ls ns xs s = record { plan = record { primitives = ls; root = ns; nodes = xs }; shows = s; only = λ (other : HPlan) o. only_plan (record { primitives = ls; root = ns; nodes = xs }) other s o }

pub each_is_shown_once : (c : Compiled) → EachIsShownOnce c
each_is_shown_once c tree order f = shown_once c tree order f
