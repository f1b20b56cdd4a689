-- What the passes over the order give is the plan that is shown.
use Rattle.std.proofs.Common.{ℕ, zero, suc, ◌≡◌, List, [], ◌∷◌, ◌++◌, length, map, drop, true, Option, Some, None, option_map, slice_get, refl, ap, sym, subst, ◌∙◌, Contains, arith}
use Rattle.std.proofs.Math.Seq.{drop-append_seam}
use Rattle.plan_model.specs.declared.values.Compiled.{Compiled}
use Rattle.plan_model.specs.task_networks.Tree.{Tree, open_leaf, done, split, Label, waits, ran, used, Address, label_at}
use Rattle.plan_model.specs.task_networks.Front.{IsFinished}
use Rattle.plan_model.specs.task_networks.Preorder.{preorder}
use Rattle.plan_model.specs.plan_meaning.Network.{Work, action, check, task, network}
use Rattle.plan_model.specs.plan_meaning.Solution.{top_work}
use Rattle.plan_model.proofs.task_networks.Filters.{filter_to}
use Rattle.plan_model.proofs.task_networks.Lists.{Contains-here, Contains-later}
use Rattle.tree_core.specs.declared.growth.Scheduled.{Scheduled}
use Rattle.tree_core.specs.Tables.{Row, table, IsRow}
use Rattle.tree_core.specs.Labels.{labels, labelled, labelled_node}
use Rattle.tree_core.specs.Runs.{label_in, AreAt, StandsFor}
use Rattle.tree_core.proofs.Gets.{get_within, one_place}
use Rattle.tree_core.proofs.Siblings.{one_node_place}
use Rattle.hplan_text.specs.declared.values.HLine.{HLine}
use Rattle.hplan_text.specs.declared.values.HNode.{HNode}
use Rattle.hplan_text.specs.ShownPlan.{object_name, name_of, line_of, is_primitive, is_decomposed, is_lower, primitives_in, lower_in, numbered, ArePrimitives, AreNodes, ShowsHPlan}
use Rattle.hplan_text.specs.Showing.{is_primitive_label, is_decomposed_label, is_lower_place, label_line, label_method, args_of, primitives_among, lower_among, HaveNumbers, AreIndexed, ListsChildren, lines_at, AreNodesAt}
use Rattle.hplan_text.proofs.ShownOnce.{numbered_once, primitive_label, lower_label, root_used}
use Rattle.hplan_text.proofs.ShownRows.{selected}
use Rattle.hplan_text.proofs.ShownChildren.{node_row, label_here}

at_append : (nodes : List Address) (ks : List ℕ) (ps : List Address) (js : List ℕ) (qs : List Address) → AreAt nodes ks ps → AreAt nodes js qs → AreAt nodes (ks ++ js) (ps ++ qs)
at_append nodes [] [] js qs a b = b
at_append nodes [] (p ∷ ps) js qs a b = absurd a
at_append nodes (k ∷ ks) [] js qs a b = absurd a
at_append nodes (k ∷ ks) (p ∷ ps) js qs (e, a) b = (e, at_append nodes ks ps js qs a b)

at_get : (nodes : List Address) (ks : List ℕ) (ps : List Address) (n : ℕ) (p : Address) → AreAt nodes ks ps → slice_get ps n ≡ Some p → (k : ℕ) × (slice_get ks n ≡ Some k) × (slice_get nodes k ≡ Some p)
at_get nodes [] [] n p a e = absurd cc
at_get nodes [] (u ∷ ps) n p a e = absurd a
at_get nodes (k ∷ ks) [] n p a e = absurd a
at_get nodes (k ∷ ks) (u ∷ ps) zero p (d, a) e = (k, refl, d ∙ e)
at_get nodes (k ∷ ks) (u ∷ ps) (suc n) p (d, a) e = at_get nodes ks ps n p a e

at_back : (nodes : List Address) (ks : List ℕ) (ps : List Address) (n k : ℕ) → AreAt nodes ks ps → slice_get ks n ≡ Some k → (p : Address) × (slice_get ps n ≡ Some p) × (slice_get nodes k ≡ Some p)
at_back nodes [] [] n k a e = absurd cc
at_back nodes [] (u ∷ ps) n k a e = absurd a
at_back nodes (x ∷ ks) [] n k a e = absurd a
at_back nodes (x ∷ ks) (u ∷ ps) zero k (d, a) e = (u, refl, subst (λ z. slice_get nodes z ≡ Some u) (let y : x ≡ k = cc in y) d)
at_back nodes (x ∷ ks) (u ∷ ps) (suc n) k (d, a) e = at_back nodes ks ps n k a e

module _ (c : Compiled) where
  primitive_same : (o : Option (Label (network c))) → is_primitive_label (option_map (labelled_node c) o) ≡ is_primitive c o
  primitive_same None = refl
  primitive_same (Some (waits w)) = refl
  primitive_same (Some (used g)) = refl
  primitive_same (Some (ran (action a args))) = refl
  primitive_same (Some (ran (check m values))) = refl
  primitive_same (Some (ran (task t args))) = refl

  decomposed_same : (o : Option (Label (network c))) → is_decomposed_label (option_map (labelled_node c) o) ≡ is_decomposed c o
  decomposed_same None = refl
  decomposed_same (Some (waits w)) = refl
  decomposed_same (Some (used g)) = refl
  decomposed_same (Some (ran w)) = refl

  line_same : (w : Work) (n : ℕ) (line : HLine) → line ≡ record { id = n; name = name_of c w; args = map (object_name c) (args_of w) } → line ≡ line_of c w n
  line_same (action a args) n line e = e
  line_same (check m values) n line e = e
  line_same (task t args) n line e = e

  root_first : (t : Tree (network c)) → slice_get (preorder (network c) t) 0 ≡ Some []
  root_first (open_leaf w) = refl
  root_first (done w) = refl
  root_first (split g ts) = refl

  module _ (run : Scheduled) (tree : Tree (network c)) (order : List Address) (f : IsFinished (network c) (top_work c) tree order) (s : StandsFor c run tree order) where
    here : (k : ℕ) (p : Address) → slice_get (preorder (network c) tree) k ≡ Some p → label_in run.tree k ≡ option_map (labelled_node c) (label_at (network c) tree p)
    here k p e = label_here c tree run.tree s.rows k p e

    lower_same : (k : ℕ) (p : Address) → slice_get (preorder (network c) tree) k ≡ Some p → is_lower_place k (label_in run.tree k) ≡ is_lower c p (label_at (network c) tree p)
    lower_same zero [] e = refl
    lower_same zero (i ∷ q) e = absurd (let r = root_first tree in cc)
    lower_same (suc k) [] e = absurd (let x = one_node_place (network c) tree (suc k) 0 [] e (root_first tree) in omega arith)
    lower_same (suc k) (i ∷ q) e = ap is_decomposed_label (here (suc k) (i ∷ q) e) ∙ decomposed_same (label_at (network c) tree (i ∷ q))

    firsts : AreAt (preorder (network c) tree) (primitives_among run.tree run.order) (primitives_in c tree order)
    firsts = selected (preorder (network c) tree) (λ k. is_primitive_label (label_in run.tree k)) (λ p. is_primitive c (label_at (network c) tree p)) (λ k p e. ap is_primitive_label (here k p e) ∙ primitive_same (label_at (network c) tree p)) run.order order s.places

    lowers : AreAt (preorder (network c) tree) (lower_among run.tree run.order) (lower_in c tree order)
    lowers = selected (preorder (network c) tree) (λ k. is_lower_place k (label_in run.tree k)) (λ p. is_lower c p (label_at (network c) tree p)) lower_same run.order order s.places

    abbrev places : List ℕ
    places = primitives_among run.tree run.order ++ lower_among run.tree run.order

    all : AreAt (preorder (network c) tree) places (numbered c tree order)
    all = at_append (preorder (network c) tree) (primitives_among run.tree run.order) (primitives_in c tree order) (lower_among run.tree run.order) (lower_in c tree order) firsts lowers

    indexed : (ids : List ℕ) → HaveNumbers (length run.tree) (length places) places ids → AreIndexed c tree order ids
    indexed ids h x n p e num = go (at_get (preorder (network c) tree) places (numbered c tree order) n p all num) (node_row c tree x p e)
      where
        go : (k : ℕ) × (slice_get places n ≡ Some k) × (slice_get (preorder (network c) tree) k ≡ Some p) → (r : Row labels) × (slice_get (table labels (labelled c tree)) x ≡ Some r) × IsRow labels (labelled c tree) x r p → slice_get ids x ≡ Some n
        go (k, d, at_k) (r, t, row) =
            let y = one_node_place (network c) tree x k p e at_k in
            h n x (get_within places n k d) (get_within run.tree x r (ap (λ rs. slice_get rs x) s.rows ∙ t)) (d ∙ ap Some (sym y)) once
          where
            once : (m : ℕ) → slice_get places m ≡ Some x → m ≡ n
            once m w =
                let (u, v, z) = at_back (preorder (network c) tree) places (numbered c tree order) m x all w in
                let same : u ≡ p = cc in
                one_place (numbered c tree order) (numbered_once c tree order f) m n p (v ∙ ap Some same) num

    lines_are : (n : ℕ) (ks : List ℕ) (ps : List Address) → AreAt (preorder (network c) tree) ks ps → ((p : Address) → Contains ps p → is_primitive c (label_at (network c) tree p) ≡ true) → ArePrimitives c tree order n ps (lines_at c run.tree n ks)
    lines_are n [] [] a h = tt
    lines_are n [] (p ∷ ps) a h = absurd a
    lines_are n (k ∷ ks) [] a h = absurd a
    lines_are n (k ∷ ks) (p ∷ ps) (e, a) h =
        let (w, is) = primitive_label c (label_at (network c) tree p) (h p (Contains-here p ps)) in
        ((w, is, line_same w n (label_line c (label_in run.tree k) n) (ap (λ l. label_line c l n) (here k p e ∙ ap (option_map (labelled_node c)) is))), lines_are (suc n) ks ps a (λ q d. h q (Contains-later p ps q d)))

    nodes_are : (ids : List ℕ) → AreIndexed c tree order ids → (n : ℕ) (ks : List ℕ) (ps : List Address) (xs : List HNode) → AreAt (preorder (network c) tree) ks ps → ((p : Address) → Contains ps p → is_lower c p (label_at (network c) tree p) ≡ true) → AreNodesAt c run.tree ids n ks xs → AreNodes c tree order n ps xs
    nodes_are ids ix n [] [] [] a h x = tt
    nodes_are ids ix n [] [] (y ∷ xs) a h x = absurd x
    nodes_are ids ix n [] (p ∷ ps) xs a h x = absurd a
    nodes_are ids ix n (k ∷ ks) [] xs a h x = absurd a
    nodes_are ids ix n (k ∷ ks) (p ∷ ps) [] a h x = absurd x
    nodes_are ids ix n (k ∷ ks) (p ∷ ps) (y ∷ xs) (e, a) h (x, r) =
        let (g, is) = lower_label c p (label_at (network c) tree p) (h p (Contains-here p ps)) in
        let lab = here k p e ∙ ap (option_map (labelled_node c)) is in (
          record {
            method = g;
            is = is;
            line = line_same ((network c).head g) n y.line (x.line ∙ ap (λ l. label_line c l n) lab);
            name = x.name ∙ ap (label_method c) lab;
            ids = x.children c tree order f s.rows ix p g e is;
          },
          nodes_are ids ix (suc n) ks ps xs a (λ q d. h q (Contains-later p ps q d)) r,
        )

    length-at : (nodes : List Address) (ks : List ℕ) (ps : List Address) → AreAt nodes ks ps → length ks ≡ length ps
    length-at nodes [] [] a = refl
    length-at nodes [] (p ∷ ps) a = absurd a
    length-at nodes (k ∷ ks) [] a = absurd a
    length-at nodes (k ∷ ks) (p ∷ ps) (e, a) = ap suc (length-at nodes ks ps a)

    pub whole : (one two : List ℕ) → one ≡ primitives_among run.tree run.order → two ≡ one ++ lower_among run.tree run.order → (ids root : List ℕ) (size : ℕ) → size ≡ length run.tree → HaveNumbers size (length two) two ids → ListsChildren run.tree ids 0 root
        → (lines : List HLine) → lines ≡ lines_at c run.tree 0 one → (first : ℕ) → first ≡ length one → (xs : List HNode) → AreNodesAt c run.tree ids first (drop first two) xs → ShowsHPlan c tree order (record { primitives = lines; root = root; nodes = xs })
    whole one two eo et ids root size es have kids lines el first ef xs xn =
        let e2 : two ≡ places = et ∙ ap (λ z. z ++ lower_among run.tree run.order) eo in
        let ix = indexed ids (subst (λ z. HaveNumbers (length run.tree) (length z) z ids) e2 (subst (λ z. HaveNumbers z (length two) two ids) es have)) in
        let (g, is) = root_used c tree order f in
        let len = length-at (preorder (network c) tree) (primitives_among run.tree run.order) (primitives_in c tree order) firsts in
        let ef2 : first ≡ length (primitives_among run.tree run.order) = ef ∙ ap length eo in
        let dropped : drop first two ≡ lower_among run.tree run.order = ap (λ z. drop z two) ef2 ∙ ap (drop (length (primitives_among run.tree run.order))) e2 ∙ drop-append_seam (primitives_among run.tree run.order) (lower_among run.tree run.order) in
        let xs_at = subst (λ z. AreNodesAt c run.tree ids first z xs) dropped xn in
        let xs_n = subst (λ z. AreNodesAt c run.tree ids z (lower_among run.tree run.order) xs) (ef2 ∙ len) xs_at in
        record {
          primitives = subst (λ z. ArePrimitives c tree order 0 (primitives_in c tree order) z) (sym (el ∙ ap (lines_at c run.tree 0) eo)) (lines_are 0 (primitives_among run.tree run.order) (primitives_in c tree order) firsts (λ p d. (filter_to (λ p. is_primitive c (label_at (network c) tree p)) order p d).1));
          top = g;
          at_root = is;
          root = kids c tree order f s.rows ix [] g (root_first tree) is;
          nodes = nodes_are ids ix (length (primitives_in c tree order)) (lower_among run.tree run.order) (lower_in c tree order) xs lowers (λ p d. (filter_to (λ p. is_lower c p (label_at (network c) tree p)) order p d).1) xs_n;
        }
