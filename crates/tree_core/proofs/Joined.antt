-- The growths of a tree are joined.
use Rattle.std.proofs.Common.{ℕ, zero, suc, ◌≡◌, ◌<◌, ◌≤◌, List, [], ◌∷◌, Option, Some, None, option_map, slice_get, refl, ap, sym, subst, ◌∙◌, arith}
use Rattle.plan_model.specs.task_networks.Net.{Net}
use Rattle.plan_model.specs.task_networks.Tree.{Tree, Trees, none, more, Label, used, Address, at, child_at, label, label_at, IsAddress}
use Rattle.plan_model.proofs.task_networks.Nodes.{parent, child_below}
use Rattle.tree_core.specs.Growths.{Growth, IsUnder, AreGrowths, IsTreeOf, AreJoined}
use Rattle.tree_core.proofs.Gets.{get_within, get_some, place_of, one_place}
use Rattle.tree_core.proofs.GrowthLaws.{growth_at, node_at}

module _ (N : Net) where
  -- the parent of a node is decomposed, and each earlier sibling is a node
  pub parent_label : (tree : Tree N) (i : ℕ) (q : Address) (l : Label N) → label_at N tree (i ∷ q) ≡ Some l → (m : N.Method) × (label_at N tree q ≡ Some (used m))
  parent_label tree i q l e = go (at N tree (i ∷ q)) refl e
    where
      go : (o : Option (Tree N)) → at N tree (i ∷ q) ≡ o → option_map (label N) o ≡ Some l → (m : N.Method) × (label_at N tree q ≡ Some (used m))
      go None f c = absurd cc
      go (Some t) f c = let h = parent N tree i q t f in (h.0, ap (option_map (label N)) h.2)

  child_before : (ts : Trees N) (i : ℕ) (t : Tree N) → child_at N ts (suc i) ≡ Some t → (u : Tree N) × (child_at N ts i ≡ Some u)
  child_before none i t e = absurd cc
  child_before (more u ts) zero t e = (u, refl)
  child_before (more u ts) (suc i) t e = child_before ts i t e

  pub sibling_before : (tree : Tree N) (i : ℕ) (q : Address) (l : Label N) → label_at N tree (suc i ∷ q) ≡ Some l → IsAddress N tree (i ∷ q)
  sibling_before tree i q l e = go (at N tree (suc i ∷ q)) refl e
    where
      go : (o : Option (Tree N)) → at N tree (suc i ∷ q) ≡ o → option_map (label N) o ≡ Some l → IsAddress N tree (i ∷ q)
      go None f c = absurd cc
      go (Some t) f c =
          let h = parent N tree (suc i) q t f in
          let u = child_before h.1 i t h.3 in
          (label N u.0, ap (option_map (label N)) (child_below N tree i q h.0 h.1 h.2 ∙ u.1))

  module _ (gs : List (Growth N)) (tree : Tree N) (order : List Address) (s : IsTreeOf N gs tree order) where
    a : AreGrowths N gs tree order
    a = s.growths_are

    no_parent : (k : ℕ) (p : Address) (o : Option ℕ) (i : ℕ) → IsUnder N order k o i p → k ≡ 0 → o ≡ None
    no_parent k p None i u e = refl
    no_parent k p (Some x) i u e = absurd (let l = u.0 in omega arith)

    some_parent : (k : ℕ) (p : Address) (o : Option ℕ) (i : ℕ) → slice_get order (suc k) ≡ Some p → slice_get order 0 ≡ Some [] → IsUnder N order (suc k) o i p → (x : ℕ) × (o ≡ Some x) × (x ≤ k)
    some_parent k p None i e f u = let g : slice_get order (suc k) ≡ Some [] = e ∙ ap Some u in let h = one_place order s.different (suc k) 0 [] g f in absurd (omega arith)
    some_parent k p (Some x) i e f u = let l = u.0 in (x, refl, omega arith)

    pub root_at : slice_get order 0 ≡ Some []
    root_at =
        let (k, e) = place_of order [] (s.all [] (label N tree, refl)) in
        let (g, h) = growth_at N gs tree order a k [] e in
        go k e g.parent g.child (a.under k g [] h e)
      where
        start : (k : ℕ) → slice_get order k ≡ Some [] → (p : Address) × (slice_get order 0 ≡ Some p)
        start k e = get_some order 0 (let l = get_within order k [] e in omega arith)

        first : (p : Address) → slice_get order 0 ≡ Some p → (g : Growth N) → slice_get gs 0 ≡ Some g → (o : Option ℕ) → IsUnder N order 0 o g.child p → slice_get order 0 ≡ Some []
        first p e g h None u = e ∙ ap Some u
        first p e g h (Some x) u = absurd (let l = u.0 in omega arith)

        go : (k : ℕ) → slice_get order k ≡ Some [] → (o : Option ℕ) (i : ℕ) → IsUnder N order k o i [] → slice_get order 0 ≡ Some []
        go k e o i u =
            let (p, f) = start k e in
            let (g, h) = growth_at N gs tree order a 0 p f in
            first p f g h g.parent (a.under 0 g p h f)

    -- a growth with a parent stands under it
    pub under_parent : (k x : ℕ) (g : Growth N) → slice_get gs k ≡ Some g → g.parent ≡ Some x → (p : Address) × (q : Address) × (slice_get order k ≡ Some p) × (slice_get order x ≡ Some q) × (p ≡ g.child ∷ q) × (x < k)
    under_parent k x g h e =
        let (p, f) = node_at N gs tree order a k g h in
        let u : IsUnder N order k (Some x) g.child p = subst (λ z. IsUnder N order k z g.child p) e (a.under k g p h f) in
        (p, u.1.0, f, u.1.1, u.1.2, u.0)

    pub at_parent : (l : ℕ) (h : Growth N) (p : Address) (i x : ℕ) (q : Address) → slice_get order x ≡ Some q → p ≡ i ∷ q → (o : Option ℕ) → IsUnder N order l o h.child p → (o ≡ Some x) × (h.child ≡ i)
    at_parent l h p i x q e f None u = absurd (let z : [] ≡ i ∷ q = sym u ∙ f in cc)
    at_parent l h p i x q e f (Some y) (lt, (r, g, k)) =
        let z : h.child ∷ r ≡ i ∷ q = sym k ∙ f in
        let c : r ≡ q = cc in
        (ap Some (one_place order s.different y x q (g ∙ ap Some c) e), cc)

    pub joined : AreJoined N gs
    joined = record {
      some = (let h = growth_at N gs tree order a 0 [] root_at in (h.0, h.1));
      first = λ (g : Growth N) e. (let (p, f) = node_at N gs tree order a 0 g e in no_parent 0 p g.parent g.child (a.under 0 g p e f) refl);
      later = λ k (g : Growth N) e. (let (p, f) = node_at N gs tree order a (suc k) g e in some_parent k p g.parent g.child f root_at (a.under (suc k) g p e f));
      decomposed = λ k x (g : Growth N) (up : Growth N) e f h. (
          let (p, q, c, d, i, l) = under_parent k x g e f in
          let lp : label_at N tree (g.child ∷ q) ≡ Some g.label = subst (λ z. label_at N tree z ≡ Some g.label) i (a.labels k g p e c) in
          let (m, j) = parent_label tree g.child q g.label lp in
          (m, (let z = a.labels x up q h d in cc))
          );
      once = λ k l x (g : Growth N) (h : Growth N) e f i j n. (
          let (p, q, c, d, w, o) = under_parent k x g e i in
          let (p', q', c', d', w', o') = under_parent l x h f j in
          let r : q ≡ q' = cc in
          let v : p ≡ p' = w ∙ (λ t. n t ∷ r t) ∙ sym w' in
          one_place order s.different k l p c (c' ∙ ap Some (sym v))
          );
      none_left_out = λ k x i (g : Growth N) e f n. (
          let (p, q, c, d, w, o) = under_parent k x g e f in
          let lp : label_at N tree (suc i ∷ q) ≡ Some g.label = subst (λ z. label_at N tree z ≡ Some g.label) (w ∙ ap (λ z. z ∷ q) n) (a.labels k g p e c) in
          let (l, r) = place_of order (i ∷ q) (s.all (i ∷ q) (sibling_before tree i q g.label lp)) in
          let (h, t) = growth_at N gs tree order a l (i ∷ q) r in
          let z = at_parent l h (i ∷ q) i x q d refl h.parent (a.under l h (i ∷ q) t r) in
          (l, h, t, z.0, z.1)
          );
    }
