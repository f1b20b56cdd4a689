-- From one growth to the next in preorder, by the children that are noted.
use Rattle.std.proofs.Common.{ℕ, suc, ◌≡◌, ◌+◌, List, [], ◌∷◌, Some, None, slice_get, refl, ap, sym, subst, ◌∙◌, arith}
use Rattle.plan_model.specs.task_networks.Tree.{Tree, Address, IsAddress}
use Rattle.plan_model.specs.task_networks.Preorder.{preorder}
use Rattle.tree_core.specs.declared.children.Children.{Children}
use Rattle.tree_core.specs.Growths.{Growth, IsAt, IsUnder, IsTreeOf}
use Rattle.tree_core.specs.Labels.{labels}
use Rattle.tree_core.specs.Rooms.{found}
use Rattle.tree_core.specs.Growing.{IsChild, AreChildren, IsPlaced, EndsAt, IsNodeAt}
use Rattle.tree_core.proofs.Gets.{get_within, place_of}
use Rattle.tree_core.proofs.GrowthLaws.{growth_at}
use Rattle.tree_core.proofs.Joined.{under_parent, at_parent, root_at}
use Rattle.tree_core.proofs.Siblings.{row_of_node, place_of_node, first_child, childless, next_sibling, last_sibling, root_ends}

module _ (gs : List (Growth labels)) (children : Children) (a : AreChildren gs children) (tree : Tree labels) (order : List Address) (s : IsTreeOf labels gs tree order) where
  -- a noted child stands under its parent
  child_node : (x i y : ℕ) (q : Address) → IsChild gs x i y → slice_get order x ≡ Some q → slice_get order y ≡ Some (i ∷ q)
  child_node x i y q (g, e, p, c) f =
      let (u, v, o, w, z, l) = under_parent labels gs tree order s y x g e p in
      let same : v ≡ q = cc in
      o ∙ ap Some (z ∙ (λ t. c t ∷ same t))

  child_is_address : (x i y : ℕ) (q : Address) → IsChild gs x i y → slice_get order x ≡ Some q → IsAddress labels tree (i ∷ q)
  child_is_address x i y q c f =
      let (g, e, p, n) = c in
      let h = s.growths_are.labels y g (i ∷ q) e (child_node x i y q c f) in
      (g.label, h)

  -- where none is noted, no node stands there
  no_child : (x i : ℕ) (q : Address) → found children x i ≡ None → slice_get order x ≡ Some q → IsAddress labels tree (i ∷ q) → ⊥
  no_child x i q none f h =
      let (y, e) = place_of order (i ∷ q) (s.all (i ∷ q) h) in
      let (g, d) = growth_at labels gs tree order s.growths_are y (i ∷ q) e in
      let (p, c) = at_parent labels gs tree order s y g (i ∷ q) i x q f refl g.parent (s.growths_are.under y g (i ∷ q) d e) in
      a.all x i y (get_within gs y g d) (g, d, p, c) none

  pub first_follows : (x k y : ℕ) → found children x 0 ≡ Some y → IsPlaced tree order x k → IsNodeAt (suc k) (Some y) tree order
  first_follows x k y e (q, f, h) =
      let c = (a.given x 0 y e).1 in
      first_child labels tree k q h (child_is_address x 0 y q c f) ∙ sym (child_node x 0 y q c f)

  pub ends_here : (x k : ℕ) → found children x 0 ≡ None → IsPlaced tree order x k → EndsAt tree order x (suc k)
  ends_here x k e (q, f, h) =
      let (r, t, row) = row_of_node labels tree k q h in
      (k, r, (q, f, h), t, childless labels tree k q r h t (no_child x 0 q e f))

  module _ (n : ℕ) (g : Growth labels) (at : IsAt labels gs n g) where
    pub root_ends_at : (e : ℕ) → g.parent ≡ None → EndsAt tree order n e → IsNodeAt e None tree order
    root_ends_at e none (k, r, (p, f, h), t, z) =
        let u = subst (λ o. IsUnder labels order n o g.child p) none (s.growths_are.under n g p at f) in
        ap (slice_get (preorder labels tree)) (sym z) ∙ root_ends labels tree k r (h ∙ ap Some u) t

    module _ (x : ℕ) (is_parent : g.parent ≡ Some x) where
      pub sibling_follows : (y e : ℕ) → found children x (g.child + 1) ≡ Some y → EndsAt tree order n e → IsNodeAt e (Some y) tree order
      sibling_follows y e noted (k, r, (p, f, h), t, z) =
          let (u, q, o, w, v, l) = under_parent labels gs tree order s n x g at is_parent in
          let same : p ≡ g.child ∷ q = (let d : p ≡ u = cc in d ∙ v) in
          let c = subst (λ j. IsChild gs x j y) (let d : g.child + 1 ≡ suc g.child = omega arith in d) (a.given x (g.child + 1) y noted).1 in
          ap (slice_get (preorder labels tree)) (sym z)
          ∙ next_sibling labels tree k g.child q r (h ∙ ap Some same) t (child_is_address x (suc g.child) y q c w)
          ∙ sym (child_node x (suc g.child) y q c w)

      pub parent_ends : (e : ℕ) → found children x (g.child + 1) ≡ None → EndsAt tree order n e → EndsAt tree order x e
      parent_ends e none (k, r, (p, f, h), t, z) =
          let (u, q, o, w, v, l) = under_parent labels gs tree order s n x g at is_parent in
          let same : p ≡ g.child ∷ q = (let d : p ≡ u = cc in d ∙ v) in
          let (b, bq) = place_of_node labels tree q (up_address x q w) in
          let (up, tb, row) = row_of_node labels tree b q bq in
          let gone = subst (λ j. found children x j ≡ None) (let d : g.child + 1 ≡ suc g.child = omega arith in d) none in
          (b, up, (q, w, bq), tb, last_sibling labels tree k g.child q r (h ∙ ap Some same) t (no_child x (suc g.child) q gone w) b up bq tb ∙ z)
        where
          up_address : (x : ℕ) (q : Address) → slice_get order x ≡ Some q → IsAddress labels tree q
          up_address x q w = let (h, d) = growth_at labels gs tree order s.growths_are x q w in (h.label, s.growths_are.labels x h q d w)

  -- the first growth is the root's
  pub starts : IsNodeAt 0 (Some 0) tree order
  starts =
      let e = root_at labels gs tree order s in
      let (g, d) = growth_at labels gs tree order s.growths_are 0 [] e in
      let (k, f) = place_of_node labels tree [] (g.label, s.growths_are.labels 0 g [] d e) in
      let (r, t, row) = row_of_node labels tree k [] f in
      subst (λ z. slice_get (preorder labels tree) z ≡ Some []) row.way.0 f ∙ sym e
