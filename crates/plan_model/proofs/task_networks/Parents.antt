-- The parent of a node is a node, with a method, and each child of a method has a node.
use Rattle.std.proofs.Common.{ℕ, zero, suc, ◌≡◌, ◌∙◌, ◌<◌, ◌∷◌, length, slice_get, Option, Some, None, option_map, refl, ap, sym, subst, arith}
use Rattle.std.proofs.lemmas.Option.{slice_get_within}
use Rattle.plan_model.specs.task_networks.Net.{Net, count}
use Rattle.plan_model.specs.task_networks.Tree.{Tree, Trees, open_leaf, done, split, none, more, Label, Address, at, child_at, label, label_at, used, work_of, works_of, IsAddress, IsGrown}
use Rattle.plan_model.proofs.task_networks.Nodes.{parent, grown_at, child_below, child_in}

module _ (N : Net) where
  pub split_at : (tree : Tree N) (p : Address) (m : N.Method) → label_at N tree p ≡ Some (used m) → (ts : Trees N) × (at N tree p ≡ Some (split m ts))
  split_at tree p m e = go (at N tree p) e
    where
      go : (o : Option (Tree N)) → option_map (label N) o ≡ Some (used m) → (ts : Trees N) × (o ≡ Some (split m ts))
      go None f = absurd cc
      go (Some (open_leaf v)) f = absurd cc
      go (Some (done v)) f = absurd cc
      go (Some (split n ts)) f = (ts, cc)

  in_child : (ts : Trees N) (i : ℕ) (l : Label N) → option_map (label N) (child_at N ts i) ≡ Some l → i < length (works_of N ts)
  in_child none i l e = absurd cc
  in_child (more t ts) zero l e = omega arith
  in_child (more t ts) (suc i) l e = let h = in_child ts i l e in omega arith

  -- each child of a method is an address, and no more
  pub child_address : (tree : Tree N) (p : Address) (m : N.Method) (i : ℕ) → IsGrown N tree → label_at N tree p ≡ Some (used m) → i < count N m → IsAddress N tree (i ∷ p)
  child_address tree p m i g e h =
      let (ts, a) = split_at tree p m e in
      let ws = (grown_at N tree p (split m ts) g a).1 in
      let c = child_in N ts i (subst (λ x. i < length x) (sym ws) h) in
      (label N c.0, ap (option_map (label N)) (child_below N tree i p m ts a ∙ c.1))

  pub address_child : (tree : Tree N) (p : Address) (m : N.Method) (i : ℕ) → IsGrown N tree → label_at N tree p ≡ Some (used m) → IsAddress N tree (i ∷ p) → i < count N m
  address_child tree p m i g e (l, f) =
      let (ts, a) = split_at tree p m e in
      let ws = (grown_at N tree p (split m ts) g a).1 in
      subst (λ z. i < length z) ws (in_child ts i l (sym (ap (option_map (label N)) (child_below N tree i p m ts a)) ∙ f))

  child_with : (ts : Trees N) (i : ℕ) (w : N.Work) → slice_get (works_of N ts) i ≡ Some w → (t : Tree N) × (child_at N ts i ≡ Some t) × (work_of N t ≡ w)
  child_with none i w e = absurd cc
  child_with (more t ts) zero w e = (t, refl, cc)
  child_with (more t ts) (suc i) w e = child_with ts i w e

  module _ (tree : Tree N) where
    pub parent_label : (i : ℕ) (p : Address) → IsAddress N tree (i ∷ p) → (m : N.Method) × (label_at N tree p ≡ Some (used m))
    parent_label i p (l, e) = go (at N tree (i ∷ p)) refl e
      where
        go : (o : Option (Tree N)) → at N tree (i ∷ p) ≡ o → option_map (label N) o ≡ Some l → (m : N.Method) × (label_at N tree p ≡ Some (used m))
        go None f c = absurd cc
        go (Some t) f c = let u = parent N tree i p t f in (u.0, ap (option_map (label N)) u.2)

    pub parent_address : (i : ℕ) (p : Address) → IsAddress N tree (i ∷ p) → IsAddress N tree p
    parent_address i p a = let h = parent_label i p a in (used h.0, h.1)

    -- the label of the i-th child is of the i-th work
    pub child_label : IsGrown N tree → (q : Address) (m : N.Method) (i : ℕ) (w : N.Work) → label_at N tree q ≡ Some (used m) → slice_get (N.works m) i ≡ Some w → (t : Tree N) × (label_at N tree (i ∷ q) ≡ Some (label N t)) × (work_of N t ≡ w)
    child_label g q m i w e f =
        let (ts, h) = split_at tree q m e in
        let grown = grown_at N tree q (split m ts) g h in
        let (t, c, k) = child_with ts i w (ap (λ z. slice_get z i) grown.1 ∙ f) in
        (t, ap (option_map (label N)) (child_below N tree i q m ts h ∙ c), k)

    -- the i-th work of a method has a node
    pub work_address : IsGrown N tree → (q : Address) (m : N.Method) (i : ℕ) (w : N.Work) → label_at N tree q ≡ Some (used m) → slice_get (N.works m) i ≡ Some w → IsAddress N tree (i ∷ q)
    work_address g q m i w e f = child_address tree q m i g e (slice_get_within (N.works m) i w f)
