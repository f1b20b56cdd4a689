-- The nodes of a tree, listed.
use Rattle.std.proofs.Common.{ℕ, zero, suc, ◌≡◌, ◌+◌, ◌<◌, ◌≤◌, inl, inr, List, [], ◌∷◌, length, Option, Some, None, option_map, refl, ap, subst, Contains, arith}
use Rattle.std.specs.Option.{option_and_then}
use Rattle.std.proofs.lemmas.List.Elements.{Contains-append_left, Contains-append_right, Contains-append_cases}
use Rattle.plan_model.specs.task_networks.Net.{Net}
use Rattle.plan_model.specs.task_networks.Tree.{Tree, Address, at, Trees, split, child_at, children_of, open_leaf, done, none, more, IsAddress, label, IsOpen, waits, IsAbove, IsGrown, AreGrown, works_of}
use Rattle.htn_base.specs.Different.{AreDifferent}
use Rattle.plan_model.specs.task_networks.Preorder.{nodes_at, nodes_from}
use Rattle.plan_model.proofs.task_networks.Addresses.{below-itself, below_up, not-below_parent, same_sibling}
use Rattle.plan_model.proofs.task_networks.Different.{different_append}
use Rattle.plan_model.proofs.task_networks.Lists.{Contains-here, Contains-later, head_or_tail, not-in_empty}

module _ (N : Net) where
  -- the parent of a node
  pub parent : (tree : Tree N) (i : ℕ) (p : Address) (t : Tree N) → at N tree (i ∷ p) ≡ Some t → (m : N.Method) × (ts : Trees N) × (at N tree p ≡ Some (split m ts)) × (child_at N ts i ≡ Some t)
  parent tree i p t e = go (at N tree p) refl e
    where
      go : (o : Option (Tree N)) → at N tree p ≡ o → option_and_then (λ u. child_at N (children_of N u) i) o ≡ Some t → (m : N.Method) × (ts : Trees N) × (at N tree p ≡ Some (split m ts)) × (child_at N ts i ≡ Some t)
      go None f c = absurd cc
      go (Some (open_leaf w)) f c = absurd cc
      go (Some (done w)) f c = absurd cc
      go (Some (split m ts)) f c = (m, ts, f, c)

  pub child_below : (tree : Tree N) (i : ℕ) (p : Address) (m : N.Method) (ts : Trees N) → at N tree p ≡ Some (split m ts) → at N tree (i ∷ p) ≡ child_at N ts i
  child_below tree i p m ts e = ap (option_and_then (λ u. child_at N (children_of N u) i)) e

  -- a subtree of a grown tree is grown
  child_grown : (ts : Trees N) (i : ℕ) (t : Tree N) → AreGrown N ts → child_at N ts i ≡ Some t → IsGrown N t
  child_grown none i t g e = absurd cc
  child_grown (more u ts) zero t g e = let f : u ≡ t = cc in subst (IsGrown N) f g.0
  child_grown (more u ts) (suc i) t g e = child_grown ts i t g.1 e

  pub grown_at : (tree : Tree N) (p : Address) (t : Tree N) → IsGrown N tree → at N tree p ≡ Some t → IsGrown N t
  grown_at tree [] t g e = let f : tree ≡ t = cc in subst (IsGrown N) f g
  grown_at tree (i ∷ p) t g e = let u = parent tree i p t e in child_grown u.1 i t (grown_at tree p (split u.0 u.1) g u.2).2 u.3

  pub child_in : (ts : Trees N) (i : ℕ) → i < length (works_of N ts) → (t : Tree N) × (child_at N ts i ≡ Some t)
  child_in none i h = absurd (omega arith)
  child_in (more t ts) zero h = (t, refl)
  child_in (more t ts) (suc i) h = child_in ts i (omega arith)

  itself : (p : Address) (t : Tree N) → Contains (nodes_at N p t) p
  itself p (open_leaf w) = Contains-here p []
  itself p (done w) = Contains-here p []
  itself p (split m ts) = Contains-here p (nodes_from N p 0 ts)

  child_here : (p : Address) (i j : ℕ) (ts : Trees N) (t : Tree N) → child_at N ts j ≡ Some t → (q : Address) → Contains (nodes_at N ((i + j) ∷ p) t) q → Contains (nodes_from N p i ts) q
  child_here p i j none t e q c = absurd cc
  child_here p i zero (more u ts) t e q c = Contains-append_left (nodes_at N (i ∷ p) u) (nodes_from N p (suc i) ts) q (subst (λ z. Contains (nodes_at N (z ∷ p) u) q) (let x : i + 0 ≡ i = omega arith in x) (subst (λ z. Contains (nodes_at N ((i + 0) ∷ p) z) q) (let f : t ≡ u = cc in f) c))
  child_here p i (suc j) (more u ts) t e q c = Contains-append_right (nodes_at N (i ∷ p) u) (nodes_from N p (suc i) ts) q (child_here p (suc i) j ts t e q (subst (λ z. Contains (nodes_at N (z ∷ p) t) q) (let x : i + suc j ≡ suc i + j = omega arith in x) c))

  -- a node of a part is a node of the whole
  inner : (tree : Tree N) (p : Address) (t : Tree N) → at N tree p ≡ Some t → (q : Address) → Contains (nodes_at N p t) q → Contains (nodes_at N [] tree) q
  inner tree [] t e q c = subst (λ z. Contains (nodes_at N [] z) q) (let f : t ≡ tree = cc in f) c
  inner tree (i ∷ p) t e q c =
      let u = parent tree i p t e in
      inner tree p (split u.0 u.1) u.2 q (Contains-later p (nodes_from N p 0 u.1) q (child_here p 0 i u.1 t u.3 q (subst (λ z. Contains (nodes_at N (z ∷ p) t) q) (let x : i ≡ 0 + i = omega arith in x) c)))

  pub lists_address : (tree : Tree N) (p : Address) → IsAddress N tree p → Contains (nodes_at N [] tree) p
  lists_address tree p (l, e) = go (at N tree p) refl e
    where
      go : (o : Option (Tree N)) → at N tree p ≡ o → option_map (label N) o ≡ Some l → Contains (nodes_at N [] tree) p
      go None f c = absurd cc
      go (Some t) f c = inner tree p t f p (itself p t)

  pub leaves_of : (tree : Tree N) → (leaves : List Address) × ((p : Address) → IsOpen N tree p → Contains leaves p)
  leaves_of tree = (nodes_at N [] tree, λ p o. lists_address tree p (waits o.0, o.1))

  -- each node once
  mutual
    pub below_nodes : (t : Tree N) (p q : Address) → Contains (nodes_at N p t) q → IsAbove p q
    below_nodes (open_leaf w) p q c = elim (head_or_tail p [] q c) [ inl e ↦ subst (IsAbove p) e (below-itself p) | inr d ↦ absurd (not-in_empty q d) ]
    below_nodes (done w) p q c = elim (head_or_tail p [] q c) [ inl e ↦ subst (IsAbove p) e (below-itself p) | inr d ↦ absurd (not-in_empty q d) ]
    below_nodes (split m ts) p q c = elim (head_or_tail p (nodes_from N p 0 ts) q c) [ inl e ↦ subst (IsAbove p) e (below-itself p) | inr d ↦ (let h = below_children ts p 0 q d in below_up h.0 p q h.2) ]

    pub below_children : (ts : Trees N) (p : Address) (i : ℕ) (q : Address) → Contains (nodes_from N p i ts) q → (j : ℕ) × (i ≤ j) × IsAbove (j ∷ p) q
    below_children none p i q c = absurd (not-in_empty q c)
    below_children (more t ts) p i q c = elim (Contains-append_cases (nodes_at N (i ∷ p) t) (nodes_from N p (suc i) ts) q c) [ inl d ↦ (i, omega arith, below_nodes t (i ∷ p) q d) | inr d ↦ (let h = below_children ts p (suc i) q d in (h.0, (let l = h.1 in omega arith), h.2)) ]

  mutual
    pub different_nodes : (t : Tree N) (p : Address) → AreDifferent (nodes_at N p t)
    different_nodes (open_leaf w) p = (not-in_empty p, tt)
    different_nodes (done w) p = (not-in_empty p, tt)
    different_nodes (split m ts) p = (λ c. (let h = below_children ts p 0 p c in not-below_parent h.0 p h.2), different_children ts p 0)

    different_children : (ts : Trees N) (p : Address) (i : ℕ) → AreDifferent (nodes_from N p i ts)
    different_children none p i = tt
    different_children (more t ts) p i = different_append (nodes_at N (i ∷ p) t) (nodes_from N p (suc i) ts) (different_nodes t (i ∷ p)) (different_children ts p (suc i))
        (λ q c d. (let h = below_children ts p (suc i) q d in let e = same_sibling i h.0 p q (below_nodes t (i ∷ p) q c) h.2 in let l = h.1 in omega arith))

  -- each is a node
  mutual
    pub nodes : (tree : Tree N) (t : Tree N) (p q : Address) → at N tree p ≡ Some t → Contains (nodes_at N p t) q → IsAddress N tree q
    nodes tree (open_leaf w) p q e c = elim (head_or_tail p [] q c) [ inl f ↦ subst (IsAddress N tree) f (label N (open_leaf w), ap (option_map (label N)) e) | inr d ↦ absurd (not-in_empty q d) ]
    nodes tree (done w) p q e c = elim (head_or_tail p [] q c) [ inl f ↦ subst (IsAddress N tree) f (label N (done w), ap (option_map (label N)) e) | inr d ↦ absurd (not-in_empty q d) ]
    nodes tree (split m ts) p q e c = elim (head_or_tail p (nodes_from N p 0 ts) q c) [
      | inl f ↦ subst (IsAddress N tree) f (label N (split m ts), ap (option_map (label N)) e)
      | inr d ↦ children tree ts p 0 q (λ j. subst (λ z. at N tree (z ∷ p) ≡ child_at N ts j) (let x : j ≡ 0 + j = omega arith in x) (child_below tree j p m ts e)) d
    ]

    children : (tree : Tree N) (ts : Trees N) (p : Address) (i : ℕ) (q : Address) → ((j : ℕ) → at N tree ((i + j) ∷ p) ≡ child_at N ts j) → Contains (nodes_from N p i ts) q → IsAddress N tree q
    children tree none p i q e c = absurd (not-in_empty q c)
    children tree (more t ts) p i q e c = elim (Contains-append_cases (nodes_at N (i ∷ p) t) (nodes_from N p (suc i) ts) q c) [
      | inl d ↦ nodes tree t (i ∷ p) q (subst (λ z. at N tree (z ∷ p) ≡ Some t) (let x : i + 0 ≡ i = omega arith in x) (e 0)) d
      | inr d ↦ children tree ts p (suc i) q (λ j. subst (λ z. at N tree (z ∷ p) ≡ child_at N ts j) (let x : i + suc j ≡ suc i + j = omega arith in x) (e (suc j))) d
    ]
