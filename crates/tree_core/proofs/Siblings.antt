-- Where children stand in preorder: the first right behind its parent, each further one where the subtree of the one before ends.
use Rattle.std.proofs.Common.{ℕ, zero, suc, ◌≡◌, ◌+◌, ◌<◌, ◌≤◌, inl, inr, [], ◌∷◌, length, Option, Some, None, option_map, slice_get, refl, ap, sym, subst, ◌∙◌, arith}
use Rattle.std.proofs.lemmas.Bool.{cases_lt}
use Rattle.std.proofs.lemmas.Option.{slice_get_past}
use Rattle.plan_model.specs.task_networks.Net.{Net}
use Rattle.plan_model.specs.task_networks.Tree.{Tree, Trees, split, none, more, Address, at, child_at, label, IsAddress}
use Rattle.plan_model.specs.task_networks.Preorder.{preorder}
use Rattle.plan_model.proofs.task_networks.Nodes.{parent, child_below, nodes}
use Rattle.tree_core.specs.Tables.{Row, size, sizes, table, IsRow, AreConsistent}
use Rattle.tree_core.proofs.Gets.{get_some, get_within, at_place, one_place}
use Rattle.tree_core.proofs.OneTree.{some_node}
use Rattle.tree_core.proofs.TableRows.{tables_tell_trees}
use Rattle.tree_core.proofs.Consistent.{hangs_together}

module _ (N : Net) where
  -- how many nodes the first i trees have
  sizes_before : Trees N → ℕ → ℕ
  sizes_before none i = 0
  sizes_before (more t ts) zero = 0
  sizes_before (more t ts) (suc i) = size N t + sizes_before ts i

  before_first : (ts : Trees N) → sizes_before ts 0 ≡ 0
  unfolding sizes_before
  before_first none = refl
  before_first (more t ts) = refl

  before_next : (ts : Trees N) (i : ℕ) (t : Tree N) → child_at N ts i ≡ Some t → sizes_before ts (suc i) ≡ sizes_before ts i + size N t
  unfolding sizes_before
  before_next none i t e = absurd cc
  before_next (more u ts) zero t e = let f : u ≡ t = cc in let g = ap (size N) f in let z = before_first ts in omega arith
  before_next (more u ts) (suc i) t e = let h = before_next ts i t e in omega arith

  before_within : (ts : Trees N) (i : ℕ) (t : Tree N) → child_at N ts i ≡ Some t → sizes_before ts i + size N t ≤ sizes N ts
  unfolding sizes_before
  before_within none i t e = absurd cc
  before_within (more u ts) zero t e = let f : u ≡ t = cc in let g = ap (size N) f in omega arith
  before_within (more u ts) (suc i) t e = let h = before_within ts i t e in omega arith

  -- each has one at least
  before_many : (ts : Trees N) (i : ℕ) (t : Tree N) → child_at N ts i ≡ Some t → i ≤ sizes_before ts i
  unfolding sizes_before
  before_many none i t e = absurd cc
  before_many (more u ts) zero t e = omega arith
  before_many (more u ts) (suc i) t e = let h = before_many ts i t e in let s = some_node N u in omega arith

  child_before : (ts : Trees N) (i : ℕ) (t : Tree N) → child_at N ts (suc i) ≡ Some t → (u : Tree N) × (child_at N ts i ≡ Some u)
  child_before none i t e = absurd cc
  child_before (more u ts) zero t e = (u, refl)
  child_before (more u ts) (suc i) t e = child_before ts i t e

  module _ (tree : Tree N) where
    pub consistent_table : AreConsistent N (table N tree)
    consistent_table = hangs_together N (table N tree) tree refl

    pub as_many : length (table N tree) ≡ length (preorder N tree)
    as_many = (tables_tell_trees N tree).rows ∙ sym (tables_tell_trees N tree).nodes

    -- the row of a node
    pub row_of_node : (k : ℕ) (p : Address) → slice_get (preorder N tree) k ≡ Some p → (r : Row N) × (slice_get (table N tree) k ≡ Some r) × IsRow N tree k r p
    row_of_node k p e =
        let l = get_within (preorder N tree) k p e in
        let m = as_many in
        let (r, f) = get_some (table N tree) k (omega arith) in
        let (q, g, is) = (tables_tell_trees N tree).each k r f in
        (r, f, subst (IsRow N tree k r) (let z : q ≡ p = cc in z) is)

    pub row_is : (k : ℕ) (p : Address) (r : Row N) → slice_get (preorder N tree) k ≡ Some p → slice_get (table N tree) k ≡ Some r → IsRow N tree k r p
    row_is k p r e f = let (q, g, is) = (tables_tell_trees N tree).each k r f in subst (IsRow N tree k r) (let z : q ≡ p = cc in z) is

    pub one_node_place : (k l : ℕ) (p : Address) → slice_get (preorder N tree) k ≡ Some p → slice_get (preorder N tree) l ≡ Some p → k ≡ l
    one_node_place k l p e f = one_place (preorder N tree) (tables_tell_trees N tree).once k l p e f

    pub place_of_node : (p : Address) → IsAddress N tree p → (k : ℕ) × (slice_get (preorder N tree) k ≡ Some p)
    place_of_node p a = (tables_tell_trees N tree).places p a

    pub node_address : (k : ℕ) (p : Address) → slice_get (preorder N tree) k ≡ Some p → IsAddress N tree p
    node_address k p e = nodes N tree tree [] p (let x : at N tree [] ≡ Some tree = refl in x) (at_place (preorder N tree) k p e)

    tree_at : (p : Address) → IsAddress N tree p → (t : Tree N) × (at N tree p ≡ Some t)
    tree_at p (l, e) = go (at N tree p) refl e
      where
        go : (o : Option (Tree N)) → at N tree p ≡ o → option_map (label N) o ≡ Some l → (t : Tree N) × (at N tree p ≡ Some t)
        go None f c = absurd cc
        go (Some t) f c = (t, f)

    -- child i of q, of which x is the place
    module _ (q : Address) (x : ℕ) (at_x : slice_get (preorder N tree) x ≡ Some q) (m : N.Method) (ts : Trees N) (is : at N tree q ≡ Some (split m ts)) where
      child_place : (i : ℕ) (t : Tree N) → child_at N ts i ≡ Some t → slice_get (preorder N tree) (suc x + sizes_before ts i) ≡ Some (i ∷ q)
      child_place zero t e =
          let (r, f, row) = row_of_node x q at_x in
          let ext = row.extent (split m ts) is in
          let b = before_within ts 0 t e in
          let z = before_first ts in
          let s = some_node N t in
          subst (λ k. slice_get (preorder N tree) k ≡ Some (0 ∷ q)) (let y : suc x ≡ suc x + sizes_before ts 0 = omega arith in y) (row.first (omega arith))
      child_place (suc i) t e =
          let (u, f) = child_before ts i t e in
          let c = child_place i u f in
          let (r, g, row) = row_of_node x q at_x in
          let (rc, h, rowc) = row_of_node (suc x + sizes_before ts i) (i ∷ q) c in
          let ext = row.extent (split m ts) is in
          let extc = rowc.extent u (child_below N tree i q m ts is ∙ f) in
          let way = rowc.way in
          let same : way.1.0 ≡ x = one_node_place way.1.0 x q way.1.3 at_x in
          let b = before_within ts (suc i) t e in
          let n = before_next ts i u f in
          let s = some_node N t in
          let nx = rowc.next x r q (way.1.2 ∙ ap Some same) g at_x (omega arith) in
          subst (λ k. slice_get (preorder N tree) k ≡ Some (suc i ∷ q)) (let y : rc.end ≡ suc x + sizes_before ts (suc i) = omega arith in y) (nx ∙ ap (λ k. Some (suc k ∷ q)) way.0)

    -- a child number is less than the number of nodes
    pub child_within : (i : ℕ) (q : Address) → IsAddress N tree (i ∷ q) → i < length (preorder N tree)
    child_within i q a =
        let (t, f) = tree_at (i ∷ q) a in
        let (m, ts, is, c) = parent N tree i q t f in
        let (x, at_x) = place_of_node q (label N (split m ts), ap (option_map (label N)) is) in
        let l = get_within (preorder N tree) (suc x + sizes_before ts i) (i ∷ q) (child_place q x at_x m ts is i t c) in
        let b = before_many ts i t c in
        omega arith

    -- the first child
    pub first_child : (k : ℕ) (q : Address) → slice_get (preorder N tree) k ≡ Some q → IsAddress N tree (0 ∷ q) → slice_get (preorder N tree) (suc k) ≡ Some (0 ∷ q)
    first_child k q e a =
        let (t, f) = tree_at (0 ∷ q) a in
        let (m, ts, g, c) = parent N tree 0 q t f in
        subst (λ z. slice_get (preorder N tree) z ≡ Some (0 ∷ q)) (let y = before_first ts in let z : suc k + sizes_before ts 0 ≡ suc k = omega arith in z) (child_place q k e m ts g 0 t c)

    -- a node without children ends where it stands
    pub childless : (k : ℕ) (q : Address) (r : Row N) → slice_get (preorder N tree) k ≡ Some q → slice_get (table N tree) k ≡ Some r → (IsAddress N tree (0 ∷ q) → ⊥) → r.end ≡ suc k
    childless k q r e f n =
        let row = row_is k q r e f in
        let l = row.later in
        elim (cases_lt (suc k) r.end) [
          | inl m ↦ absurd (n (node_address (suc k) (0 ∷ q) (row.first m)))
          | inr m ↦ omega arith
        ]

    -- where the subtree ends, the next sibling stands
    pub next_sibling : (k i : ℕ) (q : Address) (r : Row N) → slice_get (preorder N tree) k ≡ Some (i ∷ q) → slice_get (table N tree) k ≡ Some r → IsAddress N tree (suc i ∷ q) → slice_get (preorder N tree) r.end ≡ Some (suc i ∷ q)
    next_sibling k i q r e f a =
        let row = row_is k (i ∷ q) r e f in
        let (x, lt, par, at_x) = row.way.1 in
        let (t, g) = tree_at (suc i ∷ q) a in
        let (m, ts, is, c) = parent N tree (suc i) q t g in
        let (u, d) = child_before ts i t c in
        let here = child_place q x at_x m ts is i u d in
        let same : k ≡ suc x + sizes_before ts i = one_node_place k (suc x + sizes_before ts i) (i ∷ q) e here in
        let ext = row.extent u (child_below N tree i q m ts is ∙ d) in
        let n = before_next ts i u d in
        subst (λ z. slice_get (preorder N tree) z ≡ Some (suc i ∷ q)) (let z : suc x + sizes_before ts (suc i) ≡ r.end = omega arith in z) (child_place q x at_x m ts is (suc i) t c)

    -- the last child ends where its parent does
    pub last_sibling : (k i : ℕ) (q : Address) (r : Row N) → slice_get (preorder N tree) k ≡ Some (i ∷ q) → slice_get (table N tree) k ≡ Some r → (IsAddress N tree (suc i ∷ q) → ⊥)
        → (x : ℕ) (up : Row N) → slice_get (preorder N tree) x ≡ Some q → slice_get (table N tree) x ≡ Some up → up.end ≡ r.end
    last_sibling k i q r e f n x up at_x tx =
        let row = row_is k (i ∷ q) r e f in
        let way = row.way in
        let same : way.1.0 ≡ x = one_node_place way.1.0 x q way.1.3 at_x in
        let par : r.parent ≡ Some x = way.1.2 ∙ ap Some same in
        let within = consistent_table.within k x r up f par tx in
        elim (cases_lt r.end up.end) [
          | inl m ↦ absurd (n (node_address r.end (suc i ∷ q) (row.next x up q par tx at_x m ∙ ap (λ z. Some (suc z ∷ q)) way.0)))
          | inr m ↦ omega arith
        ]

    -- behind the subtree of the root there is nothing
    pub root_ends : (k : ℕ) (r : Row N) → slice_get (preorder N tree) k ≡ Some [] → slice_get (table N tree) k ≡ Some r → slice_get (preorder N tree) r.end ≡ None
    root_ends k r e f =
        let row = row_is k [] r e f in
        let ext = row.extent tree refl in
        let z = row.way.0 in
        let n = (tables_tell_trees N tree).nodes in
        slice_get_past (preorder N tree) r.end (omega arith)
