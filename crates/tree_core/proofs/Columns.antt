-- What is kept of the nodes in preorder: growths, places, parents and rows.
use Rattle.std.proofs.Common.{ℕ, zero, suc, ◌≡◌, ◌≢◌, ◌+◌, ◌<◌, inl, inr, List, [], ◌∷◌, ◌++◌, length, set, map, Option, Some, None, true, nat_eq, eq-eqb, slice_get, refl, ap, sym, subst, ◌∙◌, arith, length-append}
use Rattle.std.specs.Option.{option_eq}
use Rattle.std.proofs.lemmas.Bool.{cases_lt, cases_eq}
use Rattle.plan_model.specs.task_networks.Tree.{Tree, Address, at, IsAddress}
use Rattle.plan_model.specs.task_networks.Preorder.{preorder}
use Rattle.plan_model.proofs.task_networks.Different.{no_more}
use Rattle.plan_model.proofs.task_networks.Nodes.{nodes, lists_address}
use Rattle.tree_core.specs.Tables.{Row, table, IsRow, IsWay}
use Rattle.tree_core.specs.Growths.{Growth, IsAt, IsUnder, IsTreeOf}
use Rattle.tree_core.specs.Labels.{labels}
use Rattle.tree_core.specs.Growing.{IsPlaced, IsNodeAt, AreNodes, AreBelow, ArePlaces}
use Rattle.tree_core.specs.Runs.{AreAt}
use Rattle.tree_core.proofs.Gets.{get_some, get_within, get_cases, get_left, get-map, mapped, one_place, place_of}
use Rattle.tree_core.proofs.GrowthLaws.{growth_at}
use Rattle.tree_core.proofs.Joined.{under_parent}
use Rattle.tree_core.proofs.Siblings.{as_many, row_is, one_node_place, place_of_node, child_within}
use Rattle.tree_core.proofs.TableRows.{tables_tell_trees}
use Rattle.tree_core.proofs.Setting.{get-set_same, get-set_other, get-push}

-- numbers below n, and one more
pub below_more : (n : ℕ) (xs : List ℕ) (x : ℕ) → AreBelow n xs → x < n → AreBelow n (xs ++ x ∷ [])
below_more n xs x b l k y e = elim (get_cases xs (x ∷ []) k y e) [
  | inl h ↦ b k y h.1
  | inr (zero, h, f) ↦ (let z : x ≡ y = cc in omega arith)
  | inr (suc j, h, f) ↦ absurd cc
]

-- one more place is noted
pub places_more : (n x : ℕ) (nodes places : List ℕ) → ArePlaces n nodes places → slice_get nodes n ≡ Some x → x < length places → ArePlaces (n + 1) nodes (set places x n)
places_more n x nodes places p at l k y m e one = elim (cases_eq y x) [
  | inl same ↦ (
      let z : n ≡ k = one n (at ∙ ap Some (sym same)) in
      ap (slice_get (set places x n)) same ∙ get-set_same places x n l ∙ ap Some z
      )
  | inr other ↦ (
      let d : k ≢ n = (λ z. other (let f : Some y ≡ Some x = sym e ∙ ap (slice_get nodes) z ∙ at in let g : y ≡ x = cc in g)) in
      get-set_other places x y n other ∙ p k y (omega arith) e one
      )
]

module _ (gs : List (Growth labels)) (tree : Tree labels) (order : List Address) (s : IsTreeOf labels gs tree order) where
  pub address_of : (x : ℕ) (p : Address) → slice_get order x ≡ Some p → IsAddress labels tree p
  address_of x p e = let (g, d) = growth_at labels gs tree order s.growths_are x p e in (g.label, s.growths_are.labels x g p d e)

  -- as many nodes as growths
  pub many_nodes_are : length (preorder labels tree) ≡ length gs
  many_nodes_are =
      let a = no_more (preorder labels tree) order (tables_tell_trees labels tree).once (λ p c. s.all p (nodes labels tree tree [] p (let x : at labels tree [] ≡ Some tree = refl in x) c)) in
      let b = no_more order (preorder labels tree) s.different (λ p c. (let (x, e) = place_of order p c in lists_address labels tree p (address_of x p e))) in
      let m = s.growths_are.many in
      omega arith

  pub many_rows_are : length (table labels tree) ≡ length gs
  many_rows_are = as_many labels tree ∙ many_nodes_are

  -- and fewer children
  pub number_within : (k x : ℕ) (g : Growth labels) → IsAt labels gs k g → g.parent ≡ Some x → g.child < length gs
  number_within k x g at is_parent =
      let (p, q, e, f, z, l) = under_parent labels gs tree order s k x g at is_parent in
      let h = child_within labels tree g.child q (subst (IsAddress labels tree) z (address_of k p e)) in
      let m = many_nodes_are in
      omega arith

  pub growth_of_node : (p : Address) → IsAddress labels tree p → (x : ℕ) × (slice_get order x ≡ Some p)
  growth_of_node p a = place_of order p (s.all p a)

  pub one_growth : (x y : ℕ) (p : Address) → slice_get order x ≡ Some p → slice_get order y ≡ Some p → x ≡ y
  one_growth x y p e f = one_place order s.different x y p e f

  pub placed_growth : (x : ℕ) → x < length gs → (k : ℕ) × IsPlaced tree order x k
  placed_growth x l =
      let (p, e) = get_some order x (let z = s.growths_are.many in omega arith) in
      let (k, f) = place_of_node labels tree p (address_of x p e) in
      (k, (p, e, f))

  pub placed_within : (x k : ℕ) → IsPlaced tree order x k → k < length gs
  placed_within x k (p, e, f) = let l = get_within (preorder labels tree) k p f in let m = many_nodes_are in omega arith

  -- the walk's next growth is put behind the others
  pub nodes_more : (n : ℕ) (nodes : List ℕ) (x : ℕ) → AreNodes n nodes tree order → IsNodeAt n (Some x) tree order → x < length gs → AreNodes (n + 1) (nodes ++ x ∷ []) tree order
  nodes_more n nodes x a at l = (
    (let z = length-append nodes (x ∷ []) in let y = a.0 in omega arith),
    λ k y e. elim (get_cases nodes (x ∷ []) k y e) [
      | inl h ↦ a.1 k y h.1
      | inr (zero, h, f) ↦ (
          let (p, g) = get_some order x (let z = s.growths_are.many in omega arith) in
          let here : k ≡ n = (let z = a.0 in omega arith) in
          let same : x ≡ y = cc in
          (p, subst (λ z. slice_get order z ≡ Some p) same g, ap (slice_get (preorder labels tree)) here ∙ at ∙ g)
          )
      | inr (suc j, h, f) ↦ absurd cc
    ],
  )

  module _ (nodes : List ℕ) (a : AreNodes (length gs) nodes tree order) where
    -- the growth of a node stands at its place, and there alone
    pub node_of_placed : (x k : ℕ) → IsPlaced tree order x k → k < length gs → slice_get nodes k ≡ Some x
    node_of_placed x k (p, e, f) l =
        let (y, g) = get_some nodes k (let z = a.0 in omega arith) in
        let (q, d, h) = a.1 k y g in
        let same : q ≡ p = cc in
        g ∙ ap Some (one_growth y x p (d ∙ ap Some same) e)

    pub only_place : (x k : ℕ) → IsPlaced tree order x k → (j : ℕ) → slice_get nodes j ≡ Some x → j ≡ k
    only_place x k (p, e, f) j g =
        let (q, d, h) = a.1 j x g in
        let same : q ≡ p = cc in
        one_node_place labels tree j k p (h ∙ ap Some same) f

    module _ (places : List ℕ) (ps : ArePlaces (length nodes) nodes places) where
      pub place_noted : (x k : ℕ) → IsPlaced tree order x k → slice_get places x ≡ Some k
      place_noted x k h =
          let l = placed_within x k h in
          ps k x (let z = a.0 in omega arith) (node_of_placed x k h l) (only_place x k h)

      -- the place that is noted of a growth is that of its node
      pub order_place : (j x : ℕ) (p : Address) → slice_get places j ≡ Some x → slice_get order j ≡ Some p → slice_get (preorder labels tree) x ≡ Some p
      order_place j x p e f =
          let l = get_within order j p f in
          let m = s.growths_are.many in
          let (k, placed) = placed_growth j (omega arith) in
          let g = place_noted j k placed in
          let same : k ≡ x = cc in
          let one : placed.0 ≡ p = (let h = placed.1 in cc) in
          subst (λ z. slice_get (preorder labels tree) z ≡ Some p) same (placed.2 ∙ ap Some one)

  -- what a row says, beside what its growth says
  module _ (x k : ℕ) (placed : IsPlaced tree order x k) (g : Growth labels) (at : IsAt labels gs x g) (r : Row labels) (is : slice_get (table labels tree) k ≡ Some r) where
    row : IsRow labels tree k r placed.0
    row = row_is labels tree k placed.0 r placed.2 is

    pub same_label : r.label ≡ g.label
    same_label = let a = row.label in let b = s.growths_are.labels x g placed.0 at placed.1 in cc

    pub root_row : g.parent ≡ None → (r.parent ≡ None) × (r.number ≡ 0)
    root_row none =
        let u = subst (λ o. IsUnder labels order x o g.child placed.0) none (s.growths_are.under x g placed.0 at placed.1) in
        let w = subst (IsWay labels tree k r) u row.way in
        (w.1, w.2)

    pub child_row : (y : ℕ) → g.parent ≡ Some y → (z : ℕ) × IsPlaced tree order y z × (r.parent ≡ Some z) × (r.number ≡ g.child)
    child_row y some =
        let u = subst (λ o. IsUnder labels order x o g.child placed.0) some (s.growths_are.under x g placed.0 at placed.1) in
        let (q, f, h) = u.1 in
        let w = subst (IsWay labels tree k r) h row.way in
        let (z, lt, par, e) = w.1 in
        (z, (q, f, e), par, w.0)

-- places of all growths are those of their nodes
pub are_at : (places : List ℕ) (ps qs : List Address) → length places ≡ length qs → ((j x : ℕ) (p : Address) → slice_get places j ≡ Some x → slice_get qs j ≡ Some p → slice_get ps x ≡ Some p) → AreAt ps places qs
are_at [] ps [] e h = tt
are_at [] ps (q ∷ qs) e h = absurd (omega arith)
are_at (k ∷ places) ps [] e h = absurd (omega arith)
are_at (k ∷ places) ps (q ∷ qs) e h = (h 0 k q refl refl, are_at places ps qs (omega arith) (λ (j : ℕ). h (suc j)))

-- lists of one length with the same elements
pub same_rows : {A : Type 0} (xs ys : List A) → length xs ≡ length ys → ((k : ℕ) (x : A) → slice_get ys k ≡ Some x → slice_get xs k ≡ Some x) → xs ≡ ys
same_rows [] [] e h = refl
same_rows [] (y ∷ ys) e h = absurd (omega arith)
same_rows (x ∷ xs) [] e h = absurd (omega arith)
same_rows (x ∷ xs) (y ∷ ys) e h = let f = h 0 y refl in let g : x ≡ y = cc in let t = same_rows xs ys (omega arith) (λ (k : ℕ). h (suc k)) in λ i. g i ∷ t i

-- one more row
pub more_rows : {A B : Type 0} (f : A → B) (xs : List A) (x : A) (n : ℕ) → length xs ≡ n → (k : ℕ) (y : B) → k < n + 1 → (k < n → slice_get (map f xs) k ≡ Some y) → (k ≡ n → f x ≡ y) → slice_get (map f (xs ++ x ∷ [])) k ≡ Some y
more_rows f xs x n l k y m old new = elim (cases_lt k n) [
  | inl h ↦ (let (z, e, g) = mapped f xs k y (old h) in get-map f (xs ++ x ∷ []) k z (get_left xs (x ∷ []) k z e) ∙ ap Some g)
  | inr h ↦ (let e : k ≡ n = omega arith in get-map f (xs ++ x ∷ []) k x (ap (slice_get (xs ++ x ∷ [])) e ∙ get-push xs x n l) ∙ ap Some (new e))
]

-- a number that is found
pub equal_some : (o : Option ℕ) (p : ℕ) → option_eq nat_eq o (Some p) ≡ true → o ≡ Some p
equal_some None p e = absurd cc
equal_some (Some q) p e = let f : q ≡ p = grind (arith, e) in ap Some f

pub some_equal : (o : Option ℕ) (p : ℕ) → o ≡ Some p → option_eq nat_eq o (Some p) ≡ true
some_equal None p e = absurd cc
some_equal (Some q) p e = let f : q ≡ p = cc in eq-eqb q p f
