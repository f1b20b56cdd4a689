-- A list of rows is a table exactly where it hangs together.
use Rattle.std.proofs.Common.{ℕ, zero, suc, ◌≡◌, ◌+◌, ◌<◌, ◌≤◌, List, [], ◌∷◌, ◌++◌, length, drop, Some, None, slice_get, refl, ap, sym, subst, ◌∙◌, append_assoc, append-nil, arith}
use Rattle.std.proofs.Math.Decide.{dec_lt}
use Rattle.plan_model.specs.task_networks.Net.{Net}
use Rattle.plan_model.specs.task_networks.Tree.{Tree, Trees, open_leaf, done, split, none, more, Label, waits, ran, used, Address, IsAbove, at}
use Rattle.plan_model.proofs.task_networks.Addresses.{below_up}
use Rattle.plan_model.specs.task_networks.Preorder.{preorder}
use Rattle.tree_core.specs.Tables.{Row, size, sizes, rows_at, rows_from, table, IsWay, IsRow, AreConsistent}
use Rattle.tree_core.specs.Laws.{RowsTell}
use Rattle.tree_core.proofs.Gets.{get_within, get_some, one_place}
use Rattle.tree_core.proofs.TableRows.{tables_tell_trees, over}
use Rattle.tree_core.proofs.Joined.{parent_label}
use Rattle.tree_core.proofs.OneTree.{some_node}

drop_here : {A : Type 0} (xs : List A) (k : ℕ) (x : A) → slice_get xs k ≡ Some x → drop k xs ≡ x ∷ drop (suc k) xs
drop_here [] k x e = absurd cc
drop_here (y ∷ xs) zero x e = let f : y ≡ x = cc in λ i. f i ∷ xs
drop_here (y ∷ xs) (suc k) x e = drop_here xs k x e

drop_all : {A : Type 0} (xs : List A) → drop (length xs) xs ≡ []
drop_all [] = refl
drop_all (x ∷ xs) = drop_all xs

module _ (N : Net) (rows : List (Row N)) (c : AreConsistent N rows) where
  look_in : List (Row N) → ℕ → Row N
  look_in [] k = c.root.0
  look_in (r ∷ rs) zero = r
  look_in (r ∷ rs) (suc k) = look_in rs k

  looked_in : (rs : List (Row N)) (k : ℕ) (r : Row N) → slice_get rs k ≡ Some r → look_in rs k ≡ r
  unfolding look_in
  looked_in [] k r e = absurd cc
  looked_in (s ∷ rs) zero r e = cc
  looked_in (s ∷ rs) (suc k) r e = looked_in rs k r e

  grown : Label N → Trees N → Tree N
  grown (waits w) ts = open_leaf w
  grown (ran w) ts = done w
  grown (used m) ts = split m ts

  next_kid : (pos stop : ℕ) → Dec (pos < stop) → (ℕ → Tree N) → Trees N → Trees N
  next_kid pos stop (yes l) f ts = more (f pos) ts
  next_kid pos stop (no n) f ts = none

  -- the subtrees that stand from pos to stop
  kids : (ℕ → Tree N) → (n pos stop : ℕ) → Trees N
  kids f zero pos stop = none
  kids f (suc n) pos stop = next_kid pos stop (dec_lt pos stop) f (kids f n (look_in rows pos).end stop)

  build : ℕ → ℕ → Tree N
  build zero k = grown (look_in rows k).label none
  build (suc d) k = grown (look_in rows k).label (kids (build d) (length rows) (suc k) (look_in rows k).end)

  -- the rows from k on begin with those of the tree
  record Stands (t : Tree N) (k : ℕ) (r : Row N) : Type 0 where
    begin : drop k rows ≡ rows_at N r.parent r.number k t ++ drop r.end rows
    wide : r.end ≡ k + size N t

  record Stand (ts : Trees N) (x i pos stop : ℕ) : Type 0 where
    begin : drop pos rows ≡ rows_from N x i pos ts ++ drop stop rows
    wide : stop ≡ pos + sizes N ts

  abbrev Follows : ℕ → ℕ → ℕ → ℕ → Type 0
  Follows x i pos stop = pos < stop → (s : Row N) × (slice_get rows pos ≡ Some s) × (s.parent ≡ Some x) × (s.number ≡ i)

  same_end : (r s : Row N) → r ≡ s → r.end ≡ s.end
  same_end r s e = ap (λ (z : Row N). z.end) e

  kids_stand : (f : ℕ → Tree N) (x : ℕ) (up : Row N) → slice_get rows x ≡ Some up → (low : ℕ) → ((k : ℕ) (r : Row N) → low ≤ k → slice_get rows k ≡ Some r → r.end ≤ up.end → Stands (f k) k r)
      → (n i pos : ℕ) → low ≤ pos → pos ≤ up.end → up.end ≤ pos + n → Follows x i pos up.end → Stand (kids f n pos up.end) x i pos up.end
  unfolding kids next_kid
  kids_stand f x up at low h zero i pos a l w fo = record { begin = ap (λ z. drop z rows) (let e : pos ≡ up.end = omega arith in e); wide = omega arith }
  kids_stand f x up at low h (suc n) i pos a l w fo = go (dec_lt pos up.end) (λ e j p b d y z. kids_stand f x up at low h n j p b d y z)
    where
      go : (d : Dec (pos < up.end)) → ((e : ℕ) (j p : ℕ) → low ≤ p → p ≤ up.end → up.end ≤ p + n → Follows x j p up.end → Stand (kids f n p up.end) x j p up.end) → Stand (next_kid pos up.end d f (kids f n (look_in rows pos).end up.end)) x i pos up.end
      go (no m) on = record { begin = ap (λ z. drop z rows) (let e : pos ≡ up.end = omega arith in e); wide = omega arith }
      go (yes m) on = made (fo m)
        where
          made : (s : Row N) × (slice_get rows pos ≡ Some s) × (s.parent ≡ Some x) × (s.number ≡ i) → Stand (more (f pos) (kids f n (look_in rows pos).end up.end)) x i pos up.end
          made (s, here, par, num) =
              let st = h pos s a here (c.within pos x s up here par at) in
              let e : (look_in rows pos).end ≡ s.end = same_end (look_in rows pos) s (looked_in rows pos s here) in
              let lt = c.later pos s here in
              let rest = on 0 (suc i) s.end (omega arith) (c.within pos x s up here par at) (omega arith) (λ b. (let (o, p, q, r) = c.next pos x s up here par at b in (o, p, q, r ∙ ap suc num))) in
              let wide = st.wide in
              let wide' = rest.wide in
              subst (λ z. Stand (more (f pos) (kids f n z up.end)) x i pos up.end) (sym e) (record {
                begin = st.begin ∙ ap (λ z. z ++ drop s.end rows) ((λ t. rows_at N (par t) (num t) pos (f pos))) ∙ ap (λ z. rows_at N (Some x) i pos (f pos) ++ z) (rest.begin ∙ ap (λ z. rows_from N x (suc i) z (kids f n s.end up.end) ++ drop up.end rows) wide)
                    ∙ sym (append_assoc (rows_at N (Some x) i pos (f pos)) (rows_from N x (suc i) (pos + size N (f pos)) (kids f n s.end up.end)) (drop up.end rows));
                wide = omega arith;
              })

  same_row : (r : Row N) (l : Label N) (n : ℕ) → r.label ≡ l → r.end ≡ n → r ≡ record { label = l; parent = r.parent; number = r.number; end = n }
  same_row r l n e f = λ t. record { label = e t; parent = r.parent; number = r.number; end = f t }

  leaf_begins : (k : ℕ) (r : Row N) (l : Label N) → slice_get rows k ≡ Some r → r.label ≡ l → r.end ≡ suc k → drop k rows ≡ record { label = l; parent = r.parent; number = r.number; end = suc k } ∷ drop r.end rows
  leaf_begins k r l here e f = drop_here rows k r here ∙ (let g = same_row r l (suc k) e f in λ t. g t ∷ drop (sym f t) rows)

  leaf_end : (k : ℕ) (r : Row N) → slice_get rows k ≡ Some r → ((m : N.Method) → r.label ≡ used m → ⊥) → r.end ≡ suc k
  leaf_end k r here n = let a = c.later k r here in elim (dec_lt (suc k) r.end) [ yes l ↦ absurd (let (m, e) = c.decomposed k r here l in n m e) | no l ↦ omega arith ]

  built : (d k : ℕ) (r : Row N) → length rows ≤ k + d → slice_get rows k ≡ Some r → r.end ≤ length rows → Stands (build d k) k r
  unfolding build grown
  built zero k r l here b = absurd (let x = get_within rows k r here in omega arith)
  built (suc d) k r l here b = subst (λ (z : Row N). Stands (grown z.label (kids (build d) (length rows) (suc k) z.end)) k r) (sym (looked_in rows k r here)) (go r.label refl (λ q s x y z. built d q s x y z))
    where
      go : (v : Label N) → r.label ≡ v → ((q : ℕ) (s : Row N) → length rows ≤ q + d → slice_get rows q ≡ Some s → s.end ≤ length rows → Stands (build d q) q s) → Stands (grown r.label (kids (build d) (length rows) (suc k) r.end)) k r
      go (waits w) e on = let f = leaf_end k r here (λ m x. cc) in subst (λ z. Stands (grown z (kids (build d) (length rows) (suc k) r.end)) k r) (sym e) (record { begin = leaf_begins k r (waits w) here e f; wide = omega arith })
      go (ran w) e on = let f = leaf_end k r here (λ m x. cc) in subst (λ z. Stands (grown z (kids (build d) (length rows) (suc k) r.end)) k r) (sym e) (record { begin = leaf_begins k r (ran w) here e f; wide = omega arith })
      go (used m) e on =
          let lt = c.later k r here in
          let st = kids_stand (build d) k r here (suc k) (λ q s x y z. on q s (omega arith) y (omega arith)) (length rows) 0 (suc k) (omega arith) (omega arith) (omega arith) (λ x. c.first k r here x) in
          subst (λ z. Stands (grown z (kids (build d) (length rows) (suc k) r.end)) k r) (sym e) (whole m e st)
        where
          whole : (m : N.Method) → r.label ≡ used m → Stand (kids (build d) (length rows) (suc k) r.end) k 0 (suc k) r.end → Stands (split m (kids (build d) (length rows) (suc k) r.end)) k r
          whole m e st = record {
            begin = drop_here rows k r here ∙ (let g = same_row r (used m) (suc k + sizes N (kids (build d) (length rows) (suc k) r.end)) e st.wide in let h = st.begin in λ t. g t ∷ h t);
            wide = (let x = st.wide in omega arith);
          }

  pub has_tree : (tree : Tree N) × (rows ≡ table N tree)
  has_tree =
      let (r, here, par, num, end) = c.root in
      let st = built (length rows) 0 r (omega arith) here (omega arith) in (
        build (length rows) 0,
        st.begin ∙ (λ t. rows_at N (par t) (num t) 0 (build (length rows) 0) ++ drop (end t) rows) ∙ ap (λ z. table N (build (length rows) 0) ++ z) (drop_all rows) ∙ append-nil (table N (build (length rows) 0)),
      )

module _ (N : Net) (tree : Tree N) where
  told : RowsTell N tree
  told = tables_tell_trees N tree

  row_there : (k : ℕ) (p : Address) → slice_get (preorder N tree) k ≡ Some p → (r : Row N) × (slice_get (table N tree) k ≡ Some r) × IsRow N tree k r p
  row_there k p e =
      let a = told.rows in
      let b = told.nodes in
      let l = get_within (preorder N tree) k p e in
      let (r, h) = get_some (table N tree) k (omega arith) in
      let (q, f, is) = told.each k r h in
      (r, h, subst (IsRow N tree k r) (let x : q ≡ p = cc in x) is)

  -- a row with a parent is that of its child
  child_row : (k x : ℕ) (r : Row N) (p : Address) → IsWay N tree k r p → r.parent ≡ Some x → (q : Address) × (slice_get (preorder N tree) x ≡ Some q) × (p ≡ r.number ∷ q)
  child_row k x r [] w e = absurd (let f = w.1 in cc)
  child_row k x r (i ∷ q) (n, (y, l, f, g)) e = (q, ap (slice_get (preorder N tree)) (let z : x ≡ y = cc in z) ∙ g, (λ t. sym n t ∷ q))

  root_row : (r : Row N) (p : Address) → IsWay N tree 0 r p → (p ≡ []) × (r.parent ≡ None) × (r.number ≡ 0)
  root_row r [] (z, e, n) = (refl, e, n)
  root_row r (i ∷ q) (n, (x, l, f, g)) = absurd (omega arith)

  -- the row of a child whose parent's place is known
  at_child : (k x i : ℕ) (q : Address) (s : Row N) → IsRow N tree k s (i ∷ q) → slice_get (preorder N tree) x ≡ Some q → (s.parent ≡ Some x) × (s.number ≡ i)
  at_child k x i q s is e = let (n, w) = is.way in (w.2 ∙ ap Some (one_place (preorder N tree) told.once w.0 x q w.3 e), n)

  consistent : AreConsistent N (table N tree)
  consistent = record {
    root = root;
    later = λ k (r : Row N) h. (let (p, e, is) = told.each k r h in is.later);
    decomposed = λ k (r : Row N) h l. (
        let (p, e, is) = told.each k r h in
        let (s, g, child) = row_there (suc k) (0 ∷ p) (is.first l) in
        let (m, f) = parent_label N tree 0 p s.label child.label in
        (m, (let x = is.label in cc))
        );
    first = λ k (r : Row N) h l. (
        let (p, e, is) = told.each k r h in
        let (s, g, child) = row_there (suc k) (0 ∷ p) (is.first l) in
        let w = at_child (suc k) k 0 p s child e in
        (s, g, w.0, w.1)
        );
    within = λ k x (r : Row N) (up : Row N) h par at. (
        let (p, e, is) = told.each k r h in
        let (q, f, d) = child_row k x r p is.way par in
        let (o, g, top) = told.each x up at in
        inside k x r up p q e f d is (subst (IsRow N tree x up) (let z : o ≡ q = cc in z) top)
        );
    next = λ k x (r : Row N) (up : Row N) h par at l. (
        let (p, e, is) = told.each k r h in
        let (q, f, d) = child_row k x r p is.way par in
        let (s, g, child) = row_there r.end (suc r.number ∷ q) (is.next x up q par at f l) in
        let w = at_child r.end x (suc r.number) q s child f in
        (s, g, w.0, w.1)
        );
  }
    where
      root : (r : Row N) × (slice_get (table N tree) 0 ≡ Some r) × (r.parent ≡ None) × (r.number ≡ 0) × (r.end ≡ length (table N tree))
      root =
          let a = told.rows in
          let l = some_node N tree in
          let (r, h) = get_some (table N tree) 0 (omega arith) in
          let (p, e, is) = told.each 0 r h in
          let (z, par, num) = root_row r p is.way in
          let x = is.extent tree (ap (at N tree) z) in
          (r, h, par, num, (let y : r.end ≡ length (table N tree) = omega arith in y))

      inside : (k x : ℕ) (r up : Row N) (p q : Address) → slice_get (preorder N tree) k ≡ Some p → slice_get (preorder N tree) x ≡ Some q → p ≡ r.number ∷ q → IsRow N tree k r p → IsRow N tree x up q → r.end ≤ up.end
      inside k x r up p q e f d is top =
          let lt = is.later in
          let within = is.within in
          let a = told.rows in
          let b = told.nodes in
          let (y, g) = over 1 r.end (omega arith) in
          let (v, h) = get_some (preorder N tree) y (omega arith) in
          let above = (is.subtree y v h).1 (omega arith, omega arith) in
          let z = ((top.subtree y v h).0 (below_up r.number q v (subst (λ u. IsAbove u v) d above))).1 in
          omega arith

pub hangs_together : (N : Net) (rows : List (Row N)) (tree : Tree N) → rows ≡ table N tree → AreConsistent N rows
hangs_together N rows tree e = subst (AreConsistent N) (sym e) (consistent N tree)
