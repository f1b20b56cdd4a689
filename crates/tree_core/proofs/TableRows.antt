-- What the rows of a table say.
use Rattle.std.proofs.Common.{ℕ, zero, suc, ◌≡◌, ◌+◌, ◌-◌, ◌<◌, ◌≤◌, ◌⊎◌, inl, inr, List, [], ◌∷◌, ◌++◌, length, Option, Some, None, option_map, slice_get, refl, ap, sym, subst, ◌∙◌, arith}
use Rattle.std.proofs.lemmas.List.{length-append}
use Rattle.plan_model.specs.task_networks.Net.{Net}
use Rattle.plan_model.specs.task_networks.Tree.{Tree, Trees, open_leaf, done, split, none, more, Label, waits, ran, used, Address, IsAbove, at, child_at, label, label_at}
use Rattle.plan_model.specs.task_networks.Preorder.{nodes_at, nodes_from, preorder}
use Rattle.plan_model.proofs.task_networks.Addresses.{below-itself, below_up, below_below, same_sibling, not-below_parent}
use Rattle.plan_model.proofs.task_networks.Nodes.{below_nodes, below_children, child_below, lists_address, different_nodes}
use Rattle.tree_core.specs.Tables.{Row, size, sizes, rows_at, rows_from, table, IsWay, IsRow}
use Rattle.tree_core.specs.Laws.{TablesTellTrees}
use Rattle.tree_core.proofs.Gets.{get_left, get_right, get_cases, get_within, at_place, place_of}

-- what is left over
pub over : (a b : ℕ) → a ≤ b → (c : ℕ) × (b ≡ a + c)
over a b l = (b - a, omega arith)

module _ (N : Net) where
  mutual
    pub many_nodes : (t : Tree N) (p : Address) → length (nodes_at N p t) ≡ size N t
    many_nodes (open_leaf w) p = refl
    many_nodes (done w) p = refl
    many_nodes (split m ts) p = ap suc (many_from ts p 0)

    pub many_from : (ts : Trees N) (p : Address) (i : ℕ) → length (nodes_from N p i ts) ≡ sizes N ts
    many_from none p i = refl
    many_from (more t ts) p i = let a = length-append (nodes_at N (i ∷ p) t) (nodes_from N p (suc i) ts) in let b = many_nodes t (i ∷ p) in let c = many_from ts p (suc i) in omega arith

  mutual
    pub many_rows : (t : Tree N) (up : Option ℕ) (i k : ℕ) → length (rows_at N up i k t) ≡ size N t
    many_rows (open_leaf w) up i k = refl
    many_rows (done w) up i k = refl
    many_rows (split m ts) up i k = ap suc (many_rows_from ts k 0 (suc k))

    pub many_rows_from : (ts : Trees N) (up i k : ℕ) → length (rows_from N up i k ts) ≡ sizes N ts
    many_rows_from none up i k = refl
    many_rows_from (more t ts) up i k = let a = length-append (rows_at N (Some up) i k t) (rows_from N up (suc i) (k + size N t) ts) in let b = many_rows t (Some up) i k in let c = many_rows_from ts up (suc i) (k + size N t) in omega arith

  first_node : (t : Tree N) (p : Address) (zs : List Address) → slice_get (nodes_at N p t ++ zs) 0 ≡ Some p
  first_node (open_leaf w) p zs = refl
  first_node (done w) p zs = refl
  first_node (split m ts) p zs = refl

  first_of : (ts : Trees N) (p : Address) (i : ℕ) → 0 < sizes N ts → slice_get (nodes_from N p i ts) 0 ≡ Some (i ∷ p)
  first_of none p i l = absurd (omega arith)
  first_of (more t ts) p i l = first_node t (i ∷ p) (nodes_from N p (suc i) ts)

  module _ (tree : Tree N) where
    -- row j of a part whose first row is row k, and whose last is before stop
    record Local (k stop : ℕ) (nodes : List Address) (rows : List (Row N)) (j : ℕ) (r : Row N) (u : Address) : Type 0 where
      node : slice_get nodes j ≡ Some u
      label_is : label_at N tree u ≡ Some r.label
      later : k + j < r.end
      within : r.end ≤ stop
      extent : (t : Tree N) → at N tree u ≡ Some t → r.end ≡ k + j + size N t
      to : (y : ℕ) (v : Address) → slice_get nodes y ≡ Some v → IsAbove u v → (j ≤ y) × (k + y < r.end)
      from : (y : ℕ) (v : Address) → slice_get nodes y ≡ Some v → j ≤ y → k + y < r.end → IsAbove u v
      first : suc (k + j) < r.end → slice_get nodes (suc j) ≡ Some (0 ∷ u)

    -- its parent is in the part
    record Inner (k : ℕ) (nodes : List Address) (rows : List (Row N)) (j : ℕ) (r : Row N) (u : Address) : Type 0 where
      parent : ℕ
      above : Address
      earlier : parent < j
      is_above : slice_get nodes parent ≡ Some above
      is_parent : r.parent ≡ Some (k + parent)
      way : u ≡ r.number ∷ above
      next : (up : Row N) (e : ℕ) → slice_get rows parent ≡ Some up → r.end ≡ k + e → r.end < up.end → slice_get nodes e ≡ Some (suc r.number ∷ above)

    abbrev Root : Option ℕ → ℕ → ℕ → Address → ℕ → Row N → Address → Type 0
    Root up i stop p j r u = (j ≡ 0) × (r.parent ≡ up) × (r.number ≡ i) × (u ≡ p) × (r.end ≡ stop)

    -- a root among several
    record Top (up k stop : ℕ) (p : Address) (nodes : List Address) (r : Row N) (u : Address) : Type 0 where
      is_parent : r.parent ≡ Some up
      way : u ≡ r.number ∷ p
      next : (e : ℕ) → r.end ≡ k + e → r.end < stop → slice_get nodes e ≡ Some (suc r.number ∷ p)

    abbrev OfTree : Tree N → Address → Option ℕ → ℕ → ℕ → Type 0
    OfTree t p up i k = (j : ℕ) (r : Row N) → slice_get (rows_at N up i k t) j ≡ Some r
        → (u : Address) × Local k (k + size N t) (nodes_at N p t) (rows_at N up i k t) j r u × (Root up i (k + size N t) p j r u ⊎ Inner k (nodes_at N p t) (rows_at N up i k t) j r u)

    abbrev OfTrees : Trees N → Address → ℕ → ℕ → ℕ → Type 0
    OfTrees ts p up i k = (j : ℕ) (r : Row N) → slice_get (rows_from N up i k ts) j ≡ Some r
        → (u : Address) × Local k (k + sizes N ts) (nodes_from N p i ts) (rows_from N up i k ts) j r u × (Top up k (k + sizes N ts) p (nodes_from N p i ts) r u ⊎ Inner k (nodes_from N p i ts) (rows_from N up i k ts) j r u)

    only_root : (p : Address) (y : ℕ) (v : Address) → slice_get (p ∷ []) y ≡ Some v → (y ≡ 0) × (v ≡ p)
    only_root p zero v e = (refl, cc)
    only_root p (suc y) v e = absurd cc

    -- a tree of one node
    alone : (p : Address) (up : Option ℕ) (i k : ℕ) (l : Label N) → label_at N tree p ≡ Some l → ((t : Tree N) → at N tree p ≡ Some t → size N t ≡ 1) → (j : ℕ) (r : Row N) → slice_get (record { label = l; parent = up; number = i; end = suc k } ∷ []) j ≡ Some r
        → (u : Address) × Local k (k + 1) (p ∷ []) (record { label = l; parent = up; number = i; end = suc k } ∷ []) j r u × (Root up i (k + 1) p j r u ⊎ Inner k (p ∷ []) (record { label = l; parent = up; number = i; end = suc k } ∷ []) j r u)
    alone p up i k l e sz (suc j) r h = absurd cc
    alone p up i k l e sz zero r h = subst (λ (s : Row N). (u : Address) × Local k (k + 1) (p ∷ []) (record { label = l; parent = up; number = i; end = suc k } ∷ []) 0 s u × (Root up i (k + 1) p 0 s u ⊎ Inner k (p ∷ []) (record { label = l; parent = up; number = i; end = suc k } ∷ []) 0 s u))
        (let f : record { label = l; parent = up; number = i; end = suc k } ≡ r = cc in f) (
          p,
          record {
            node = refl;
            label_is = e;
            later = omega arith;
            within = omega arith;
            extent = λ t x. (let y = sz t x in omega arith);
            to = λ y v f a. (let x = (only_root p y v f).0 in (omega arith, omega arith));
            from = λ y v f a b. subst (IsAbove p) (sym (only_root p y v f).1) (below-itself p);
            first = λ x. absurd (omega arith);
          },
          inl (refl, refl, refl, refl, (let z : suc k ≡ k + 1 = omega arith in z)),
        )

    of_split : (m : N.Method) (ts : Trees N) (p : Address) (up : Option ℕ) (i k : ℕ) → at N tree p ≡ Some (split m ts) → OfTrees ts p k 0 (suc k) → OfTree (split m ts) p up i k
    of_split m ts p up i k e q zero r h = subst (λ (s : Row N). (u : Address) × Local k (k + suc (sizes N ts)) nodes rows 0 s u × (Root up i (k + suc (sizes N ts)) p 0 s u ⊎ Inner k nodes rows 0 s u))
        (let f : row ≡ r = cc in f) (
          p,
          record {
            node = refl;
            label_is = ap (option_map (label N)) e;
            later = omega arith;
            within = omega arith;
            extent = λ t x. (let y : split m ts ≡ t = cc in let z = ap (size N) y in omega arith);
            to = λ y v f a. (let l = get_within nodes y v f in let z = many_from ts p 0 in (omega arith, omega arith));
            from = below;
            first = λ l. first_of ts p 0 (omega arith);
          },
          inl (refl, refl, refl, refl, (let z : suc k + sizes N ts ≡ k + suc (sizes N ts) = omega arith in z)),
        )
      where
        nodes : List Address
        nodes = p ∷ nodes_from N p 0 ts

        row : Row N
        row = record { label = used m; parent = up; number = i; end = suc k + sizes N ts }

        rows : List (Row N)
        rows = row ∷ rows_from N k 0 (suc k) ts

        below : (y : ℕ) (v : Address) → slice_get nodes y ≡ Some v → 0 ≤ y → k + y < row.end → IsAbove p v
        below zero v f a b = subst (IsAbove p) (let g : p ≡ v = cc in g) (below-itself p)
        below (suc y) v f a b = let c = below_children N ts p 0 v (at_place (nodes_from N p 0 ts) y v f) in below_up c.0 p v c.2
    of_split m ts p up i k e q (suc j) r h = go (q j r h)
      where
        nodes : List Address
        nodes = nodes_from N p 0 ts

        rows : List (Row N)
        rows = rows_from N k 0 (suc k) ts

        row : Row N
        row = record { label = used m; parent = up; number = i; end = suc k + sizes N ts }

        go : (u : Address) × Local (suc k) (suc k + sizes N ts) nodes rows j r u × (Top k (suc k) (suc k + sizes N ts) p nodes r u ⊎ Inner (suc k) nodes rows j r u)
            → (u : Address) × Local k (k + suc (sizes N ts)) (p ∷ nodes) (row ∷ rows) (suc j) r u × (Root up i (k + suc (sizes N ts)) p (suc j) r u ⊎ Inner k (p ∷ nodes) (row ∷ rows) (suc j) r u)
        go (u, l, w) = (
          u,
          record {
            node = l.node;
            label_is = l.label_is;
            later = (let x = l.later in omega arith);
            within = (let x = l.within in omega arith);
            extent = λ t x. (let y = l.extent t x in omega arith);
            to = to;
            from = from;
            first = λ x. l.first (omega arith);
          },
          inr (way w),
        )
          where
            not_above : IsAbove u p → ⊥
            not_above a = let c = below_children N ts p 0 u (at_place nodes j u l.node) in not-below_parent c.0 p (below_below (c.0 ∷ p) u p c.2 a)

            to : (y : ℕ) (v : Address) → slice_get (p ∷ nodes) y ≡ Some v → IsAbove u v → (suc j ≤ y) × (k + y < r.end)
            to zero v f a = absurd (not_above (subst (IsAbove u) (let g : v ≡ p = cc in g) a))
            to (suc y) v f a = let x = l.to y v f a in let x0 = x.0 in let x1 = x.1 in (omega arith, omega arith)

            from : (y : ℕ) (v : Address) → slice_get (p ∷ nodes) y ≡ Some v → suc j ≤ y → k + y < r.end → IsAbove u v
            from zero v f a b = absurd (omega arith)
            from (suc y) v f a b = l.from y v f (omega arith) (omega arith)

            next_in : (q : Address) → ((e : ℕ) → r.end ≡ suc k + e → slice_get nodes e ≡ Some (suc r.number ∷ q)) → (e : ℕ) → r.end ≡ k + e → slice_get (p ∷ nodes) e ≡ Some (suc r.number ∷ q)
            next_in q f zero x = absurd (let y = l.later in omega arith)
            next_in q f (suc e) x = f e (omega arith)

            way : Top k (suc k) (suc k + sizes N ts) p nodes r u ⊎ Inner (suc k) nodes rows j r u → Inner k (p ∷ nodes) (row ∷ rows) (suc j) r u
            way (inl t) = record {
              parent = 0;
              above = p;
              earlier = omega arith;
              is_above = refl;
              is_parent = t.is_parent ∙ ap Some (let z : k ≡ k + 0 = omega arith in z);
              way = t.way;
              next = λ (top : Row N) e is x below. next_in p (λ d y. t.next d y (let z : row.end ≡ top.end = ap (λ (o : Row N). o.end) (let o : row ≡ top = cc in o) in omega arith)) e x;
            }
            way (inr t) = record {
              parent = suc t.parent;
              above = t.above;
              earlier = (let z = t.earlier in omega arith);
              is_above = t.is_above;
              is_parent = t.is_parent ∙ ap Some (let z : suc k + t.parent ≡ k + suc t.parent = omega arith in z);
              way = t.way;
              next = λ (top : Row N) e is x below. next_in t.above (λ d y. t.next top d is y below) e x;
            }

    -- a first tree, and more behind it
    module _ (t : Tree N) (ts : Trees N) (p : Address) (up i k : ℕ) where
      abbrev xs : List (Row N)
      xs = rows_at N (Some up) i k t

      abbrev ys : List (Row N)
      ys = rows_from N up (suc i) (k + size N t) ts

      abbrev us : List Address
      us = nodes_at N (i ∷ p) t

      abbrev vs : List Address
      vs = nodes_from N p (suc i) ts

      abbrev stop : ℕ
      stop = k + (size N t + sizes N ts)

      -- nodes of the two parts aren't below one another
      apart : (x y : ℕ) (u v : Address) → slice_get us x ≡ Some u → slice_get vs y ≡ Some v → (w : Address) → IsAbove u w → IsAbove v w → ⊥
      apart x y u v e f w a b =
          let d = below_children N ts p (suc i) v (at_place vs y v f) in
          let g = same_sibling i d.0 p w (below_below (i ∷ p) u w (below_nodes N t (i ∷ p) u (at_place us x u e)) a) (below_below (d.0 ∷ p) v w d.2 b) in
          let l = d.1 in
          omega arith

      right_node : (x : ℕ) → slice_get (us ++ vs) (size N t + x) ≡ slice_get vs x
      right_node x = ap (λ z. slice_get (us ++ vs) (z + x)) (sym (many_nodes t (i ∷ p))) ∙ get_right us vs x

      node_cases : (y : ℕ) (v : Address) → slice_get (us ++ vs) y ≡ Some v → ((y < size N t) × (slice_get us y ≡ Some v)) ⊎ ((x : ℕ) × (y ≡ size N t + x) × (slice_get vs x ≡ Some v))
      node_cases y v e = elim (get_cases us vs y v e) [ inl h ↦ inl ((let a = h.0 in let b = many_nodes t (i ∷ p) in omega arith), h.1) | inr h ↦ inr (h.0, (let a = h.1 in let b = many_nodes t (i ∷ p) in omega arith), h.2) ]

      row_cases : (y : ℕ) (r : Row N) → slice_get (xs ++ ys) y ≡ Some r → ((y < size N t) × (slice_get xs y ≡ Some r)) ⊎ ((x : ℕ) × (y ≡ size N t + x) × (slice_get ys x ≡ Some r))
      row_cases y r e = elim (get_cases xs ys y r e) [ inl h ↦ inl ((let a = h.0 in let b = many_rows t (Some up) i k in omega arith), h.1) | inr h ↦ inr (h.0, (let a = h.1 in let b = many_rows t (Some up) i k in omega arith), h.2) ]

      abbrev Answer : ℕ → Row N → Type 0
      Answer j r = (u : Address) × Local k stop (us ++ vs) (xs ++ ys) j r u × (Top up k stop p (us ++ vs) r u ⊎ Inner k (us ++ vs) (xs ++ ys) j r u)

      in_first : (j : ℕ) (r : Row N) → j < size N t → (u : Address) × Local k (k + size N t) us xs j r u × (Root (Some up) i (k + size N t) (i ∷ p) j r u ⊎ Inner k us xs j r u) → Answer j r
      in_first j r small (u, l, w) = (
        u,
        record {
          node = get_left us vs j u l.node;
          label_is = l.label_is;
          later = l.later;
          within = (let x = l.within in omega arith);
          extent = λ t x. (let y = l.extent t x in omega arith);
          to = λ y v f a. to y v a (node_cases y v f);
          from = λ y v f b c. from y v b c (node_cases y v f);
          first = λ x. get_left us vs (suc j) (0 ∷ u) (l.first x);
        },
        way w,
      )
        where
          to : (y : ℕ) (v : Address) → IsAbove u v → ((y < size N t) × (slice_get us y ≡ Some v)) ⊎ ((x : ℕ) × (y ≡ size N t + x) × (slice_get vs x ≡ Some v)) → (j ≤ y) × (k + y < r.end)
          to y v a (inl h) = l.to y v h.1 a
          to y v a (inr (x, e, f)) = absurd (apart j x u v l.node f v a (below-itself v))

          from : (y : ℕ) (v : Address) → j ≤ y → k + y < r.end → ((y < size N t) × (slice_get us y ≡ Some v)) ⊎ ((x : ℕ) × (y ≡ size N t + x) × (slice_get vs x ≡ Some v)) → IsAbove u v
          from y v b c (inl h) = l.from y v h.1 b c
          from y v b c (inr (x, e, f)) = absurd (let z = l.within in omega arith)

          way : Root (Some up) i (k + size N t) (i ∷ p) j r u ⊎ Inner k us xs j r u → Top up k stop p (us ++ vs) r u ⊎ Inner k (us ++ vs) (xs ++ ys) j r u
          way (inl (z, e, n, f, d)) = inl (record {
            is_parent = e;
            way = f ∙ ap (λ x. x ∷ p) (sym n);
            next = λ y g m. ap (slice_get (us ++ vs)) (let x : y ≡ size N t + 0 = omega arith in x) ∙ right_node 0 ∙ first_of ts p (suc i) (omega arith) ∙ ap (λ x. Some (suc x ∷ p)) (sym n);
          })
          way (inr t') = inr (record {
            parent = t'.parent;
            above = t'.above;
            earlier = t'.earlier;
            is_above = get_left us vs t'.parent t'.above t'.is_above;
            is_parent = t'.is_parent;
            way = t'.way;
            next = λ (top : Row N) e is x below. inside top e x below (row_cases t'.parent top is);
          })
            where
              inside : (top : Row N) (e : ℕ) → r.end ≡ k + e → r.end < top.end → ((t'.parent < size N t) × (slice_get xs t'.parent ≡ Some top)) ⊎ ((x : ℕ) × (t'.parent ≡ size N t + x) × (slice_get ys x ≡ Some top)) → slice_get (us ++ vs) e ≡ Some (suc r.number ∷ t'.above)
              inside top e x below (inl h) = get_left us vs e (suc r.number ∷ t'.above) (t'.next top e h.1 x below)
              inside top e x below (inr h) = absurd (let a = h.1 in let c = t'.earlier in omega arith)

      in_rest : (j : ℕ) (r : Row N) → (u : Address) × Local (k + size N t) (k + size N t + sizes N ts) vs ys j r u × (Top up (k + size N t) (k + size N t + sizes N ts) p vs r u ⊎ Inner (k + size N t) vs ys j r u) → Answer (size N t + j) r
      in_rest j r (u, l, w) = (
        u,
        record {
          node = right_node j ∙ l.node;
          label_is = l.label_is;
          later = (let x = l.later in omega arith);
          within = (let x = l.within in omega arith);
          extent = λ t x. (let y = l.extent t x in omega arith);
          to = λ y v f a. to y v a (node_cases y v f);
          from = λ y v f b c. from y v b c (node_cases y v f);
          first = λ x. ap (slice_get (us ++ vs)) (let z : suc (size N t + j) ≡ size N t + suc j = omega arith in z) ∙ right_node (suc j) ∙ l.first (omega arith);
        },
        way w,
      )
        where
          to : (y : ℕ) (v : Address) → IsAbove u v → ((y < size N t) × (slice_get us y ≡ Some v)) ⊎ ((x : ℕ) × (y ≡ size N t + x) × (slice_get vs x ≡ Some v)) → (size N t + j ≤ y) × (k + y < r.end)
          to y v a (inl h) = absurd (apart y j v u h.1 l.node v (below-itself v) a)
          to y v a (inr (x, e, f)) = let z = l.to x v f a in let z0 = z.0 in let z1 = z.1 in (omega arith, omega arith)

          from : (y : ℕ) (v : Address) → size N t + j ≤ y → k + y < r.end → ((y < size N t) × (slice_get us y ≡ Some v)) ⊎ ((x : ℕ) × (y ≡ size N t + x) × (slice_get vs x ≡ Some v)) → IsAbove u v
          from y v b c (inl h) = absurd (let z = h.0 in omega arith)
          from y v b c (inr (x, e, f)) = l.from x v f (omega arith) (omega arith)

          next_in : (q : Address) → ((e : ℕ) → r.end ≡ k + size N t + e → slice_get vs e ≡ Some (suc r.number ∷ q)) → (e : ℕ) → r.end ≡ k + e → slice_get (us ++ vs) e ≡ Some (suc r.number ∷ q)
          next_in q f e x =
              let later = l.later in
              let (d, g) = over (size N t) e (omega arith) in
              ap (slice_get (us ++ vs)) g ∙ right_node d ∙ f d (omega arith)

          way : Top up (k + size N t) (k + size N t + sizes N ts) p vs r u ⊎ Inner (k + size N t) vs ys j r u → Top up k stop p (us ++ vs) r u ⊎ Inner k (us ++ vs) (xs ++ ys) (size N t + j) r u
          way (inl t') = inl (record {
            is_parent = t'.is_parent;
            way = t'.way;
            next = λ e x m. next_in p (λ d y. t'.next d y (omega arith)) e x;
          })
          way (inr t') = inr (record {
            parent = size N t + t'.parent;
            above = t'.above;
            earlier = (let z = t'.earlier in omega arith);
            is_above = right_node t'.parent ∙ t'.is_above;
            is_parent = t'.is_parent ∙ ap Some (let z : k + size N t + t'.parent ≡ k + (size N t + t'.parent) = omega arith in z);
            way = t'.way;
            next = λ (top : Row N) e is x below. next_in t'.above (λ d y. t'.next top d (there top is) y below) e x;
          })
            where
              there : (top : Row N) → slice_get (xs ++ ys) (size N t + t'.parent) ≡ Some top → slice_get ys t'.parent ≡ Some top
              there top is = sym (ap (λ z. slice_get (xs ++ ys) (z + t'.parent)) (sym (many_rows t (Some up) i k)) ∙ get_right xs ys t'.parent) ∙ is

      of_more : OfTree t (i ∷ p) (Some up) i k → OfTrees ts p up (suc i) (k + size N t) → OfTrees (more t ts) p up i k
      of_more a c j r h = elim (row_cases j r h) [
        | inl x ↦ in_first j r x.0 (a j r x.1)
        | inr (d, e, f) ↦ subst (λ z. Answer z r) (sym e) (in_rest d r (c d r f))
      ]

    mutual
      of_tree : (t : Tree N) (p : Address) (up : Option ℕ) (i k : ℕ) → at N tree p ≡ Some t → OfTree t p up i k
      of_tree (open_leaf w) p up i k e = alone p up i k (waits w) (ap (option_map (label N)) e) (λ t x. (let y : open_leaf w ≡ t = cc in ap (size N) (sym y)))
      of_tree (done w) p up i k e = alone p up i k (ran w) (ap (option_map (label N)) e) (λ t x. (let y : done w ≡ t = cc in ap (size N) (sym y)))
      of_tree (split m ts) p up i k e = of_split m ts p up i k e (of_trees ts p k 0 (suc k) (λ j. subst (λ z. at N tree (z ∷ p) ≡ child_at N ts j) (let x : j ≡ 0 + j = omega arith in x) (child_below N tree j p m ts e)))

      of_trees : (ts : Trees N) (p : Address) (up i k : ℕ) → ((j : ℕ) → at N tree ((i + j) ∷ p) ≡ child_at N ts j) → OfTrees ts p up i k
      of_trees none p up i k e = λ j r h. absurd cc
      of_trees (more t ts) p up i k e = of_more t ts p up i k
          (of_tree t (i ∷ p) (Some up) i k (subst (λ z. at N tree (z ∷ p) ≡ Some t) (let x : i + 0 ≡ i = omega arith in x) (e 0)))
          (of_trees ts p up (suc i) (k + size N t) (λ j. subst (λ z. at N tree (z ∷ p) ≡ child_at N ts j) (let x : i + suc j ≡ suc i + j = omega arith in x) (e (suc j))))

    told : (k : ℕ) (r : Row N) → slice_get (table N tree) k ≡ Some r → (p : Address) × (slice_get (preorder N tree) k ≡ Some p) × IsRow N tree k r p
    told k r h = go (of_tree tree [] None 0 0 (let x : at N tree [] ≡ Some tree = refl in x) k r h)
      where
        go : (u : Address) × Local 0 (0 + size N tree) (preorder N tree) (table N tree) k r u × (Root None 0 (0 + size N tree) [] k r u ⊎ Inner 0 (preorder N tree) (table N tree) k r u)
            → (p : Address) × (slice_get (preorder N tree) k ≡ Some p) × IsRow N tree k r p
        go (u, l, w) = (
          u,
          l.node,
          record {
            label = l.label_is;
            way = way w;
            later = (let x = l.later in omega arith);
            within = (let x = l.within in let y = many_rows tree None 0 0 in omega arith);
            extent = λ t x. (let y = l.extent t x in omega arith);
            subtree = λ y v f. ((λ a. (let x = l.to y v f a in let x1 = x.1 in (x.0, omega arith))), (λ b. (let b1 = b.1 in l.from y v f b.0 (omega arith))));
            first = λ x. l.first (omega arith);
            next = λ x (top : Row N) q e f g m. next w x top q e f g m;
          },
        )
          where
            way : Root None 0 (0 + size N tree) [] k r u ⊎ Inner 0 (preorder N tree) (table N tree) k r u → IsWay N tree k r u
            way (inl (z, e, n, f, d)) = subst (IsWay N tree k r) (sym f) (z, e, n)
            way (inr t) = subst (IsWay N tree k r) (sym t.way) (refl, (t.parent, t.earlier, t.is_parent ∙ ap Some (let z : 0 + t.parent ≡ t.parent = omega arith in z), t.is_above))

            next : Root None 0 (0 + size N tree) [] k r u ⊎ Inner 0 (preorder N tree) (table N tree) k r u → (x : ℕ) (top : Row N) (q : Address) → r.parent ≡ Some x → slice_get (table N tree) x ≡ Some top → slice_get (preorder N tree) x ≡ Some q → r.end < top.end
                → slice_get (preorder N tree) r.end ≡ Some (suc r.number ∷ q)
            next (inl (z, e, n, f, d)) x top q a b c m = absurd cc
            next (inr t) x top q a b c m =
                let y : x ≡ t.parent = (let g = t.is_parent in let h : x ≡ 0 + t.parent = cc in omega arith) in
                let g : slice_get (preorder N tree) t.parent ≡ Some q = subst (λ z. slice_get (preorder N tree) z ≡ Some q) y c in
                let o : t.above ≡ q = (let h = t.is_above in cc) in
                t.next top r.end (subst (λ z. slice_get (table N tree) z ≡ Some top) y b) (omega arith) m ∙ ap (λ z. Some (suc r.number ∷ z)) o

  pub tables_tell_trees : TablesTellTrees N
  tables_tell_trees tree = record { rows = many_rows tree None 0 0; nodes = many_nodes tree []; places = λ p a. place_of (preorder N tree) p (lists_address N tree p a); once = different_nodes N tree []; each = told tree }
