-- Joined growths have a tree.
use Rattle.std.proofs.Common.{ℕ, zero, suc, ◌≡◌, ◌+◌, ◌<◌, ◌≤◌, ◌⊎◌, inl, inr, List, [], ◌∷◌, ◌++◌, length, Option, Some, None, option_map, slice_get, refl, ap, sym, subst, ◌∙◌, Contains, length-append, arith}
use Rattle.std.proofs.Math.Decide.{ℕ_discrete}
use Rattle.plan_model.specs.task_networks.Net.{Net}
use Rattle.plan_model.specs.task_networks.Tree.{Tree, Trees, open_leaf, done, split, none, more, Label, waits, ran, used, Address, at, child_at, label}
use Rattle.plan_model.proofs.task_networks.Nodes.{parent, child_below}
use Rattle.tree_core.specs.Growths.{Growth, IsUnder, IsTreeOf, AreJoined}
use Rattle.tree_core.proofs.Gets.{get_left, get_cases, get_within, get_some, at_place, are_different}

module _ (N : Net) where
  bare : Label N → Tree N
  bare (waits w) = open_leaf w
  bare (ran w) = done w
  bare (used m) = split m none

  grown : Label N → Trees N → Tree N
  grown (waits w) ts = open_leaf w
  grown (ran w) ts = done w
  grown (used m) ts = split m ts

  label-bare : (l : Label N) → label N (bare l) ≡ l
  unfolding bare
  label-bare (waits w) = refl
  label-bare (ran w) = refl
  label-bare (used m) = refl

  label-grown : (l : Label N) (ts : Trees N) → label N (grown l ts) ≡ l
  unfolding grown
  label-grown (waits w) ts = refl
  label-grown (ran w) ts = refl
  label-grown (used m) ts = refl

  only_split : (l : Label N) (ts us : Trees N) (m : N.Method) → split m ts ≡ grown l us → ts ≡ us
  unfolding grown
  only_split (waits w) ts us m e = absurd cc
  only_split (ran w) ts us m e = absurd cc
  only_split (used n) ts us m e = cc

  total : List (Growth N) → ℕ
  total [] = 0
  total (g ∷ gs) = g.child + total gs

  within_total : (gs : List (Growth N)) (k : ℕ) (g : Growth N) → slice_get gs k ≡ Some g → g.child ≤ total gs
  unfolding total
  within_total [] k g e = absurd cc
  within_total (h ∷ gs) zero g e = let f : h.child ≡ g.child = ap (λ (z : Growth N). z.child) (let x : h ≡ g = cc in x) in omega arith
  within_total (h ∷ gs) (suc k) g e = let r = within_total gs k g e in omega arith

  get_or_first : List (Growth N) → ℕ → Growth N → Growth N
  get_or_first [] k d = d
  get_or_first (g ∷ gs) zero d = g
  get_or_first (g ∷ gs) (suc k) d = get_or_first gs k d

  get_found : (gs : List (Growth N)) (k : ℕ) (d g : Growth N) → slice_get gs k ≡ Some g → get_or_first gs k d ≡ g
  unfolding get_or_first
  get_found [] k d g e = absurd cc
  get_found (h ∷ gs) zero d g e = cc
  get_found (h ∷ gs) (suc k) d g e = get_found gs k d g e

  -- a search by place
  search : (gs : List (Growth N)) (P : Growth N → Type 0) → ((g : Growth N) → Dec (P g)) → Dec ((l : ℕ) × (g : Growth N) × (slice_get gs l ≡ Some g) × P g)
  search [] P d = no (λ h. let x = h.2 in cc)
  search (g ∷ gs) P d = go (d g) (search gs P d)
    where
      go : Dec (P g) → Dec ((l : ℕ) × (h : Growth N) × (slice_get gs l ≡ Some h) × P h) → Dec ((l : ℕ) × (h : Growth N) × (slice_get (g ∷ gs) l ≡ Some h) × P h)
      go (yes p) e = yes (0, g, refl, p)
      go (no n) (yes h) = yes (suc h.0, h.1, h.2, h.3)
      go (no n) (no m) = no (λ h. cases h.0 h.1 h.2 h.3)
        where
          cases : (l : ℕ) (h : Growth N) → slice_get (g ∷ gs) l ≡ Some h → P h → ⊥
          cases zero h e p = n (subst P (let x : h ≡ g = cc in x) p)
          cases (suc l) h e p = m (l, h, e, p)

  is_some : (o : Option ℕ) (x : ℕ) → Dec (o ≡ Some x)
  is_some None x = no (λ e. cc)
  is_some (Some y) x = elim (ℕ_discrete y x) [ yes e ↦ yes (ap Some e) | no n ↦ no (λ e. n cc) ]

  module _ (gs : List (Growth N)) (j : AreJoined N gs) where
    abbrev ChildAt : ℕ → ℕ → Type 0
    ChildAt x i = (l : ℕ) × (h : Growth N) × (slice_get gs l ≡ Some h) × ((h.parent ≡ Some x) × (h.child ≡ i))

    is_child : (x i : ℕ) → Dec (ChildAt x i)
    is_child x i = search gs (λ h. (h.parent ≡ Some x) × (h.child ≡ i)) (λ (h : Growth N). both (is_some h.parent x) (ℕ_discrete h.child i))
      where
        both : {A B : Type 0} → Dec A → Dec B → Dec (A × B)
        both (yes a) (yes c) = yes (a, c)
        both (yes a) (no n) = no (λ h. n h.1)
        both (no n) d = no (λ h. n h.0)

    first_kid : (x i : ℕ) → Dec (ChildAt x i) → (ℕ → Tree N) → Trees N → Trees N
    first_kid x i (yes h) f ts = more (f h.0) ts
    first_kid x i (no n) f ts = none

    kids : (ℕ → Tree N) → ℕ → ℕ → ℕ → Trees N
    kids f x zero i = none
    kids f x (suc n) i = first_kid x i (is_child x i) f (kids f x n (suc i))

    look : ℕ → Growth N
    look k = get_or_first gs k j.some.0

    looked : (k : ℕ) (g : Growth N) → slice_get gs k ≡ Some g → look k ≡ g
    unfolding look
    looked k g e = get_found gs k j.some.0 g e

    wide : ℕ
    wide = suc (total gs)

    build : ℕ → ℕ → Tree N
    build zero x = bare (look x).label
    build (suc d) x = grown (look x).label (kids (build d) x wide 0)

    label-build : (d x : ℕ) (g : Growth N) → slice_get gs x ≡ Some g → label N (build d x) ≡ g.label
    unfolding build
    label-build zero x g e = label-bare (look x).label ∙ ap (λ (z : Growth N). z.label) (looked x g e)
    label-build (suc d) x g e = label-grown (look x).label (kids (build d) x wide 0) ∙ ap (λ (z : Growth N). z.label) (looked x g e)

    -- the children of the built tree
    kid_there : (f : ℕ → Tree N) (x n i c : ℕ) → ((y : ℕ) → i ≤ y → y ≤ i + c → ChildAt x y) → c < n → (l : ℕ) × (h : Growth N) × (slice_get gs l ≡ Some h) × ((h.parent ≡ Some x) × (h.child ≡ i + c)) × (child_at N (kids f x n i) c ≡ Some (f l))
    unfolding kids first_kid
    kid_there f x zero i c all l = absurd (omega arith)
    kid_there f x (suc n) i c all l = go (λ c a l. kid_there f x n (suc i) c a l) c (is_child x i) all l
      where
        go : ((c : ℕ) → ((y : ℕ) → suc i ≤ y → y ≤ suc i + c → ChildAt x y) → c < n → (l : ℕ) × (h : Growth N) × (slice_get gs l ≡ Some h) × ((h.parent ≡ Some x) × (h.child ≡ suc i + c)) × (child_at N (kids f x n (suc i)) c ≡ Some (f l))) → (c : ℕ) (d : Dec (ChildAt x i)) → ((y : ℕ) → i ≤ y → y ≤ i + c → ChildAt x y) → c < suc n → (l : ℕ) × (h : Growth N) × (slice_get gs l ≡ Some h) × ((h.parent ≡ Some x) × (h.child ≡ i + c)) × (child_at N (first_kid x i d f (kids f x n (suc i))) c ≡ Some (f l))
        go on c (no m) all l = absurd (m (all i (omega arith) (omega arith)))
        go on zero (yes h) all l = (h.0, h.1, h.2, (h.3.0, (let e = h.3.1 in omega arith)), refl)
        go on (suc c) (yes h) all l =
            let (k, g, e, a, r) = on c (λ y p q. all y (omega arith) (omega arith)) (omega arith) in
            (k, g, e, (a.0, (let z = a.1 in omega arith)), r)

    kid_back : (f : ℕ → Tree N) (x n i c : ℕ) (t : Tree N) → child_at N (kids f x n i) c ≡ Some t → (l : ℕ) × (h : Growth N) × (slice_get gs l ≡ Some h) × ((h.parent ≡ Some x) × (h.child ≡ i + c)) × (t ≡ f l)
    unfolding kids first_kid
    kid_back f x zero i c t e = absurd cc
    kid_back f x (suc n) i c t e = go (λ c e. kid_back f x n (suc i) c t e) c (is_child x i) e
      where
        go : ((c : ℕ) → child_at N (kids f x n (suc i)) c ≡ Some t → (l : ℕ) × (h : Growth N) × (slice_get gs l ≡ Some h) × ((h.parent ≡ Some x) × (h.child ≡ suc i + c)) × (t ≡ f l)) → (c : ℕ) (d : Dec (ChildAt x i)) → child_at N (first_kid x i d f (kids f x n (suc i))) c ≡ Some t → (l : ℕ) × (h : Growth N) × (slice_get gs l ≡ Some h) × ((h.parent ≡ Some x) × (h.child ≡ i + c)) × (t ≡ f l)
        go on c (no m) e = absurd cc
        go on zero (yes h) e = (h.0, h.1, h.2, (h.3.0, (let z = h.3.1 in omega arith)), cc)
        go on (suc c) (yes h) e = let (k, g, r, a, s) = on c e in (k, g, r, (a.0, (let z = a.1 in omega arith)), s)

    -- no child number is left out
    downto : (x y : ℕ) → ChildAt x y → (z : ℕ) → z ≤ y → ChildAt x z
    downto x zero h z l = subst (ChildAt x) (let e : 0 ≡ z = omega arith in e) h
    downto x (suc y) h z l = elim (ℕ_discrete z (suc y)) [
      | yes e ↦ subst (ChildAt x) (sym e) h
      | no n ↦ (let r = j.none_left_out h.0 x y h.1 h.2 h.3.0 h.3.1 in downto x y (r.0, r.1, r.2, (r.3, r.4)) z (omega arith))
    ]

    -- the addresses of the first growths
    abbrev Ways : ℕ → Type 0
    Ways n = (order : List Address) × (length order ≡ n) × ((k : ℕ) (g : Growth N) (p : Address) → slice_get gs k ≡ Some g → slice_get order k ≡ Some p → IsUnder N order k g.parent g.child p)

    longer : (order : List Address) (p : Address) (k : ℕ) (o : Option ℕ) (i : ℕ) (q : Address) → IsUnder N order k o i q → IsUnder N (order ++ p ∷ []) k o i q
    longer order p k None i q x = x
    longer order p k (Some y) i q (m, (v, e, f)) = (m, (v, get_left order (p ∷ []) y v e, f))

    place_new : (n : ℕ) (g : Growth N) → slice_get gs n ≡ Some g → (order : List Address) → length order ≡ n → (p : Address) × IsUnder N order n g.parent g.child p
    place_new zero g e order l = ([], subst (λ z. IsUnder N order 0 z g.child []) (sym (j.first g e)) refl)
    place_new (suc n) g e order l =
        let (x, f, m) = j.later n g e in
        let (q, h) = get_some order x (omega arith) in
        (g.child ∷ q, subst (λ z. IsUnder N order (suc n) z g.child (g.child ∷ q)) (sym f) (omega arith, (q, h, refl)))

    ways : (n : ℕ) → n ≤ length gs → Ways n
    ways zero l = ([], refl, λ k g p e f. absurd cc)
    ways (suc n) l = step (ways n (omega arith))
      where
        step : Ways n → Ways (suc n)
        step (order, len, under) =
            let (g, e) = get_some gs n (omega arith) in
            let (p, u) = place_new n g e order len in
            (order ++ p ∷ [], (let x = length-append order (p ∷ []) in omega arith), λ k (h : Growth N) q r s. go g e p u k h q r (get_cases order (p ∷ []) k q s))
          where
            go : (g : Growth N) → slice_get gs n ≡ Some g → (p : Address) → IsUnder N order n g.parent g.child p → (k : ℕ) (h : Growth N) (q : Address) → slice_get gs k ≡ Some h → ((k < length order) × (slice_get order k ≡ Some q)) ⊎ ((y : ℕ) × (k ≡ length order + y) × (slice_get (p ∷ []) y ≡ Some q)) → IsUnder N (order ++ p ∷ []) k h.parent h.child q
            go g e p u k h q r (inl x) = longer order p k h.parent h.child q (under k h q r x.1)
            go g e p u k h q r (inr (suc y, x, s)) = absurd cc
            go g e p u k h q r (inr (zero, x, s)) =
                let z : n ≡ k = omega arith in
                let a : g ≡ h = (let b : slice_get gs k ≡ Some g = subst (λ v. slice_get gs v ≡ Some g) z e in cc) in
                let c : p ≡ q = cc in
                longer order p k h.parent h.child q (subst (λ (v : Growth N). IsUnder N order k v.parent v.child q) a (subst (λ v. IsUnder N order k g.parent g.child v) c (subst (λ v. IsUnder N order v g.parent g.child p) z u)))

    module _ (order : List Address) (len : length order ≡ length gs) (under : (k : ℕ) (g : Growth N) (p : Address) → slice_get gs k ≡ Some g → slice_get order k ≡ Some p → IsUnder N order k g.parent g.child p) where
      abbrev tree : Tree N
      tree = build (length gs) 0

      growth_here : (k : ℕ) (p : Address) → slice_get order k ≡ Some p → (g : Growth N) × (slice_get gs k ≡ Some g)
      growth_here k p e = get_some gs k (let l = get_within order k p e in omega arith)

      node_here : (k : ℕ) (g : Growth N) → slice_get gs k ≡ Some g → (p : Address) × (slice_get order k ≡ Some p)
      node_here k g e = get_some order k (let l = get_within gs k g e in omega arith)

      -- a growth without a parent is the first
      no_parent : (k : ℕ) (g : Growth N) → slice_get gs k ≡ Some g → g.parent ≡ None → k ≡ 0
      no_parent zero g e f = refl
      no_parent (suc k) g e f = let (x, h, l) = j.later k g e in absurd cc

      earlier_parent : (l x : ℕ) (h : Growth N) → slice_get gs l ≡ Some h → h.parent ≡ Some x → x < l
      earlier_parent zero x h e f = let z = j.first h e in absurd cc
      earlier_parent (suc l) x h e f = let (y, g, m) = j.later l h e in let z : y ≡ x = cc in omega arith

      under_parent : (k x : ℕ) (g : Growth N) (p : Address) → slice_get gs k ≡ Some g → slice_get order k ≡ Some p → g.parent ≡ Some x → (q : Address) × (slice_get order x ≡ Some q) × (p ≡ g.child ∷ q)
      under_parent k x g p e f h = let u : IsUnder N order k (Some x) g.child p = subst (λ z. IsUnder N order k z g.child p) h (under k g p e f) in (u.1.0, u.1.1, u.1.2)

      -- the growth of a node, by its parent
      by_parent : (k : ℕ) (g : Growth N) (p : Address) → slice_get gs k ≡ Some g → slice_get order k ≡ Some p → ((g.parent ≡ None) × (p ≡ [])) ⊎ ((x : ℕ) × (q : Address) × (g.parent ≡ Some x) × (slice_get order x ≡ Some q) × (p ≡ g.child ∷ q))
      by_parent k g p e f = go g.parent refl
        where
          go : (o : Option ℕ) → g.parent ≡ o → ((g.parent ≡ None) × (p ≡ [])) ⊎ ((x : ℕ) × (q : Address) × (g.parent ≡ Some x) × (slice_get order x ≡ Some q) × (p ≡ g.child ∷ q))
          go None h = inl (h, (let u : IsUnder N order k None g.child p = subst (λ z. IsUnder N order k z g.child p) h (under k g p e f) in u))
          go (Some x) h = let (q, a, c) = under_parent k x g p e f h in inr (x, q, h, a, c)

      abbrev Stands : ℕ → Address → Tree N → Type 0
      Stands k p t = (g : Growth N) × (d : ℕ) × (slice_get gs k ≡ Some g) × (length gs ≤ k + d) × (slice_get order k ≡ Some p) × (t ≡ build d k)

      -- each node of the tree is a growth
      all_nodes : (p : Address) (t : Tree N) → at N tree p ≡ Some t → (k : ℕ) × Stands k p t
      unfolding build
      all_nodes [] t e =
          let (g, f) = j.some in
          let (q, h) = node_here 0 g f in
          (0, (g, length gs, f, omega arith, elim (by_parent 0 g q f h) [ inl x ↦ h ∙ ap Some x.1 | inr x ↦ absurd (let z = j.first g f in let y = x.2 in cc) ], (let z : t ≡ tree = cc in z)))
      all_nodes (i ∷ q) t e = let (m, ts, f, c) = parent N tree i q t e in let (k, s) = all_nodes q (split m ts) f in go m ts c k s
        where
          go : (m : N.Method) (ts : Trees N) → child_at N ts i ≡ Some t → (k : ℕ) → Stands k q (split m ts) → (l : ℕ) × Stands l (i ∷ q) t
          go m ts c k (g, zero, a, l, o, h) = absurd (let x = get_within gs k g a in omega arith)
          go m ts c k (g, suc d, a, l, o, h) =
              let z : ts ≡ kids (build d) k wide 0 = only_split (look k).label ts (kids (build d) k wide 0) m h in
              let (n, r, s, w, v) = kid_back (build d) k wide 0 i t (subst (λ us. child_at N us i ≡ Some t) z c) in
              let (p, f) = node_here n r s in
              let (u, x, y) = under_parent n k r p s f w.0 in
              let less = earlier_parent n k r s w.0 in
              let b : p ≡ i ∷ q = y ∙ (λ t. (let z : r.child ≡ i = (let w1 = w.1 in omega arith) in z) t ∷ (let z : u ≡ q = cc in z) t) in
              (n, (r, d, s, omega arith, f ∙ ap Some b, v))

      -- and each growth stands in it
      each_growth : (n k : ℕ) → k < n → (g : Growth N) (p : Address) → slice_get gs k ≡ Some g → slice_get order k ≡ Some p → (d : ℕ) × (length gs ≤ k + d) × (at N tree p ≡ Some (build d k))
      unfolding build grown wide
      each_growth zero k l g p e f = absurd (omega arith)
      each_growth (suc n) k l g p e f = elim (by_parent k g p e f) [
        | inl (a, c) ↦ (let z = no_parent k g e a in (length gs, omega arith, ap (at N tree) c ∙ ap (λ v. Some (build (length gs) v)) (sym z)))
        | inr (x, q, a, o, c) ↦ (let m = earlier_parent k x g e a in let (r, s) = growth_here x q o in below x q r a o c s (each_growth n x (omega arith) r q s o))
      ]
        where
          below : (x : ℕ) (q : Address) (r : Growth N) → g.parent ≡ Some x → slice_get order x ≡ Some q → p ≡ g.child ∷ q → slice_get gs x ≡ Some r → (d : ℕ) × (length gs ≤ x + d) × (at N tree q ≡ Some (build d x)) → (d : ℕ) × (length gs ≤ k + d) × (at N tree p ≡ Some (build d k))
          below x q r a o c s (zero, y, z) = absurd (let w = get_within gs x r s in omega arith)
          below x q r a o c s (suc d, y, z) =
              let (m, u) = j.decomposed k x g r e a s in
              let lab : (look x).label ≡ used m = ap (λ (v : Growth N). v.label) (looked x r s) ∙ u in
              let whole : at N tree q ≡ Some (split m (kids (build d) x wide 0)) = z ∙ ap (λ v. Some (grown v (kids (build d) x wide 0))) lab in
              let (l', h, s', w, v) = kid_there (build d) x wide 0 g.child (λ y b t. downto x g.child (k, g, e, (a, refl)) y (omega arith)) (there (within_total gs k g e)) in
              let same : l' ≡ k = j.once l' k x h g s' e w.0 a (let w1 = w.1 in omega arith) in
              let less = earlier_parent k x g e a in
              (d, omega arith, ap (at N tree) c ∙ child_below N tree g.child q m (kids (build d) x wide 0) whole ∙ v ∙ ap (λ b. Some (build d b)) same)
            where
              there : g.child ≤ total gs → g.child < wide
              there h = omega arith

      one_node : (p : Address) (k l : ℕ) → slice_get order k ≡ Some p → slice_get order l ≡ Some p → k ≡ l
      one_node [] k l e f =
          let z = root_first k e in
          let w = root_first l f in
          omega arith
        where
          root_first : (k : ℕ) → slice_get order k ≡ Some [] → k ≡ 0
          root_first k e = let (g, a) = growth_here k [] e in elim (by_parent k g [] a e) [ inl x ↦ no_parent k g a x.0 | inr x ↦ absurd (let y = x.4 in cc) ]
      one_node (i ∷ q) k l e f = go (growth_here k (i ∷ q) e) (growth_here l (i ∷ q) f) (λ x y a c. one_node q x y a c)
        where
          parent_of : (k : ℕ) (g : Growth N) → slice_get gs k ≡ Some g → slice_get order k ≡ Some (i ∷ q) → (x : ℕ) × (g.parent ≡ Some x) × (slice_get order x ≡ Some q) × (g.child ≡ i)
          parent_of k g a e = elim (by_parent k g (i ∷ q) a e) [
            | inl x ↦ absurd (let y = x.1 in cc)
            | inr (x, u, b, o, c) ↦ (x, b, o ∙ ap Some (let z : u ≡ q = cc in z), cc)
          ]

          ended : (k l x y : ℕ) (g h : Growth N) → slice_get gs k ≡ Some g → slice_get gs l ≡ Some h → g.parent ≡ Some x → h.parent ≡ Some y → x ≡ y → g.child ≡ i → h.child ≡ i → k ≡ l
          ended k l x y g h a c gx hy z ix iy = j.once k l x g h a c gx (hy ∙ ap Some (sym z)) (ix ∙ sym iy)

          go : (g : Growth N) × (slice_get gs k ≡ Some g) → (h : Growth N) × (slice_get gs l ≡ Some h) → ((x y : ℕ) → slice_get order x ≡ Some q → slice_get order y ≡ Some q → x ≡ y) → k ≡ l
          go (g, a) (h, c) on = let (x, gx, ox, ix) = parent_of k g a e in let (y, hy, oy, iy) = parent_of l h c f in ended k l x y g h a c gx hy (on x y ox oy) ix iy

      tree_of : IsTreeOf N gs tree order
      tree_of = record {
        growths_are = record {
          many = len;
          under = under;
          labels = λ k (g : Growth N) p e f. (let (d, x, y) = each_growth (suc k) k (omega arith) g p e f in ap (option_map (label N)) y ∙ ap Some (label-build d k g e));
        };
        all = λ p a. all p a.0 (at N tree p) refl a.1;
        different = are_different order (λ k l p. one_node p k l);
      }
        where
          all : (p : Address) (l : Label N) (o : Option (Tree N)) → at N tree p ≡ o → option_map (label N) o ≡ Some l → Contains order p
          all p l None e f = absurd cc
          all p l (Some t) e f = let (k, s) = all_nodes p t e in at_place order k p s.4

    pub built : (tree : Tree N) × (order : List Address) × IsTreeOf N gs tree order
    built = let (order, len, under) = ways (length gs) (omega arith) in (build (length gs) 0, order, tree_of order len under)
