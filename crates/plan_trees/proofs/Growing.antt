-- Seeds that grow to those of a whole tree: the children of the first seed are put, then those of the second, and so on.
use Rattle.std.proofs.Common.{ℕ, zero, suc, ◌≡◌, ◌+◌, ◌<◌, ◌≤◌, ◌⊎◌, inl, inr, ◌∙◌, List, [], ◌∷◌, ◌++◌, length, slice_get, Option, Some, None, refl, ap, sym, subst, Contains, append_assoc, append-nil, length-append, arith}
use Rattle.std.proofs.lemmas.List.Elements.{Contains-append_left, Contains-append_right}
use Rattle.std.proofs.lemmas.Bool.{cases_lt}
use Rattle.htn_base.specs.Different.{AreDifferent}
use Rattle.plan_model.specs.task_networks.Net.{Net}
use Rattle.plan_model.specs.task_networks.Tree.{Tree, Address, IsAddress}
use Rattle.plan_model.proofs.task_networks.Different.{different_append}
use Rattle.plan_model.proofs.task_networks.Lists.{Contains-here, not-in_empty, head_or_tail}
use Rattle.plan_model.proofs.task_networks.Parents.{parent_address}
use Rattle.tree_core.specs.Growths.{IsUnder}
use Rattle.tree_core.proofs.Gets.{get_left, get_right, get_cases, get_within, get_some, place_of, one_place}
use Rattle.plan_trees.specs.declared.seed.Source.{Source}
use Rattle.plan_trees.specs.declared.seed.Seed.{Seed}
use Rattle.plan_trees.specs.Sources.{seeds}

-- child i of seed x was put: the seeds before the place have all children, and the one at it those before j
abbrev pub IsDone : ℕ → ℕ → ℕ → ℕ → Type 0
IsDone place j x i = (x < place) ⊎ ((x ≡ place) × (i < j))

module _ (N : Net) (tree : Tree N) (Stands : Source → Address → Type 0) where
  pub record IsSoFar (all : List Seed) (order : List Address) (place j : ℕ) : Type 0 where
    pub many : length order ≡ length all
    pub under : (k : ℕ) (s : Seed) (p : Address) → slice_get all k ≡ Some s → slice_get order k ≡ Some p
        → IsUnder N order k s.parent s.child p
    pub stands : (k : ℕ) (s : Seed) (p : Address) → slice_get all k ≡ Some s → slice_get order k ≡ Some p → Stands s.source p
    pub put : (k x : ℕ) (s : Seed) → slice_get all k ≡ Some s → s.parent ≡ Some x → IsDone place j x s.child
    pub root : Contains order []
    pub below : (k i : ℕ) (p : Address) → IsDone place j k i → slice_get order k ≡ Some p → IsAddress N tree (i ∷ p)
        → Contains order (i ∷ p)
    pub different : AreDifferent order

  -- the children from number j on are these, and there are no others
  abbrev pub EachStands : Address → ℕ → List Source → Type 0
  EachStands p j [] = (i : ℕ) → IsAddress N tree (i ∷ p) → i < j
  EachStands p j (s ∷ ss) = Stands s (j ∷ p) × EachStands p (suc j) ss

  under_more : (order more : List Address) (k : ℕ) (o : Option ℕ) (i : ℕ) (p : Address) → IsUnder N order k o i p
      → IsUnder N (order ++ more) k o i p
  under_more order more k None i p x = x
  under_more order more k (Some m) i p (l, (q, e, f)) = (l, (q, get_left order more m q e, f))

  later : (place j x i : ℕ) → IsDone place j x i → IsDone place (suc j) x i
  later place j x i (inl l) = inl l
  later place j x i (inr (e, l)) = inr (e, let y : i < suc j = omega arith in y)

  pub one_more : (all : List Seed) (order : List Address) (place j : ℕ) (p : Address) (s : Source) → IsSoFar all order place j
      → slice_get order place ≡ Some p → Stands s (j ∷ p)
      → IsSoFar (all ++ seeds place j (s ∷ [])) (order ++ (j ∷ p) ∷ []) place (suc j)
  one_more all order place j p s f here st = record {
    many = length-append order ((j ∷ p) ∷ []) ∙ ap (λ n. n + 1) f.many ∙ sym (length-append all (seeds place j (s ∷ [])));
    under = λ k t q e g. elim (get_cases all (new ∷ []) k t e) [
      | inl (l, x) ↦ under_more order ((j ∷ p) ∷ []) k t.parent t.child q (f.under k t q x (old_address k q
          (let m = f.many in let y : k < length order = omega arith in y) g))
      | inr (i, x, y) ↦ (
          let z = only i t y in
          let a = new_address k i q x z.0 g in
          subst (λ (r : Seed). IsUnder N (order ++ (j ∷ p) ∷ []) k r.parent r.child q) z.1
          (let m = f.many in let w = get_within order place p here in let i0 = z.0 in let v : place < k = omega arith in v, (p, get_left order ((j ∷ p) ∷ []) place p here, sym a)))
    ];
    stands = λ k t q e g. elim (get_cases all (new ∷ []) k t e) [
      | inl (l, x) ↦ f.stands k t q x (old_address k q (let m = f.many in let y : k < length order = omega arith in y) g)
      | inr (i, x, y) ↦ (
          let z = only i t y in
          let a = new_address k i q x z.0 g in
          subst (λ (r : Seed). Stands r.source q) z.1 (subst (Stands s) a st))
    ];
    put = λ k x t e g. elim (get_cases all (new ∷ []) k t e) [
      | inl (l, y) ↦ later place j x t.child (f.put k x t y g)
      | inr (i, y, z) ↦ (
          let w = only i t z in
          let a : place ≡ x = some_once (ap (λ (r : Seed). r.parent) w.1 ∙ g) in
          let b : j ≡ t.child = ap (λ (r : Seed). r.child) w.1 in
          inr (sym a, let v : t.child < suc j = omega arith in v))
    ];
    root = Contains-append_left order ((j ∷ p) ∷ []) [] f.root;
    below = λ k i q d e a. elim (get_cases order ((j ∷ p) ∷ []) k q e) [
      | inl (l, x) ↦ old_child k i q d x a
      | inr (m, x, y) ↦ absurd (let w = get_within order place p here in elim d [ inl u ↦ omega arith | inr (u, v) ↦ omega arith ])
    ];
    different = different_append order ((j ∷ p) ∷ []) f.different (not-in_empty (j ∷ p), tt) (λ q a b. elim (head_or_tail (j ∷ p) [] q b) [
      | inl e ↦ is_new (subst (Contains order) (sym e) a)
      | inr r ↦ absurd (not-in_empty q r)
    ]);
  }
    where
      new : Seed
      new = record { source = s; parent = Some place; child = j }

      some_once : {A : Type 0} {x y : A} → Some x ≡ Some y → x ≡ y
      some_once e = cc

      only : (i : ℕ) (t : Seed) → slice_get (new ∷ []) i ≡ Some t → (i ≡ 0) × (new ≡ t)
      only zero t e = (refl, some_once e)
      only (suc i) t e = absurd cc

      old_address : (k : ℕ) (q : Address) → k < length order → slice_get (order ++ (j ∷ p) ∷ []) k ≡ Some q → slice_get order k ≡ Some q
      old_address k q l g = elim (get_cases order ((j ∷ p) ∷ []) k q g) [ inl (m, x) ↦ x | inr (m, x, y) ↦ absurd (omega arith) ]

      new_address : (k i : ℕ) (q : Address) → k ≡ length all + i → i ≡ 0 → slice_get (order ++ (j ∷ p) ∷ []) k ≡ Some q → j ∷ p ≡ q
      new_address k i q x z g =
          let m = f.many in
          let e : length order + 0 ≡ k = omega arith in
          some_once (sym (get_right order ((j ∷ p) ∷ []) 0) ∙ ap (slice_get (order ++ (j ∷ p) ∷ [])) e ∙ g)

      old_child : (k i : ℕ) (q : Address) → IsDone place (suc j) k i → slice_get order k ≡ Some q → IsAddress N tree (i ∷ q)
          → Contains (order ++ (j ∷ p) ∷ []) (i ∷ q)
      old_child k i q (inl l) x a = Contains-append_left order ((j ∷ p) ∷ []) (i ∷ q) (f.below k i q (inl l) x a)
      old_child k i q (inr (u, v)) x a = elim (cases_lt i j) [
        | inl l ↦ Contains-append_left order ((j ∷ p) ∷ []) (i ∷ q) (f.below k i q (inr (u, l)) x a)
        | inr l ↦ (
            let e : j ≡ i = omega arith in
            let g : p ≡ q = some_once (sym here ∙ ap (slice_get order) (sym u) ∙ x) in
            Contains-append_right order ((j ∷ p) ∷ []) (i ∷ q) (subst (Contains ((j ∷ p) ∷ []))
            (λ n. e n ∷ g n) (Contains-here (j ∷ p) [])))
      ]

      is_new : Contains order (j ∷ p) → ⊥
      is_new d =
          let (k, e) = place_of order (j ∷ p) d in
          let (t, g) = get_some all k (let l = get_within order k (j ∷ p) e in let m = f.many in omega arith) in
          go k t g t.parent refl (f.under k t (j ∷ p) g e)
        where
          go : (k : ℕ) (t : Seed) → slice_get all k ≡ Some t → (o : Option ℕ) → t.parent ≡ o → IsUnder N order k o t.child (j ∷ p) → ⊥
          go k t g None h e = cc
          go k t g (Some x) h (l, (q, a, b)) =
              let same : p ≡ q = cc in
              let number : j ≡ t.child = cc in
              let at : x ≡ place = one_place order f.different x place p (a ∙ ap Some (sym same)) here in
              elim (f.put k x t g h) [ inl u ↦ omega arith | inr (u, v) ↦ omega arith ]

  -- a seed that has all its children
  pub whole : (all : List Seed) (order : List Address) (place j : ℕ) (p : Address) → IsSoFar all order place j
      → slice_get order place ≡ Some p
      → ((i : ℕ) → IsAddress N tree (i ∷ p) → i < j) → IsSoFar all order (suc place) 0
  whole all order place j p f here n = record {
    many = f.many;
    under = f.under;
    stands = f.stands;
    put = λ k x s e g. elim (f.put k x s e g) [
      | inl l ↦ inl (let y : x < suc place = omega arith in y)
      | inr (u, v) ↦ inl (let y : x < suc place = omega arith in y)
    ];
    root = f.root;
    below = λ k i q d e a. elim d [
      | inl l ↦ (elim (cases_lt k place) [
        | inl m ↦ f.below k i q (inl m) e a
        | inr m ↦ (
            let u : k ≡ place = omega arith in
            let g : q ≡ p = some_once (sym e ∙ ap (slice_get order) u ∙ here) in
            f.below k i q (inr (u, n i (subst (λ z. IsAddress N tree (i ∷ z)) g a))) e a)
      ])
      | inr (u, v) ↦ absurd (omega arith)
    ];
    different = f.different;
  }
    where
      some_once : {A : Type 0} {x y : A} → Some x ≡ Some y → x ≡ y
      some_once e = cc

  pub all_more : (ss : List Source) (all : List Seed) (order : List Address) (place j : ℕ) (p : Address) → IsSoFar all order place j
      → slice_get order place ≡ Some p → EachStands p j ss
      → (longer : List Address) × IsSoFar (all ++ seeds place j ss) longer (suc place) 0
  all_more [] all order place j p f here e = (
    order,
    subst
        (λ z. IsSoFar z order (suc place) 0) (sym (append-nil all)) (whole all order place j p f here e),
  )
  all_more (s ∷ ss) all order place j p f here (st, e) =
      let more = one_more all order place j p s f here st in
      let (longer, r) = all_more ss (all ++ seeds place j (s ∷ [])) (order ++ (j ∷ p) ∷ []) place (suc j) p more
      (get_left order ((j ∷ p) ∷ []) place p here) e in
      (longer, subst (λ z. IsSoFar z longer (suc place) 0) (append_assoc all (seeds place j (s ∷ [])) (seeds place (suc j) ss)) r)

  -- the root alone
  pub at_first : (s : Source) → Stands s [] → IsSoFar ((record { source = s; parent = None; child = 0 }) ∷ []) ([] ∷ []) 0 0
  at_first s st = record {
    many = refl;
    under = λ k t p e g. (let x = only k t p e g in subst (λ (r : Seed). IsUnder N ([] ∷ []) k r.parent r.child p) x.0 (sym x.1));
    stands = λ k t p e g. (let x = only k t p e g in subst (λ (r : Seed). Stands r.source p) x.0 (subst (Stands s) x.1 st));
    put = λ k x t e g. no_parent k x t e g;
    root = Contains-here [] [];
    below = λ k i p d e a. elim d [ inl l ↦ absurd (omega arith) | inr (u, l) ↦ absurd (omega arith) ];
    different = (not-in_empty [], tt);
  }
    where
      first : Seed
      first = record { source = s; parent = None; child = 0 }

      no_parent : (k x : ℕ) (t : Seed) → slice_get (first ∷ []) k ≡ Some t → t.parent ≡ Some x → IsDone 0 0 x t.child
      no_parent zero x t e g = absurd (let h : first ≡ t = cc in let r = ap (λ (z : Seed). z.parent) h in cc)
      no_parent (suc k) x t e g = absurd cc

      only : (k : ℕ) (t : Seed) (p : Address) → slice_get (first ∷ []) k ≡ Some t → slice_get
          (let x : List Address = [] ∷ [] in x) k ≡ Some p → (first ≡ t) × ([] ≡ p)
      only zero t p e g = (let x : first ≡ t = cc in x, cc)
      only (suc k) t p e g = absurd cc

  -- where all seeds have their children, each node has its seed
  pub all_there : (all : List Seed) (order : List Address) (place : ℕ) → IsSoFar all order place 0 → length all ≤ place → (p : Address)
      → IsAddress N tree p
      → Contains order p
  all_there all order place f l [] a = f.root
  all_there all order place f l (i ∷ p) a =
      let (k, e) = place_of order p (all_there all order place f l p (parent_address N tree i p a)) in
      f.below k i p (inl (let m = get_within order k p e in let n = f.many in let y : k < place = omega arith in y)) e a
