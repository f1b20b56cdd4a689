-- Never more is pending of a task than its number.
use Rattle.std.proofs.Common.{ℕ, zero, suc, ◌≡◌, ◌+◌, ◌<◌, ◌≤◌, ◌⊎◌, inl, inr, List, [], ◌∷◌, ◌++◌, length, slice_get, filter, Bool, true, false, cond, Some, option_map, refl, ap, sym, subst, ◌∙◌, Contains, arith, append_assoc, length-append, add-le-add}
use Rattle.std.proofs.lemmas.List.Elements.{Contains-append_left, filter-append}
use Rattle.plan_model.specs.task_networks.Net.{Net, count}
use Rattle.plan_model.specs.task_networks.Tree.{Tree, Address, IsAddress, open_leaf, done, split, Trees, none, more, at, IsAbove, waits, label, ran, child_at, used, work_of, works_of, IsGrown, AreGrown}
use Rattle.plan_model.specs.task_networks.Schedule.{Blocks, IsSchedule, IsDue}
use Rattle.plan_model.specs.task_networks.Pending.{IsWithin}
use Rattle.plan_model.specs.task_networks.Listed.{is_listed}
use Rattle.plan_model.specs.task_networks.Preorder.{nodes_at, nodes_from}
use Rattle.plan_model.specs.task_networks.PendingComputed.{is_pending}
use Rattle.plan_model.specs.task_networks.Front.{IsFront}
use Rattle.plan_model.specs.task_networks.Bound.{itself, weight, weights, AreLargeEnough, IsReached, block_number, as_child}
use Rattle.plan_model.proofs.task_networks.Addresses.{below-itself, below_up}
use Rattle.plan_model.proofs.task_networks.BoundLaws.{by_size, enough_for_all, at_block, after_block}
use Rattle.plan_model.proofs.task_networks.Lists.{Contains-later, cut_at}
use Rattle.plan_model.proofs.task_networks.Nodes.{parent, child_below, below_children, grown_at}
use Rattle.plan_model.proofs.task_networks.PendingNodes.{to_among, among_to, pending_to, within_iff}

-- a front's taken nodes
pub record IsClosed (N : Net) (tree : Tree N) (taken : List Address) : Type 0 where
  pub parents : (i : ℕ) (q : Address) → Contains taken (i ∷ q) → Contains taken q
  pub clear : (u v : Address) → Contains taken v → IsAddress N tree u → Blocks N tree u v → Contains taken u

module _ (N : Net) (block : N.Method → ℕ → ℕ) (number : N.Work → ℕ) where
  module _ (tree : Tree N) (taken : List Address) where
    -- how many are pending at p or below
    abbrev mutual
      pub pending_below : Address → Tree N → ℕ
      pending_below p (open_leaf w) = cond (is_listed taken p) 0 1
      pending_below p (done w) = cond (is_listed taken p) 0 1
      pending_below p (split m ts) = cond (is_listed taken p) (pending_below_all p 0 ts) 1

      pub pending_below_all : Address → ℕ → Trees N → ℕ
      pending_below_all p i none = 0
      pending_below_all p i (more t ts) = pending_below (i ∷ p) t + pending_below_all p (suc i) ts

    untaken : (p : Address) → is_listed taken p ≡ false → Contains taken p → ⊥
    untaken p e c = let f = to_among taken p c in cc

    one_pending : (p : Address) (t : Tree N) → is_listed taken p ≡ false → pending_below p t ≡ 1
    one_pending p (open_leaf w) e = ap (λ b. cond b 0 1) e
    one_pending p (done w) e = ap (λ b. cond b 0 1) e
    one_pending p (split m ts) e = ap (λ b. cond b (pending_below_all p 0 ts) 1) e

    -- where one is pending, a node isn't taken
    mutual
      some_left : (p : Address) (t : Tree N) → at N tree p ≡ Some t → 0 < pending_below p t → (u : Address) × IsAbove p u × IsAddress N tree u × (Contains taken u → ⊥)
      some_left p (open_leaf w) a l = leaf (is_listed taken p) refl l
        where
          leaf : (b : Bool) → is_listed taken p ≡ b → 0 < cond b 0 1 → (u : Address) × IsAbove p u × IsAddress N tree u × (Contains taken u → ⊥)
          leaf true e l = absurd (omega arith)
          leaf false e l = (p, below-itself p, (waits w, ap (option_map (label N)) a), untaken p e)
      some_left p (done w) a l = leaf (is_listed taken p) refl l
        where
          leaf : (b : Bool) → is_listed taken p ≡ b → 0 < cond b 0 1 → (u : Address) × IsAbove p u × IsAddress N tree u × (Contains taken u → ⊥)
          leaf true e l = absurd (omega arith)
          leaf false e l = (p, below-itself p, (ran w, ap (option_map (label N)) a), untaken p e)
      some_left p (split m ts) a l = node (is_listed taken p) refl (λ k. some_child p 0 ts (λ j. subst (λ z. at N tree (z ∷ p) ≡ child_at N ts j) (let x : j ≡ 0 + j = omega arith in x) (child_below N tree j p m ts a)) k) l
        where
          node : (b : Bool) → is_listed taken p ≡ b → (0 < pending_below_all p 0 ts → (u : Address) × IsAbove p u × IsAddress N tree u × (Contains taken u → ⊥)) → 0 < cond b (pending_below_all p 0 ts) 1 → (u : Address) × IsAbove p u × IsAddress N tree u × (Contains taken u → ⊥)
          node true e ih l = ih l
          node false e ih l = (p, below-itself p, (used m, ap (option_map (label N)) a), untaken p e)

      some_child : (p : Address) (i : ℕ) (ts : Trees N) → ((j : ℕ) → at N tree ((i + j) ∷ p) ≡ child_at N ts j) → 0 < pending_below_all p i ts → (u : Address) × IsAbove p u × IsAddress N tree u × (Contains taken u → ⊥)
      some_child p i none a l = absurd (omega arith)
      some_child p i (more t ts) a l = elim (by_size 0 (pending_below (i ∷ p) t)) [
        | inl x ↦ (let h = some_left (i ∷ p) t (subst (λ z. at N tree (z ∷ p) ≡ Some t) (let y : i + 0 ≡ i = omega arith in y) (a 0)) x in (h.0, below_up i p h.0 h.1, h.2, h.3))
        | inr x ↦ some_child p (suc i) ts (λ j. subst (λ z. at N tree (z ∷ p) ≡ child_at N ts j) (let y : i + suc j ≡ suc i + j = omega arith in y) (a (suc j))) (elim x [ inl e ↦ omega arith | inr e ↦ absurd (omega arith) ])
      ]

    -- the least_block block with something pending
    abbrev IsLeastBlock : N.Method → Address → ℕ → Trees N → Type 0
    IsLeastBlock m p i ts = (j : ℕ) × (t : Tree N) × (child_at N ts j ≡ Some t) × (0 < pending_below ((i + j) ∷ p) t) × ((k : ℕ) (s : Tree N) → child_at N ts k ≡ Some s → 0 < pending_below ((i + k) ∷ p) s → block m (i + j) ≤ block m (i + k))

    least_block : (m : N.Method) (p : Address) (i : ℕ) (ts : Trees N) → (pending_below_all p i ts ≡ 0) ⊎ IsLeastBlock m p i ts
    least_block m p i none = inl refl
    least_block m p i (more t ts) = go (by_size 0 (pending_below (i ∷ p) t)) (least_block m p (suc i) ts)
      where
        first : (j : ℕ) → i + suc j ≡ suc i + j
        first j = omega arith

        none_yet : i + 0 ≡ i
        none_yet = omega arith

        later : (j : ℕ) → IsLeastBlock m p (suc i) ts → IsLeastBlock m p (suc i) ts
        later j h = h

        go : (0 < pending_below (i ∷ p) t) ⊎ ((0 ≡ pending_below (i ∷ p) t) ⊎ (pending_below (i ∷ p) t < 0)) → (pending_below_all p (suc i) ts ≡ 0) ⊎ IsLeastBlock m p (suc i) ts → (pending_below (i ∷ p) t + pending_below_all p (suc i) ts ≡ 0) ⊎ IsLeastBlock m p i (more t ts)
        go (inr (inr x)) h = absurd (omega arith)
        go (inr (inl x)) (inl z) = inl (omega arith)
        go (inr (inl x)) (inr (j, s, c, l, f)) = inr (suc j, s, c, subst (λ z. 0 < pending_below (z ∷ p) s) (sym (first j)) l, others)
          where
            others : (k : ℕ) (s : Tree N) → child_at N (more t ts) k ≡ Some s → 0 < pending_below ((i + k) ∷ p) s → block m (i + suc j) ≤ block m (i + k)
            others zero s e q = absurd (let y : t ≡ s = cc in let w = subst (λ z. 0 < pending_below (z ∷ p) s) none_yet q in let v = subst (λ z. 0 ≡ pending_below (i ∷ p) z) y x in omega arith)
            others (suc k) s e q = subst (λ z. block m z ≤ block m (i + suc k)) (sym (first j)) (subst (λ z. block m (suc i + j) ≤ block m z) (sym (first k)) (f k s e (subst (λ z. 0 < pending_below (z ∷ p) s) (first k) q)))
        go (inl x) (inl z) = inr (0, t, refl, subst (λ w. 0 < pending_below (w ∷ p) t) (sym none_yet) x, others)
          where
            sum_zero : (i' : ℕ) (us : Trees N) → pending_below_all p i' us ≡ 0 → (k : ℕ) (s : Tree N) → child_at N us k ≡ Some s → pending_below ((i' + k) ∷ p) s ≡ 0
            sum_zero i' none e k s c = absurd cc
            sum_zero i' (more u us) e zero s c = let y : u ≡ s = cc in subst (λ z. pending_below (z ∷ p) s ≡ 0) (let q : i' ≡ i' + 0 = omega arith in q) (subst (λ z. pending_below (i' ∷ p) z ≡ 0) y (omega arith))
            sum_zero i' (more u us) e (suc k) s c = subst (λ z. pending_below (z ∷ p) s ≡ 0) (let q : suc i' + k ≡ i' + suc k = omega arith in q) (sum_zero (suc i') us (omega arith) k s c)

            others : (k : ℕ) (s : Tree N) → child_at N (more t ts) k ≡ Some s → 0 < pending_below ((i + k) ∷ p) s → block m (i + 0) ≤ block m (i + k)
            others zero s e q = omega arith
            others (suc k) s e q = absurd (let y = sum_zero (suc i) ts z k s e in let w = subst (λ z. 0 < pending_below (z ∷ p) s) (first k) q in omega arith)
        go (inl x) (inr (j, s, c, l, f)) = pick (by_size (block m (suc i + j)) (block m i))
          where
            pick : (block m (suc i + j) < block m i) ⊎ ((block m (suc i + j) ≡ block m i) ⊎ (block m i < block m (suc i + j))) → (pending_below (i ∷ p) t + pending_below_all p (suc i) ts ≡ 0) ⊎ IsLeastBlock m p i (more t ts)
            pick (inl y) = inr (suc j, s, c, subst (λ z. 0 < pending_below (z ∷ p) s) (sym (first j)) l, others)
              where
                others : (k : ℕ) (s : Tree N) → child_at N (more t ts) k ≡ Some s → 0 < pending_below ((i + k) ∷ p) s → block m (i + suc j) ≤ block m (i + k)
                others zero s e q = subst (λ z. block m z ≤ block m (i + 0)) (sym (first j)) (subst (λ z. block m (suc i + j) ≤ block m z) (sym none_yet) (omega arith))
                others (suc k) s e q = subst (λ z. block m z ≤ block m (i + suc k)) (sym (first j)) (subst (λ z. block m (suc i + j) ≤ block m z) (sym (first k)) (f k s e (subst (λ z. 0 < pending_below (z ∷ p) s) (first k) q)))
            pick (inr y) = inr (0, t, refl, subst (λ w. 0 < pending_below (w ∷ p) t) (sym none_yet) x, others)
              where
                small : block m i ≤ block m (suc i + j)
                small = elim y [ inl e ↦ omega arith | inr e ↦ omega arith ]

                others : (k : ℕ) (s : Tree N) → child_at N (more t ts) k ≡ Some s → 0 < pending_below ((i + k) ∷ p) s → block m (i + 0) ≤ block m (i + k)
                others zero s e q = omega arith
                others (suc k) s e q = subst (λ z. block m z ≤ block m (i + suc k)) (sym none_yet) (subst (λ z. block m i ≤ block m z) (sym (first k)) (let r = f k s e (subst (λ z. 0 < pending_below (z ∷ p) s) (first k) q) in omega (arith, small)))

    -- children one by one
    sums : (m : N.Method) (k : ℕ) (p : Address) (i : ℕ) (ts : Trees N) → ((j : ℕ) (t : Tree N) → child_at N ts j ≡ Some t → pending_below ((i + j) ∷ p) t ≤ weight k (block m (i + j)) (number (work_of N t))) → pending_below_all p i ts ≤ weights N block number m k i (works_of N ts)
    sums m k p i none f = omega arith
    sums m k p i (more t ts) f =
        let a : pending_below (i ∷ p) t ≤ weight k (block m i) (number (work_of N t)) = subst (λ z. pending_below (z ∷ p) t ≤ weight k (block m z) (number (work_of N t))) (let e : i + 0 ≡ i = omega arith in e) (f 0 t refl) in
        let r = sums m k p (suc i) ts (λ j s e. subst (λ z. pending_below (z ∷ p) s ≤ weight k (block m z) (number (work_of N s))) (let q : i + suc j ≡ suc i + j = omega arith in q) (f (suc j) s e)) in
        add-le-add a r

    module _ (top : N.Work) (law : AreLargeEnough N block number top) (reached : (p : Address) (t : Tree N) → at N tree p ≡ Some t → IsReached N top (work_of N t)) (closed : IsClosed N tree taken) where
      child_in : (ts : Trees N) (j : ℕ) (t : Tree N) → child_at N ts j ≡ Some t → j < length (works_of N ts)
      child_in none j t e = absurd cc
      child_in (more u ts) zero t e = omega arith
      child_in (more u ts) (suc j) t e = let r = child_in ts j t e in omega arith

      mutual
        pub bounded : (p : Address) (t : Tree N) → at N tree p ≡ Some t → IsGrown N t → pending_below p t ≤ number (work_of N t)
        bounded p (open_leaf w) a g = let b = law.positive w (reached p (open_leaf w) a) in leaf (is_listed taken p) (number w) b
          where
            leaf : (c : Bool) (x : ℕ) → 1 ≤ x → cond c 0 1 ≤ x
            leaf true x l = omega arith
            leaf false x l = l
        bounded p (done w) a g = let b = law.positive w (reached p (done w) a) in leaf (is_listed taken p) (number w) b
          where
            leaf : (c : Bool) (x : ℕ) → 1 ≤ x → cond c 0 1 ≤ x
            leaf true x l = omega arith
            leaf false x l = l
        bounded p (split m ts) a g = node (is_listed taken p) (each p 0 ts (λ j. subst (λ z. at N tree (z ∷ p) ≡ child_at N ts j) (let x : j ≡ 0 + j = omega arith in x) (child_below N tree j p m ts a)) g.2)
          where
            node : (c : Bool) → ((j : ℕ) (t : Tree N) → child_at N ts j ≡ Some t → pending_below ((0 + j) ∷ p) t ≤ number (work_of N t)) → cond c (pending_below_all p 0 ts) 1 ≤ number (N.head m)
            node false ih = law.positive (N.head m) (reached p (split m ts) a)
            node true ih = go (least_block m p 0 ts)
              where
                zero-plus : (j : ℕ) → 0 + j ≡ j
                zero-plus j = omega arith

                is_child_at : (j : ℕ) (t : Tree N) → child_at N ts j ≡ Some t → at N tree (j ∷ p) ≡ Some t
                is_child_at j t e = child_below N tree j p m ts a ∙ e

                within : (j : ℕ) (t : Tree N) → child_at N ts j ≡ Some t → j < count N m
                within j t e = subst (λ z. j < length z) g.1 (child_in ts j t e)

                go : (pending_below_all p 0 ts ≡ 0) ⊎ IsLeastBlock m p 0 ts → pending_below_all p 0 ts ≤ number (N.head m)
                go (inl z) = let b = law.positive (N.head m) (reached p (split m ts) a) in omega arith
                go (inr (j, t, c, l, f)) =
                    let s = sums m (block m j) p 0 ts weigh in
                    let e : block_number N block number m (block m j) ≤ number (N.head m) = enough_for_all N block number top law m j g.0 (reached p (split m ts) a) (within j t c) in
                    let q = ap (λ z. weights N block number m (block m j) 0 z) g.1 in
                    omega arith
                  where
                    left : (u : Address) × IsAbove (j ∷ p) u × IsAddress N tree u × (Contains taken u → ⊥)
                    left = some_left (j ∷ p) t (is_child_at j t c) (subst (λ z. 0 < pending_below (z ∷ p) t) (zero-plus j) l)

                    weigh : (k : ℕ) (s : Tree N) → child_at N ts k ≡ Some s → pending_below ((0 + k) ∷ p) s ≤ weight (block m j) (block m (0 + k)) (number (work_of N s))
                    weigh k s e = subst (λ z. pending_below (z ∷ p) s ≤ weight (block m j) (block m z) (number (work_of N s))) (sym (zero-plus k)) (pick (by_size (block m k) (block m j)))
                      where
                        fk : 0 < pending_below (k ∷ p) s → block m j ≤ block m k
                        fk q = subst (λ z. block m z ≤ block m k) (zero-plus j) (subst (λ z. block m (0 + j) ≤ block m z) (zero-plus k) (f k s e (subst (λ z. 0 < pending_below (z ∷ p) s) (sym (zero-plus k)) q)))

                        pick : (block m k < block m j) ⊎ ((block m k ≡ block m j) ⊎ (block m j < block m k)) → pending_below (k ∷ p) s ≤ weight (block m j) (block m k) (number (work_of N s))
                        pick (inl x) = elim (by_size 0 (pending_below (k ∷ p) s)) [ inl q ↦ absurd (let r = fk q in omega arith) | inr q ↦ elim q [ inl r ↦ omega arith | inr r ↦ absurd (omega arith) ] ]
                        pick (inr (inl x)) = let r = at_block (block m j) (block m k) (number (work_of N s)) x in let y = subst (λ z. pending_below (z ∷ p) s ≤ number (work_of N s)) (zero-plus k) (ih k s e) in omega arith
                        pick (inr (inr x)) =
                            let r = after_block (block m j) (block m k) (number (work_of N s)) x in
                            let y = one_pending (k ∷ p) s (fresh (is_listed taken (k ∷ p)) refl) in omega arith
                          where
                            fresh : (b : Bool) → is_listed taken (k ∷ p) ≡ b → b ≡ false
                            fresh false q = refl
                            fresh true q = absurd (left.3 (closed.clear left.0 (k ∷ p) (among_to taken (k ∷ p) q) left.2
                                (m, j, ap (option_map (label N)) a, law.ordered m j k (within j t c) (within k s e) x, left.1)))

        each : (p : Address) (i : ℕ) (ts : Trees N) → ((j : ℕ) → at N tree ((i + j) ∷ p) ≡ child_at N ts j) → AreGrown N ts → (j : ℕ) (t : Tree N) → child_at N ts j ≡ Some t → pending_below ((i + j) ∷ p) t ≤ number (work_of N t)
        each p i none a g j t e = absurd cc
        each p i (more u ts) a g zero t e =
            let y : u ≡ t = cc in
            subst (λ z. pending_below ((i + 0) ∷ p) z ≤ number (work_of N z)) y (subst (λ z. pending_below (z ∷ p) u ≤ number (work_of N u)) (let q : i ≡ i + 0 = omega arith in q) (bounded (i ∷ p) u (subst (λ z. at N tree (z ∷ p) ≡ Some u) (let q : i + 0 ≡ i = omega arith in q) (a 0)) g.0))
        each p i (more u ts) a g (suc j) t e =
            subst (λ z. pending_below (z ∷ p) t ≤ number (work_of N t)) (let q : suc i + j ≡ i + suc j = omega arith in q) (each p (suc i) ts (λ k. subst (λ z. at N tree (z ∷ p) ≡ child_at N ts k) (let q : i + suc k ≡ suc i + k = omega arith in q) (a (suc k))) g.1 j t e)

    -- the list of what is pending is no longer
    module _ (parents : (i : ℕ) (q : Address) → Contains taken (i ∷ q) → Contains taken q) where
      taken_up : (p q : Address) → IsAbove p q → Contains taken q → Contains taken p
      taken_up p [] b c = subst (Contains taken) (sym b) c
      taken_up p (k ∷ q) (inl e) c = subst (Contains taken) (sym e) c
      taken_up p (k ∷ q) (inr b) c = taken_up p q b (parents k q c)

      none_below : (p q : Address) (j : ℕ) → (Contains taken p → ⊥) → IsAbove (j ∷ p) q → is_pending taken q ≡ true → ⊥
      none_below p [] j n b e = cc
      none_below p (k ∷ q) j n b e = let h = (pending_to taken (k ∷ q) e).0 in go b h
        where
          go : (j ∷ p ≡ k ∷ q) ⊎ IsAbove (j ∷ p) q → Contains taken q → ⊥
          go (inl x) h = n (let y : q ≡ p = cc in subst (Contains taken) y h)
          go (inr x) h = n (taken_up p q (below_up j p q x) h)

      passes_none : (xs : List Address) → ((q : Address) → Contains xs q → is_pending taken q ≡ true → ⊥) → filter (is_pending taken) xs ≡ []
      passes_none [] f = refl
      passes_none (x ∷ xs) f = go (is_pending taken x) refl (passes_none xs (λ q c. f q (Contains-later x xs q c)))
        where
          go : (b : Bool) → is_pending taken x ≡ b → filter (is_pending taken) xs ≡ [] → cond b (x ∷ filter (is_pending taken) xs) (filter (is_pending taken) xs) ≡ []
          go true e ih = absurd (f x (0, omega arith, refl) e)
          go false e ih = ih

      own : (p : Address) (xs : List Address) (x : ℕ) → (is_listed taken p ≡ true → length (filter (is_pending taken) xs) ≤ x) → (is_listed taken p ≡ false → filter (is_pending taken) xs ≡ []) → length (filter (is_pending taken) (p ∷ xs)) ≤ cond (is_listed taken p) x 1
      own p xs x f g = go (is_listed taken p) (is_pending taken p) refl refl
        where
          go : (b c : Bool) → is_listed taken p ≡ b → is_pending taken p ≡ c → length (cond c (p ∷ filter (is_pending taken) xs) (filter (is_pending taken) xs)) ≤ cond b x 1
          go true true e d = absurd ((pending_to taken p d).1 (among_to taken p e))
          go true false e d = f e
          go false true e d = let h = ap length (g e) in omega arith
          go false false e d = let h = ap length (g e) in omega arith

      mutual
        few : (p : Address) (t : Tree N) → length (filter (is_pending taken) (nodes_at N p t)) ≤ pending_below p t
        few p (open_leaf w) = own p [] 0 (λ e. omega arith) (λ e. refl)
        few p (done w) = own p [] 0 (λ e. omega arith) (λ e. refl)
        few p (split m ts) = own p (nodes_from N p 0 ts) (pending_below_all p 0 ts) (λ e. few_children p 0 ts) (λ e. passes_none (nodes_from N p 0 ts) (λ q c. (let h = below_children N ts p 0 q c in none_below p q h.0 (untaken p e) h.2)))

        few_children : (p : Address) (i : ℕ) (ts : Trees N) → length (filter (is_pending taken) (nodes_from N p i ts)) ≤ pending_below_all p i ts
        few_children p i none = omega arith
        few_children p i (more t ts) =
            let e = ap length (filter-append (is_pending taken) (nodes_at N (i ∷ p) t) (nodes_from N p (suc i) ts)) in
            let l = length-append (filter (is_pending taken) (nodes_at N (i ∷ p) t)) (filter (is_pending taken) (nodes_from N p (suc i) ts)) in
            let a = few (i ∷ p) t in let b = few_children p (suc i) ts in omega arith

  closed_at : (tree : Tree N) (order taken rest : List Address) → IsSchedule N tree order → order ≡ taken ++ rest → IsClosed N tree taken
  closed_at tree order taken rest s e = record { parents = λ i q c. (let h = at_cut (i ∷ q) c in Contains-whole h (h.3.begun)); clear = λ u v c a b. (let h = at_cut v c in Contains-whole h (h.3.clear u a b)) }
    where
      at_cut : (v : Address) → Contains taken v → (xs : List Address) × (ys : List Address) × (taken ≡ xs ++ v ∷ ys) × IsDue N tree xs v
      at_cut v c = let (xs, ys, f) = cut_at taken v c in (xs, ys, f, s.due xs (ys ++ rest) v (e ∙ ap (λ z. z ++ rest) f ∙ append_assoc xs (v ∷ ys) rest))

      Contains-whole : {u v : Address} → (h : (xs : List Address) × (ys : List Address) × (taken ≡ xs ++ v ∷ ys) × IsDue N tree xs v) → Contains h.0 u → Contains taken u
      Contains-whole {u} {v} h c = subst (λ z. Contains z u) (sym h.2) (Contains-append_left h.0 (v ∷ h.1) u c)

  child_work : (ts : Trees N) (i : ℕ) (t : Tree N) → child_at N ts i ≡ Some t → slice_get (works_of N ts) i ≡ Some (work_of N t)
  child_work none i t e = absurd cc
  child_work (more u ts) zero t e = let f : u ≡ t = cc in ap (λ z. Some (work_of N z)) f
  child_work (more u ts) (suc i) t e = child_work ts i t e

  -- each node's work is reached from the root's
  reached_at : (tree : Tree N) → IsGrown N tree → (p : Address) (t : Tree N) → at N tree p ≡ Some t → IsReached N (work_of N tree) (work_of N t)
  reached_at tree g [] t e = subst (λ z. IsReached N (work_of N tree) (work_of N z)) (let f : tree ≡ t = cc in f) itself
  reached_at tree g (i ∷ p) t e =
      let (m, ts, a, c) = parent N tree i p t e in
      let h = grown_at N tree p (split m ts) g a in
      as_child m i h.0 (reached_at tree g p (split m ts) a) (sym (ap (λ z. slice_get z i) h.1) ∙ child_work ts i t c)

  -- no schedule of any front has more pending than the top work's number
  pub bound_holds : (top : N.Work) → AreLargeEnough N block number top → (tree : Tree N) (order : List Address) → IsFront N top tree order → IsWithin N (number top) tree order
  bound_holds top law tree order f = (within_iff N (number top) tree order).1 (λ taken rest e.
      (let c = closed_at tree order taken rest f.schedule e in
      let a = few tree taken c.parents [] tree in
      let b = bounded tree taken top law (λ p t h. subst (λ z. IsReached N z (work_of N t)) f.root (reached_at tree f.grown p t h)) c [] tree refl f.grown in
      let d = ap number f.root in omega arith))
