-- Where ranks fall at the children of blocks that count, a bound exists, computed by recursion on the ranks.
use Rattle.std.proofs.Common.{ℕ, zero, suc, ◌≡◌, ◌+◌, ◌<◌, ◌≤◌, ◌⊎◌, ◌↔◌, inl, inr, List, [], ◌∷◌, slice_get, cond, nat_lt, Some, refl, ap, sym, subst, ◌∙◌, Contains, arith}
use Rattle.plan_model.specs.task_networks.Net.{Net, count}
use Rattle.plan_model.specs.task_networks.Bound.{IsReached, as_child, weight, weights, block_number, IsAloneAtTheEnd, Counts, IsTheBound}
use Rattle.plan_model.proofs.task_networks.BoundLaws.{by_size}
use Rattle.plan_model.proofs.task_networks.Lists.{not-in_empty, head_or_tail, Contains-here, Contains-later}
use Rattle.slot_machine.proofs.bound_laws.Decided.{same_or_not}

-- ranks that fall, or a child that is alone at the end, at each child of a method of a reached task
pub record HasFallingRanks (N : Net) (block : N.Method → ℕ → ℕ) (group : N.Work → ℕ) (top : N.Work) (methods : List N.Method) (rank : N.Work → ℕ) : Type 0 where
  -- the methods are listed
  pub listed : (m : N.Method) → Contains methods m ↔ N.IsGround m
  -- no action and no check is of a group of a method's task
  pub simple : (w : N.Work) (m : N.Method) → IsReached N top w → N.IsSimple w → N.IsGround m → group w ≡ group (N.head m) → ⊥
  -- what is of the group of a reached work is reached, and has its rank
  pub joined : (w : N.Work) (m : N.Method) → IsReached N top w → N.IsGround m → group w ≡ group (N.head m) → IsReached N top (N.head m) × (rank w ≡ rank (N.head m))
  -- a child of another group has a smaller rank
  pub falls : (m : N.Method) (i : ℕ) (u : N.Work) → N.IsGround m → IsReached N top (N.head m) → slice_get (N.works m) i ≡ Some u
      → (group u ≡ group (N.head m) → ⊥) → rank u < rank (N.head m)
  -- and one of the same group is alone in the last block
  pub alone : (m : N.Method) (i : ℕ) (u : N.Work) (number : N.Work → ℕ) → N.IsGround m → IsReached N top (N.head m) → slice_get (N.works m) i ≡ Some u
      → group u ≡ group (N.head m) → (IsAloneAtTheEnd N block number m (block m i) u → ⊥) → ⊥

abbrev pub larger : ℕ → ℕ → ℕ
larger a b = cond (nat_lt a b) b a

larger_left : (a b : ℕ) → a ≤ larger a b
larger_left a b = grind arith

larger_right : (a b : ℕ) → b ≤ larger a b
larger_right a b = grind arith

larger_is : (a b : ℕ) → (larger a b ≡ a) ⊎ (larger a b ≡ b)
larger_is a b = grind arith

-- x, or 1 where it doesn't hold
abbrev pub or_one : {A B : Type 0} → A ⊎ B → ℕ → ℕ
or_one (inl a) x = x
or_one (inr b) x = 1

or_one_same : {A B : Type 0} (d : A ⊎ B) (x y : ℕ) → (A → x ≡ y) → or_one d x ≡ or_one d y
or_one_same (inl a) x y f = f a
or_one_same (inr b) x y f = refl

or_one_so : {A B : Type 0} (d : A ⊎ B) (x : ℕ) → (B → ⊥) → or_one d x ≡ x
or_one_so (inl a) x f = refl
or_one_so (inr b) x f = absurd (f b)

or_one_is : {A B : Type 0} (d : A ⊎ B) (x : ℕ) → (or_one d x ≡ 1) ⊎ (A × (or_one d x ≡ x))
or_one_is (inl a) x = inr (a, refl)
or_one_is (inr b) x = inl refl

weight_before : (k b x y : ℕ) → b < k → weight k b x ≡ weight k b y
weight_before k b x y l = grind arith

weight_after : (k b x y : ℕ) → k < b → weight k b x ≡ weight k b y
weight_after k b x y l = grind arith

weight_same : (k b x y : ℕ) → (b ≡ k → x ≡ y) → weight k b x ≡ weight k b y
weight_same k b x y f = go (by_size b k)
  where
    go : (b < k) ⊎ ((b ≡ k) ⊎ (k < b)) → weight k b x ≡ weight k b y
    go (inl l) = weight_before k b x y l
    go (inr (inl e)) = ap (weight k b) (f e)
    go (inr (inr l)) = weight_after k b x y l

module _ (N : Net) (block : N.Method → ℕ → ℕ) (group : N.Work → ℕ) where
  -- child j, counted from i on, is in the block and of the group of the method's task
  abbrev pub IsOwn : N.Method → (k i : ℕ) → List N.Work → Type 0
  IsOwn m k i ws = (j : ℕ) × (u : N.Work) × (slice_get ws j ≡ Some u) × (block m (i + j) ≡ k) × (group u ≡ group (N.head m))

  -- there is none
  abbrev pub IsFree : N.Method → (k i : ℕ) → List N.Work → Type 0
  IsFree m k i ws = (j : ℕ) (u : N.Work) → slice_get ws j ≡ Some u → block m (i + j) ≡ k → group u ≡ group (N.head m) → ⊥

  pub free_or_own : (m : N.Method) (k i : ℕ) (ws : List N.Work) → IsFree m k i ws ⊎ IsOwn m k i ws
  free_or_own m k i [] = inl (λ j u s b g. cc)
  free_or_own m k i (w ∷ ws) = go (same_or_not (block m i) k) (same_or_not (group w) (group (N.head m))) (free_or_own m k (suc i) ws)
    where
      here : i + 0 ≡ i
      here = omega arith

      later : (j : ℕ) → i + suc j ≡ suc i + j
      later j = omega arith

      free : ((block m i ≡ k) → group w ≡ group (N.head m) → ⊥) → IsFree m k (suc i) ws → IsFree m k i (w ∷ ws)
      free n f zero u s b g = let e : w ≡ u = cc in n (subst (λ z. block m z ≡ k) here b) (subst (λ z. group z ≡ group (N.head m)) (sym e) g)
      free n f (suc j) u s b g = f j u s (subst (λ z. block m z ≡ k) (later j) b) g

      go : (block m i ≡ k) ⊎ (block m i ≡ k → ⊥) → (group w ≡ group (N.head m)) ⊎ (group w ≡ group (N.head m) → ⊥) → IsFree m k (suc i) ws ⊎ IsOwn m k (suc i) ws → IsFree m k i (w ∷ ws) ⊎ IsOwn m k i (w ∷ ws)
      go a b (inr (j, u, s, c, g)) = inr (suc j, u, s, subst (λ z. block m z ≡ k) (sym (later j)) c, g)
      go (inl a) (inl b) (inl f) = inr (0, w, refl, subst (λ z. block m z ≡ k) (sym here) a, b)
      go (inr a) b (inl f) = inl (free (λ x y. a x) f)
      go (inl a) (inr b) (inl f) = inl (free (λ x y. b y) f)

  -- what a block counts for: 1 where a child of it is of the group of the method's task
  abbrev pub value : (N.Work → ℕ) → N.Method → ℕ → ℕ
  value number m k = or_one (free_or_own m k 0 (N.works m)) (block_number N block number m k)

  -- the greatest of 1 and the blocks of the first n children
  abbrev pub best_block : (N.Work → ℕ) → N.Method → ℕ → ℕ
  best_block number m zero = 1
  best_block number m (suc i) = larger (value number m (block m i)) (best_block number m i)

  -- the greatest of 1 and the blocks of the listed methods of the group
  abbrev pub best : (N.Work → ℕ) → ℕ → List N.Method → ℕ
  best number g [] = 1
  best number g (m ∷ ms) = larger (or_one (same_or_not g (group (N.head m))) (best_block number m (count N m))) (best number g ms)

  -- by recursion, so many steps deep
  abbrev pub deep : List N.Method → ℕ → N.Work → ℕ
  deep methods zero w = 1
  deep methods (suc k) w = best (deep methods k) (group w) methods

  weights_same : (g h : N.Work → ℕ) (m : N.Method) (k i : ℕ) (ws : List N.Work) → ((j : ℕ) (u : N.Work) → slice_get ws j ≡ Some u → block m (i + j) ≡ k → g u ≡ h u)
      → weights N block g m k i ws ≡ weights N block h m k i ws
  weights_same g h m k i [] f = refl
  weights_same g h m k i (w ∷ ws) f =
      let a = weight_same k (block m i) (g w) (h w) (λ e. f 0 w refl (subst (λ z. block m z ≡ k) (let y : i ≡ i + 0 = omega arith in y) e)) in
      let b = weights_same g h m k (suc i) ws (λ j u s e. f (suc j) u s (subst (λ z. block m z ≡ k) (let y : suc i + j ≡ i + suc j = omega arith in y) e)) in
      omega arith

  best_positive : (number : N.Work → ℕ) (g : ℕ) (ms : List N.Method) → 1 ≤ best number g ms
  best_positive number g [] = omega arith
  best_positive number g (m ∷ ms) =
      let a = best_positive number g ms in
      let b = larger_right (or_one (same_or_not g (group (N.head m))) (best_block number m (count N m))) (best number g ms) in
      omega arith

  block_above : (number : N.Work → ℕ) (m : N.Method) (n i : ℕ) → i < n → value number m (block m i) ≤ best_block number m n
  block_above number m zero i l = absurd (omega arith)
  block_above number m (suc n) i l = go (same_or_not i n) (λ k. block_above number m n i k)
    where
      go : (i ≡ n) ⊎ (i ≡ n → ⊥) → (i < n → value number m (block m i) ≤ best_block number m n) → value number m (block m i) ≤ larger (value number m (block m n)) (best_block number m n)
      go (inl e) f = let a = larger_left (value number m (block m n)) (best_block number m n) in let b = ap (λ z. value number m (block m z)) e in omega arith
      go (inr d) f = let a = larger_right (value number m (block m n)) (best_block number m n) in let b = f (omega arith) in omega arith

  best_above : (number : N.Work → ℕ) (g : ℕ) (ms : List N.Method) (m : N.Method) → Contains ms m → g ≡ group (N.head m) → best_block number m (count N m) ≤ best number g ms
  best_above number g [] m c e = absurd (not-in_empty m c)
  best_above number g (d ∷ ms) m c e = go (head_or_tail d ms m c) (λ k. best_above number g ms m k e)
    where
      first : ℕ
      first = or_one (same_or_not g (group (N.head d))) (best_block number d (count N d))

      go : (d ≡ m) ⊎ Contains ms m → (Contains ms m → best_block number m (count N m) ≤ best number g ms)
          → best_block number m (count N m) ≤ larger (or_one (same_or_not g (group (N.head d))) (best_block number d (count N d))) (best number g ms)
      go (inl f) k =
          let a = larger_left (or_one (same_or_not g (group (N.head d))) (best_block number d (count N d))) (best number g ms) in
          let b = or_one_so (same_or_not g (group (N.head d))) (best_block number d (count N d)) (λ n. n (e ∙ ap (λ z. group (N.head z)) (sym f))) in
          let h = ap (λ z. best_block number z (count N z)) f in
          omega arith
      go (inr k) f =
          let a = larger_right (or_one (same_or_not g (group (N.head d))) (best_block number d (count N d))) (best number g ms) in
          let b = f k in
          omega arith

  abbrev BlockAttained : (N.Work → ℕ) → N.Method → ℕ → Type 0
  BlockAttained number m n = (i : ℕ) × (i < n) × IsFree m (block m i) 0 (N.works m) × (best_block number m n ≡ block_number N block number m (block m i))

  block_attained : (number : N.Work → ℕ) (m : N.Method) (n : ℕ) → (best_block number m n ≡ 1) ⊎ BlockAttained number m n
  block_attained number m zero = inl refl
  block_attained number m (suc n) = go (larger_is (value number m (block m n)) (best_block number m n)) (or_one_is (free_or_own m (block m n) 0 (N.works m)) (block_number N block number m (block m n))) (block_attained number m n)
    where
      go : (best_block number m (suc n) ≡ value number m (block m n)) ⊎ (best_block number m (suc n) ≡ best_block number m n)
          → (value number m (block m n) ≡ 1) ⊎ (IsFree m (block m n) 0 (N.works m) × (value number m (block m n) ≡ block_number N block number m (block m n)))
          → (best_block number m n ≡ 1) ⊎ BlockAttained number m n
          → (best_block number m (suc n) ≡ 1) ⊎ BlockAttained number m (suc n)
      go (inl e) (inl f) h = inl (e ∙ f)
      go (inl e) (inr (free, f)) h = inr (n, omega arith, free, e ∙ f)
      go (inr e) v (inl f) = inl (e ∙ f)
      go (inr e) v (inr (i, l, free, f)) = inr (i, omega arith, free, e ∙ f)

  abbrev Attained : (N.Work → ℕ) → ℕ → List N.Method → Type 0
  Attained number g ms = (m : N.Method) × Contains ms m × (g ≡ group (N.head m)) × (best number g ms ≡ best_block number m (count N m))

  best_attained : (number : N.Work → ℕ) (g : ℕ) (ms : List N.Method) → (best number g ms ≡ 1) ⊎ Attained number g ms
  best_attained number g [] = inl refl
  best_attained number g (d ∷ ms) = go (larger_is (or_one (same_or_not g (group (N.head d))) (best_block number d (count N d))) (best number g ms)) (or_one_is (same_or_not g (group (N.head d))) (best_block number d (count N d))) (best_attained number g ms)
    where
      go : (best number g (d ∷ ms) ≡ or_one (same_or_not g (group (N.head d))) (best_block number d (count N d))) ⊎ (best number g (d ∷ ms) ≡ best number g ms)
          → (or_one (same_or_not g (group (N.head d))) (best_block number d (count N d)) ≡ 1) ⊎ ((g ≡ group (N.head d)) × (or_one (same_or_not g (group (N.head d))) (best_block number d (count N d)) ≡ best_block number d (count N d)))
          → (best number g ms ≡ 1) ⊎ Attained number g ms
          → (best number g (d ∷ ms) ≡ 1) ⊎ Attained number g (d ∷ ms)
      go (inl e) (inl f) h = inl (e ∙ f)
      go (inl e) (inr (s, f)) h = inr (d, Contains-here d ms, s, e ∙ f)
      go (inr e) v (inl f) = inl (e ∙ f)
      go (inr e) v (inr (m, c, s, f)) = inr (m, Contains-later d ms m c, s, e ∙ f)

  module _ (top : N.Work) (methods : List N.Method) (rank : N.Work → ℕ) (fall : HasFallingRanks N block group top methods rank) where
    abbrev Reached : N.Work → Type 0
    Reached = IsReached N top

    block_same : (g h : N.Work → ℕ) (m : N.Method) → N.IsGround m → Reached (N.head m) → ((u : N.Work) → Reached u → rank u < rank (N.head m) → g u ≡ h u)
        → (n : ℕ) → best_block g m n ≡ best_block h m n
    block_same g h m ground r same zero = refl
    block_same g h m ground r same (suc n) =
        let a = or_one_same (free_or_own m (block m n) 0 (N.works m)) (block_number N block g m (block m n)) (block_number N block h m (block m n))
        (λ free. weights_same g h m (block m n) 0 (N.works m) (λ j u s b. same u (as_child m j ground r s) (fall.falls m j u ground r s (free j u s b)))) in
        let b = block_same g h m ground r same n in
        cc

    best_same : (g h : N.Work → ℕ) (w : N.Work) → Reached w → ((u : N.Work) → Reached u → rank u < rank w → g u ≡ h u)
        → (ms : List N.Method) → ((m : N.Method) → Contains ms m → N.IsGround m) → best g (group w) ms ≡ best h (group w) ms
    best_same g h w r same [] all = refl
    best_same g h w r same (m ∷ ms) all =
        let a = or_one_same (same_or_not (group w) (group (N.head m))) (best_block g m (count N m)) (best_block h m (count N m)) one in
        let b = best_same g h w r same ms (λ d c. all d (Contains-later m ms d c)) in
        cc
      where
        ground : N.IsGround m
        ground = all m (Contains-here m ms)

        one : group w ≡ group (N.head m) → best_block g m (count N m) ≡ best_block h m (count N m)
        one e = let (q, f) = fall.joined w m r ground e in block_same g h m ground q (λ u v l. same u v (omega arith)) (count N m)

    all_ground : (m : N.Method) → Contains methods m → N.IsGround m
    all_ground m c = (fall.listed m).0 c

    deep_same : (k n : ℕ) (w : N.Work) → Reached w → rank w < k → rank w < n → deep methods k w ≡ deep methods n w
    deep_same zero n w r a b = absurd (omega arith)
    deep_same (suc k) zero w r a b = absurd (omega arith)
    deep_same (suc k) (suc n) w r a b = best_same (deep methods k) (deep methods n) w r (λ u q l. deep_same k n u q (omega arith) (omega arith)) methods all_ground

    pub number_of : N.Work → ℕ
    number_of w = deep methods (suc (rank w)) w

    number_is : (w : N.Work) → Reached w → number_of w ≡ best number_of (group w) methods
    unfolding number_of
    number_is w r = best_same (deep methods (rank w)) number_of w r (λ u q l. deep_same (rank w) (suc (rank u)) u q l (omega arith)) methods all_ground

    free_counts : (number : N.Work → ℕ) (m : N.Method) (i : ℕ) → i < count N m → IsFree m (block m i) 0 (N.works m) → Counts N block number group m i
    free_counts number m i l free = (l, λ w o e. free o.child w o.is (ap (block m) (let y : 0 + o.child ≡ o.child = omega arith in y) ∙ o.in_block) e)

    counts_free : (number : N.Work → ℕ) (m : N.Method) (i : ℕ) → N.IsGround m → Reached (N.head m) → Counts N block number group m i → IsOwn m (block m i) 0 (N.works m) → ⊥
    counts_free number m i ground r counts (j, u, s, b, e) =
        fall.alone m j u number ground r s e (λ o. counts.1 u (subst (λ z. IsAloneAtTheEnd N block number m z u) (ap (block m) (let y : j ≡ 0 + j = omega arith in y) ∙ b) o) e)

    counted : (number : N.Work → ℕ) (w : N.Work) (m : N.Method) (i : ℕ) → N.IsGround m → Reached (N.head m) → group w ≡ group (N.head m) → Counts N block number group m i
        → block_number N block number m (block m i) ≤ best number (group w) methods
    counted number w m i ground r e counts =
        let a = or_one_so (free_or_own m (block m i) 0 (N.works m)) (block_number N block number m (block m i)) (counts_free number m i ground r counts) in
        let b = block_above number m (count N m) i counts.0 in
        let d = best_above number (group w) methods m ((fall.listed m).1 ground) e in
        omega arith

    abbrev IsAttained : (N.Work → ℕ) → N.Work → Type 0
    IsAttained number w = (m : N.Method) × (i : ℕ) × N.IsGround m × Reached (N.head m) × (group w ≡ group (N.head m)) × Counts N block number group m i × (block_number N block number m (block m i) ≡ best number (group w) methods)

    attained : (number : N.Work → ℕ) (w : N.Work) → Reached w → (best number (group w) methods ≡ 1) ⊎ IsAttained number w
    attained number w r = go (best_attained number (group w) methods)
      where
        at : (m : N.Method) → Contains methods m → group w ≡ group (N.head m) → best number (group w) methods ≡ best_block number m (count N m)
            → (best_block number m (count N m) ≡ 1) ⊎ BlockAttained number m (count N m) → (best number (group w) methods ≡ 1) ⊎ IsAttained number w
        at m c e f (inl h) = inl (f ∙ h)
        at m c e f (inr (i, l, free, h)) = let ground = all_ground m c in inr (m, i, ground, (fall.joined w m r ground e).0, e, free_counts number m i l free, sym (f ∙ h))

        go : (best number (group w) methods ≡ 1) ⊎ Attained number (group w) methods → (best number (group w) methods ≡ 1) ⊎ IsAttained number w
        go (inl f) = inl f
        go (inr (m, c, e, f)) = at m c e f (block_attained number m (count N m))

    -- numbers that are each the greatest of what counts are the bound
    best_is_bound : (number : N.Work → ℕ) → ((w : N.Work) → Reached w → number w ≡ best number (group w) methods) → IsTheBound N block number group top
    best_is_bound number is = record { simple = simple; positive = positive; above = above; attained = reached }
      where
        simple : (w : N.Work) → Reached w → N.IsSimple w → number w ≡ 1
        simple w r s = elim (attained number w r) [
          | inl e ↦ is w r ∙ e
          | inr (m, i, ground, q, e, c, f) ↦ absurd (fall.simple w m r s ground e)
        ]

        positive : (w : N.Work) → Reached w → 1 ≤ number w
        positive w r = let a = best_positive number (group w) methods in let b = is w r in omega arith

        above : (w : N.Work) (m : N.Method) (i : ℕ) → Reached w → N.IsGround m → Reached (N.head m) → group w ≡ group (N.head m) → Counts N block number group m i → block_number N block number m (block m i) ≤ number w
        above w m i r ground q e c = let a = counted number w m i ground q e c in let b = is w r in omega arith

        reached : (w : N.Work) → Reached w → (number w ≡ 1) ⊎ ((m : N.Method) × (i : ℕ) × N.IsGround m × Reached (N.head m) × (group w ≡ group (N.head m)) × Counts N block number group m i × (block_number N block number m (block m i) ≡ number w))
        reached w r = elim (attained number w r) [
          | inl e ↦ inl (is w r ∙ e)
          | inr (m, i, ground, q, e, c, f) ↦ inr (m, i, ground, q, e, c, f ∙ sym (is w r))
        ]

pub bound_exists : (N : Net) (block : N.Method → ℕ → ℕ) (group : N.Work → ℕ) (top : N.Work) (methods : List N.Method) (rank : N.Work → ℕ)
    → HasFallingRanks N block group top methods rank → (number : N.Work → ℕ) × IsTheBound N block number group top
bound_exists N block group top methods rank fall = (number_of N block group top methods rank fall, best_is_bound N block group top methods rank fall (number_of N block group top methods rank fall) (number_is N block group top methods rank fall))
