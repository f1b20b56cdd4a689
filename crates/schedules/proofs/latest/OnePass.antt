-- What one pass finds is the latest gap function, and where nothing fits there is no gap function.
use Rattle.std.proofs.Common.{ℕ, zero, suc, ◌≡◌, ◌+◌, ◌<◌, ◌≤◌, ◌⊎◌, ◌↔◌, inl, inr, List, [], ◌∷◌, length, min, slice_get, Some, ap, sym, subst, Contains, arith}
use Rattle.plan_model.specs.task_networks.Order.{Precedes, direct, through}
use Rattle.plan_model.specs.task_networks.Net.{Net}
use Rattle.plan_model.specs.task_networks.Tree.{Tree, Address, used, label_at, IsAddress}
use Rattle.plan_model.specs.task_networks.Schedule.{Blocks}
use Rattle.plan_model.proofs.task_networks.Addresses.{below-itself}
use Rattle.plan_model.proofs.task_networks.Lists.{head_or_tail}
use Rattle.schedules.specs.latest.Gaps.{IsGapFunction, IsLatest}
use Rattle.schedules.specs.latest.OnePass.{IsUnder, IsCap, Fits, IsGreatestAt}
use Rattle.plan_model.proofs.task_networks.Parents.{parent_address}
use Rattle.schedules.proofs.latest.Counts.{to_place}

module _ (N : Net) (tree : Tree N) (plan : List Address) where
  -- what a child must precede: what its parent must, and later siblings
  pub blocks_child : (i : ℕ) (p : Address) (m : N.Method) → label_at N tree p ≡ Some (used m) → (v : Address) → Blocks N tree (i ∷ p) v
      → Blocks N tree p v ⊎ ((j : ℕ) × (v ≡ j ∷ p) × Precedes (N.Pair m) i j)
  blocks_child i p m e [] b = absurd b
  blocks_child i p m e (j ∷ q) (n, k, f, h, inl x) =
      let y : q ≡ p = cc in
      let z : m ≡ n = (let w = ap (label_at N tree) y in cc) in
      inr (j, ap (λ r. j ∷ r) y, subst (λ r. Precedes (N.Pair r) i j) (sym z) (subst (λ r. Precedes (N.Pair n) r j) (let w : k ≡ i = cc in w) h))
  blocks_child i p m e (j ∷ q) (n, k, f, h, inr x) = inl (n, k, f, h, x)

  pub blocks_parent : (i : ℕ) (p v : Address) → Blocks N tree p v → Blocks N tree (i ∷ p) v
  blocks_parent i p [] b = b
  blocks_parent i p (j ∷ q) (n, k, f, h, x) = (n, k, f, h, inr x)

  -- the root must precede nothing
  pub root_blocks_nothing : (v : Address) → Blocks N tree [] v → ⊥
  root_blocks_nothing [] b = b
  root_blocks_nothing (j ∷ q) (n, k, f, h, x) = cc

  module _ (gap : Address → ℕ) where
    -- the pass hands down: to the root the number of primitives,
    pub root_cap : IsCap N tree plan gap [] (length plan)
    root_cap k = (λ u. u.range, λ l. record { range = l; later = λ v a b. absurd (root_blocks_nothing v b) })

    -- to a child what its parent has, and the numbers of siblings right after it, where these are in order themselves
    pub child_cap : (i : ℕ) (p : Address) (m : N.Method) (cap bound : ℕ) → label_at N tree p ≡ Some (used m) → IsCap N tree plan gap p cap
        → ((j l : ℕ) → IsAddress N tree (j ∷ p) → IsAddress N tree (l ∷ p) → Precedes (N.Pair m) i j → N.Pair m j l → gap (j ∷ p) ≤ gap (l ∷ p))
        → ((j l : ℕ) → N.Pair m j l → IsAddress N tree (j ∷ p))
        → ((k : ℕ) → ((j : ℕ) → IsAddress N tree (j ∷ p) → N.Pair m i j → k ≤ gap (j ∷ p)) ↔ (k ≤ bound))
        → IsCap N tree plan gap (i ∷ p) (min cap bound)
    child_cap i p m cap bound e is_cap sorted nodes is_bound k = (to, from)
      where
        to : IsUnder N tree plan gap (i ∷ p) k → k ≤ min cap bound
        to u =
            let x = (is_cap k).0 (record { range = u.range; later = λ v a b. u.later v a (blocks_parent i p v b) }) in
            let y = (is_bound k).0 (λ j a h. u.later (j ∷ p) a (m, i, e, direct h, below-itself (i ∷ p))) in
            omega arith

        along : ((j : ℕ) → IsAddress N tree (j ∷ p) → N.Pair m i j → k ≤ gap (j ∷ p)) → (j : ℕ) → IsAddress N tree (j ∷ p)
            → Precedes (N.Pair m) i j → k ≤ gap (j ∷ p)
        along f j a (direct h) = f j a h
        along f l a (through {j = j} c h) = let x = along f j (nodes j l h) c in let y = sorted j l (nodes j l h) a c h in omega arith

        from : k ≤ min cap bound → IsUnder N tree plan gap (i ∷ p) k
        from l =
            let u : IsUnder N tree plan gap p k = (is_cap k).1 (omega arith) in
            let f = (is_bound k).1 (omega arith) in
            record { range = u.range; later = λ v a b. elim (blocks_child i p m e v b) [ inl c ↦ u.later v a c | inr (j, g, h) ↦ subst (λ z. k ≤ gap z) (sym g) (along f j (subst (IsAddress N tree) g a) h) ] }

  module _ (Allowed : Address → ℕ → Type 0) where
    -- the step of the pass: where no gap function is above what stands at the later nodes, each gap function's number fits here
    pub number_fits : (gap g : Address → ℕ) (u : Address) → IsGapFunction N tree plan Allowed g → IsAddress N tree u
        → ((i : ℕ) → IsAddress N tree (i ∷ u) → g (i ∷ u) ≤ gap (i ∷ u))
        → ((v : Address) → IsAddress N tree v → Blocks N tree u v → g v ≤ gap v) → Fits N tree plan Allowed gap u (g u)
    number_fits gap g u r a below later = record {
      under = record { range = r.range u a; later = λ v b c. (let x = later v b c in let y = r.before u v a b c in omega arith) };
      own = λ i e. r.own i u e;
      children = λ i b. (let x = below i b in let y = r.children i u b in omega arith);
      primitive = λ p v b c. (let x = later v b c in let y = r.primitive_before u v p b c in omega arith);
      allowed = r.allowed u a;
    }

    -- where each node has the greatest that fits, all together is the latest
    module _ (rank : Address → ℕ) (most : ℕ) (rank_most : (p : Address) → rank p ≤ most)
        (rank_child : (i : ℕ) (p : Address) → IsAddress N tree (i ∷ p) → rank p < rank (i ∷ p))
        (rank_blocks : (u v : Address) → IsAddress N tree u → IsAddress N tree v → Blocks N tree u v → rank u < rank v)
        (gap : Address → ℕ) (each : (u : Address) → IsAddress N tree u → IsGreatestAt N tree plan Allowed gap u) where
      above : (k : ℕ) (g : Address → ℕ) → IsGapFunction N tree plan Allowed g → (u : Address) → IsAddress N tree u → most < k + rank u
          → g u ≤ gap u
      above zero g r u a l = let x = rank_most u in absurd (omega arith)
      above (suc k) g r u a l = (each u a).greatest (g u) (number_fits gap g u r a
          (λ i b. above k g r (i ∷ u) b (let x = rank_child i u b in omega arith))
          (λ v b c. above k g r v b (let x = rank_blocks u v a b c in omega arith)))

      pub one_pass_is_latest : ((i : ℕ) (p : Address) → slice_get plan i ≡ Some p → IsAddress N tree p) → IsLatest N tree plan Allowed gap
      one_pass_is_latest node = record {
        is = record {
          range = λ p a. (each p a).fits.under.range;
          own = λ i p e. (each p (node i p e)).fits.own i e;
          children = λ i p a. (each p (up i p a)).fits.children i a;
          before = λ u v a b c. (each u a).fits.under.later v b c;
          primitive_before = λ u v p b c. (each u (first u v p c)).fits.primitive p v b c;
          allowed = λ p a. (each p a).fits.allowed;
        };
        greatest = λ g r p a. above (suc most) g r p a (omega arith);
      }
        where
          up : (i : ℕ) (p : Address) → IsAddress N tree (i ∷ p) → IsAddress N tree p
          up i p a = parent_address N tree i p a

          first : (u v : Address) → Contains plan u → Blocks N tree u v → IsAddress N tree u
          first u v p c = let (i, e) = to_place plan u p in node i u e

    -- the pass as a loop keeps it: of the nodes that are done, no gap function has a greater number
    abbrev pub IsAboveAll : List Address → (Address → ℕ) → Type 0
    IsAboveAll finished gap = (g : Address → ℕ) → IsGapFunction N tree plan Allowed g → (p : Address) → Contains finished p → g p ≤ gap p

    -- u's turn comes after its children and all that it must precede
    pub record IsNextOf (finished : List Address) (u : Address) : Type 0 where
      pub node : IsAddress N tree u
      pub children : (i : ℕ) → IsAddress N tree (i ∷ u) → Contains finished (i ∷ u)
      pub later : (v : Address) → IsAddress N tree v → Blocks N tree u v → Contains finished v

    pub pass_goes_on : (finished : List Address) (gap : Address → ℕ) (u : Address) → IsAboveAll finished gap → IsNextOf finished u
        → IsGreatestAt N tree plan Allowed gap u → IsAboveAll (u ∷ finished) gap
    pass_goes_on finished gap u a n h g r p c = elim (head_or_tail u finished p c) [
      | inl e ↦ subst (λ z. g z ≤ gap z) e (h.greatest (g u) (number_fits gap g u r n.node (λ i b. a g r (i ∷ u) (n.children i b)) (λ v b d. a g r v (n.later v b d))))
      | inr d ↦ a g r p d
    ]

    -- where nothing fits there is no gap function
    pub pass_fails : (finished : List Address) (gap : Address → ℕ) (u : Address) → IsAboveAll finished gap → IsNextOf finished u
        → ((k : ℕ) → Fits N tree plan Allowed gap u k → ⊥)
        → (g : Address → ℕ) → IsGapFunction N tree plan Allowed g → ⊥
    pass_fails finished gap u a n none g r = none (g u) (number_fits gap g u r n.node (λ i b. a g r (i ∷ u) (n.children i b)) (λ v b d. a g r v (n.later v b d)))
