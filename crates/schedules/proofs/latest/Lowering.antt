-- The latest gap function, by lowering from the top: as long as a rule is broken, one node's number goes down by one.
-- Every gap function stays below. So what is left when no rule is broken is the latest one, and where a number would go below 0 there is none.
use Rattle.std.proofs.Common.{ℕ, zero, suc, ◌≡◌, ◌-◌, ◌<◌, ◌≤◌, ◌⊎◌, inl, inr, List, [], ◌∷◌, length, min, slice_get, Option, Some, None, Bool, true, false, cond, refl, ap, sym, subst, ◌∙◌, Contains, arith}
use Rattle.std.proofs.Math.Decide.{ℕ_discrete}
use Rattle.std.proofs.lemmas.Option.{slice_get_within}
use Rattle.plan_model.specs.task_networks.Net.{Net}
use Rattle.plan_model.specs.task_networks.Tree.{Tree, Address, ran, IsAddress}
use Rattle.plan_model.specs.task_networks.Schedule.{Blocks}
use Rattle.plan_model.specs.task_networks.Spelling.{numbers}
use Rattle.plan_model.specs.task_networks.Listed.{same_address, is_listed}
use Rattle.plan_model.specs.task_networks.Preorder.{nodes_at}
use Rattle.plan_model.proofs.task_networks.Nodes.{nodes, lists_address}
use Rattle.plan_model.proofs.task_networks.Numbers.{to_numbers}
use Rattle.plan_model.proofs.task_networks.PendingNodes.{among_to, to_among, same_to, address_same_itself}
use Rattle.schedules.specs.latest.Gaps.{IsPlanOf, IsGapFunction, IsLatest}
use Rattle.plan_model.proofs.task_networks.Parents.{parent_address}
use Rattle.schedules.proofs.latest.Counts.{found}
use Rattle.schedules.proofs.latest.Search.{each_or, total, total_smaller, at_most_total}

pub is_in : (xs : List Address) (p : Address) → Dec (Contains xs p)
is_in xs p = go (is_listed xs p) refl
  where
    go : (b : Bool) → is_listed xs p ≡ b → Dec (Contains xs p)
    go true e = yes (among_to xs p e)
    go false e = no (λ c. (let h = to_among xs p c in cc))

-- a function with one node's number lowered by one
lowered : (Address → ℕ) → Address → Address → ℕ
lowered h u p = cond (same_address u p) (h p - 1) (h p)

lowered_at : (h : Address → ℕ) (u : Address) → lowered h u u ≡ h u - 1
unfolding lowered
lowered_at h u = ap (λ b. cond b (h u - 1) (h u)) (address_same_itself u)

lowered_less : (h : Address → ℕ) (u p : Address) → lowered h u p ≤ h p
unfolding lowered
lowered_less h u p = go (same_address u p)
  where
    go : (b : Bool) → cond b (h p - 1) (h p) ≤ h p
    go true = omega arith
    go false = omega arith

-- what is below, and smaller at u, is below what is lowered at u
below_lowered : (g h : Address → ℕ) (u p : Address) → g p ≤ h p → g u < h u → g p ≤ lowered h u p
unfolding lowered
below_lowered g h u p a b = go (same_address u p) refl
  where
    go : (b : Bool) → same_address u p ≡ b → g p ≤ cond b (h p - 1) (h p)
    go true e = let k : g p < h p = subst (λ z. g z < h z) (same_to u p e) b in omega arith
    go false e = a

at_most_or : (a b : ℕ) → (a ≤ b) ⊎ (b < a)
at_most_or a b = elim (ℕ_discrete (min a b) a) [ yes e ↦ inl (omega arith) | no n ↦ inr (omega arith) ]

module _ (N : Net) (tree : Tree N) (plan : List Address) (a_plan : IsPlanOf N tree plan) (Allowed : Address → ℕ → Type 0)
    (is_allowed : (p : Address) (i : ℕ) → Dec (Allowed p i)) (is_blocking : (u v : Address) → Dec (Blocks N tree u v)) where
  abbrev IsGap : (Address → ℕ) → Type 0
  IsGap = IsGapFunction N tree plan Allowed

  abbrev all : List Address
  all = nodes_at N [] tree

  address_of : (p : Address) → Contains all p → IsAddress N tree p
  address_of p c = nodes N tree tree [] p (let x : Some tree ≡ Some tree = refl in x) c

  -- each gap function is below h
  abbrev IsAbove : (Address → ℕ) → Type 0
  IsAbove h = (g : Address → ℕ) → IsGap g → (p : Address) → IsAddress N tree p → g p ≤ h p

  -- each gap function that is below h is smaller at some node
  abbrev CanLower : (Address → ℕ) → Type 0
  CanLower h = (u : Address) × IsAddress N tree u × ((g : Address → ℕ) → IsGap g → ((p : Address) → IsAddress N tree p → g p ≤ h p) → g u < h u)

  module _ (h : Address → ℕ) (within : (p : Address) → h p ≤ length plan) where
    number_of : (i : ℕ) → ((p : Address) → slice_get plan i ≡ Some p → h p ≡ i) ⊎ CanLower h
    number_of i = go (slice_get plan i) refl
      where
        go : (o : Option Address) → slice_get plan i ≡ o → ((p : Address) → o ≡ Some p → h p ≡ i) ⊎ CanLower h
        go None e = inl (λ p f. absurd cc)
        go (Some q) e = elim (ℕ_discrete (h q) i) [
          | yes f ↦ inl (λ p k. (let x : q ≡ p = cc in ap h (sym x) ∙ f))
          | no n ↦ (let a = a_plan.leaves q (found plan i q e) in let b : IsAddress N tree q = (ran a.0, a.1) in inr (q, b, λ g r l. (let x = r.own i q e in let y = l q b in omega arith)))
        ]

    parent_of : (p : Address) → IsAddress N tree p → ((i : ℕ) (q : Address) → p ≡ i ∷ q → h q ≤ h p) ⊎ CanLower h
    parent_of [] a = inl (λ i q e. absurd cc)
    parent_of (i ∷ q) a = elim (at_most_or (h q) (h (i ∷ q))) [
      | inl x ↦ inl (λ j r e. subst (λ z. h z ≤ h (i ∷ q)) (let f : q ≡ r = cc in f) x)
      | inr x ↦ inr (q, parent_address N tree i q a, λ g r l. (let y = l (i ∷ q) a in let z = r.children i q a in omega arith))
    ]

    allowed_at : (p : Address) → IsAddress N tree p → Allowed p (h p) ⊎ CanLower h
    allowed_at p a = elim (is_allowed p (h p)) [
      | yes r ↦ inl r
      | no n ↦ inr (p, a, λ g r l. (let x = l p a in let y : g p ≡ h p → ⊥ = λ e. n (subst (Allowed p) e (r.allowed p a)) in omega arith))
    ]

    pair_of : (u v : Address) → IsAddress N tree u → IsAddress N tree v
        → (Blocks N tree u v → (h u ≤ h v) × (Contains plan u → h u < h v)) ⊎ CanLower h
    pair_of u v a b = elim (is_blocking u v) [
      | no n ↦ inl (λ c. absurd (n c))
      | yes c ↦ elim (at_most_or (h u) (h v)) [
        | inr x ↦ inr (u, a, λ g r l. (let y = l v b in let z = r.before u v a b c in omega arith))
        | inl x ↦ elim (is_in plan u) [
          | no n ↦ inl (λ d. (x, λ k. absurd (n k)))
          | yes k ↦ elim (at_most_or (suc (h u)) (h v)) [
            | inl y ↦ inl (λ d. (x, λ e. y))
            | inr y ↦ inr (u, a, λ g r l. (let z = l v b in let w = r.primitive_before u v k b c in omega arith))
          ]
        ]
      ]
    ]

    -- a rule is broken, or none is
    no_rule : IsGap h ⊎ CanLower h
    no_rule = go
        (each_or (numbers 0 (length plan)) (λ i. (p : Address) → slice_get plan i ≡ Some p → h p ≡ i) (CanLower h) (λ i c. number_of i))
        (each_or all (λ p. (i : ℕ) (q : Address) → p ≡ i ∷ q → h q ≤ h p) (CanLower h) (λ p c. parent_of p (address_of p c)))
        (each_or all (λ p. Allowed p (h p)) (CanLower h) (λ p c. allowed_at p (address_of p c)))
        (each_or all (λ v. (u : Address) → Contains all u → Blocks N tree u v → (h u ≤ h v) × (Contains plan u → h u < h v)) (CanLower h) (λ v c. each_or all (λ u. Blocks N tree u v → (h u ≤ h v) × (Contains plan u → h u < h v)) (CanLower h) (λ u d. pair_of u v (address_of u d) (address_of v c))))
      where
        go : ((i : ℕ) → Contains (numbers 0 (length plan)) i → (p : Address) → slice_get plan i ≡ Some p → h p ≡ i) ⊎ CanLower h
            → ((p : Address) → Contains all p → (i : ℕ) (q : Address) → p ≡ i ∷ q → h q ≤ h p) ⊎ CanLower h
            → ((p : Address) → Contains all p → Allowed p (h p)) ⊎ CanLower h
            → ((v : Address) → Contains all v → (u : Address) → Contains all u → Blocks N tree u v → (h u ≤ h v) × (Contains plan u → h u < h v)) ⊎ CanLower h
            → IsGap h ⊎ CanLower h
        go (inr r) b c d = inr r
        go (inl a) (inr r) c d = inr r
        go (inl a) (inl b) (inr r) d = inr r
        go (inl a) (inl b) (inl c) (inr r) = inr r
        go (inl a) (inl b) (inl c) (inl d) = inl (record {
          range = λ p n. within p;
          own = λ i p e. a i (to_numbers 0 (length plan) i (omega arith) (let l = slice_get_within plan i p e in omega arith)) p e;
          children = λ i p n. b (i ∷ p) (lists_address N tree (i ∷ p) n) i p refl;
          before = λ u v m n e. (d v (lists_address N tree v n) u (lists_address N tree u m) e).0;
          primitive_before = λ u v m n e. (let x = a_plan.leaves u m in (d v (lists_address N tree v n) u (lists_address N tree u (ran x.0, x.1)) e).1 m);
          allowed = λ p n. c p (lists_address N tree p n);
        })

  -- with k steps left
  lower : (k : ℕ) (h : Address → ℕ) → total h all ≤ k → ((p : Address) → h p ≤ length plan) → IsAbove h
      → ((gap : Address → ℕ) × IsLatest N tree plan Allowed gap) ⊎ ((g : Address → ℕ) → IsGap g → ⊥)
  lower zero h t w b = elim (no_rule h w) [
    | inl r ↦ inl (h, record { is = r; greatest = b })
    | inr x ↦ inr (λ g r. (let y = x.2 g r (b g r) in let z = at_most_total h all x.0 (lists_address N tree x.0 x.1) in omega arith))
  ]
  lower (suc k) h t w b = elim (no_rule h w) [
    | inl r ↦ inl (h, record { is = r; greatest = b })
    | inr x ↦ elim (ℕ_discrete (h x.0) 0) [
      | yes e ↦ inr (λ g r. (let y = x.2 g r (b g r) in omega arith))
      | no n ↦ lower k (lowered h x.0)
          (let s = total_smaller (lowered h x.0) h all x.0 (lowered_less h x.0) (lists_address N tree x.0 x.1) (let y = lowered_at h x.0 in omega arith) in omega arith)
          (λ p. (let y = lowered_less h x.0 p in let z = w p in omega arith))
          (λ g r p a. below_lowered g h x.0 p (b g r p a) (x.2 g r (b g r)))
    ]
  ]

  -- there is a latest gap function, or no gap function at all
  pub latest_or_none : ((gap : Address → ℕ) × IsLatest N tree plan Allowed gap) ⊎ ((g : Address → ℕ) → IsGap g → ⊥)
  latest_or_none = lower (total (λ p. length plan) all) (λ p. length plan) (omega arith) (λ p. omega arith) (λ g r p a. r.range p a)

  pub latest_exists : (g : Address → ℕ) → IsGap g → (gap : Address → ℕ) × IsLatest N tree plan Allowed gap
  latest_exists g r = elim latest_or_none [ inl x ↦ x | inr n ↦ absurd (n g r) ]
