-- The bound of Transport with three packages is 15: get-to has 2, deliver 2 + 3, and three stand unordered. It is tail-recursive.
use Rattle.std.proofs.Common.{ℕ, zero, suc, ◌≡◌, ◌≢◌, ◌<◌, ◌≤◌, ◌⊎◌, inl, inr, List, [], ◌∷◌, Some, refl, subst, Contains, arith, slice_get}
use Rattle.std.specs.Prelude.{take, drop}
use Rattle.plan_model.specs.declared.schemas.MethodPlan.{MethodPlan}
use Rattle.plan_model.specs.task_networks.Order.{Precedes, direct, IsCut, IsLast}
use Rattle.plan_model.specs.task_networks.Bound.{AreBlocks, IsReached, itself, as_child, IsAloneAtTheEnd}
use Rattle.plan_model.specs.task_networks.Strata.{IsLawfulRanking}
use Rattle.plan_model.proofs.task_networks.Lists.{not-in_empty}
use Rattle.plan_model.proofs.task_networks.StrataLaws.{ranked_is_tail_recursive}
use Rattle.plan_model.specs.Pairs.{Pairs}
use Rattle.plan_model.specs.plan_meaning.Schemas.{Schema, task, action, check, schemas}
use Rattle.plan_model.specs.plan_meaning.Strata.{Edge, IsEdge, AreEdges, IsBad, IsTailRecursive, source, target}
use Rattle.plan_model.specs.plan_meaning.Bound.{IsBound}
use Rattle.plan_model.proofs.plan_meaning.ListedItems.{Every, of_each}
use Rattle.plan_model.proofs.plan_meaning.examples.EdgeChecks.{edge, are_edges_by, one_block, two_blocks}
use Rattle.plan_model.proofs.plan_meaning.examples.BoundChecks.{number_by, DoesCount, number_of_block, IsAttained, bound_by}
use Rattle.plan_model.proofs.plan_meaning.examples.BlocksRow.{is_zero}
use Rattle.plan_model.proofs.plan_meaning.examples.TransportOrder.{upward, to_chain}
use Rattle.plan_model.proofs.plan_meaning.examples.TransportValue.{transport, top, deliver, via, there}

-- task 2 is the top task, task 0 deliver, task 1 get-to
deliver_is_reached : IsReached (schemas transport) (task 2) (task 0)
deliver_is_reached = as_child 0 0 (top, refl) itself refl

get_to_is_reached : IsReached (schemas transport) (task 2) (task 1)
get_to_is_reached = as_child 1 0 (deliver, refl) deliver_is_reached refl

abbrev edges : List Edge
edges = edge 0 0 ∷ edge 0 1 ∷ edge 0 2 ∷ edge 1 0 ∷ edge 1 2 ∷ edge 2 1 ∷ []

are_edges : AreEdges transport edges
are_edges = are_edges_by transport edges (from_top 0 refl, (from_top 1 refl, (from_top 2 refl, (from_deliver 0 refl, (from_deliver 2 refl, (from_via, tt)))))) all (inr (refl, omega arith), (inr (refl, omega arith), (inl (omega arith), (inr (refl, omega arith), (inl (omega arith), tt)))))
  where
    from_top : (i : ℕ) → slice_get ((schemas transport).works 0) i ≡ Some (task 0) → IsEdge transport (edge 0 i)
    from_top i e = record { ground = (top, refl); reached = itself; subtask = 0; is = e }

    from_deliver : (i : ℕ) → slice_get ((schemas transport).works 1) i ≡ Some (task 1) → IsEdge transport (edge 1 i)
    from_deliver i e = record { ground = (deliver, refl); reached = deliver_is_reached; subtask = 1; is = e }

    from_via : IsEdge transport (edge 2 1)
    from_via = record { ground = (via, refl); reached = get_to_is_reached; subtask = 1; is = refl }

    all : (m i : ℕ) → IsEdge transport (edge m i) → Contains edges (edge m i)
    all zero zero e = (0, omega arith, refl)
    all zero (suc zero) e = (1, omega arith, refl)
    all zero (suc (suc zero)) e = (2, omega arith, refl)
    all zero (suc (suc (suc i))) e = let f = e.is in absurd cc
    all (suc zero) zero e = (3, omega arith, refl)
    all (suc zero) (suc zero) e = let f = e.is in absurd cc
    all (suc zero) (suc (suc zero)) e = (4, omega arith, refl)
    all (suc zero) (suc (suc (suc zero))) e = let f = e.is in absurd cc
    all (suc zero) (suc (suc (suc (suc i)))) e = let f = e.is in absurd cc
    all (suc (suc zero)) zero e = let f = e.is in absurd cc
    all (suc (suc zero)) (suc zero) e = (5, omega arith, refl)
    all (suc (suc zero)) (suc (suc i)) e = let f = e.is in absurd cc
    all (suc (suc (suc zero))) zero e = let f = e.is in absurd cc
    all (suc (suc (suc zero))) (suc i) e = let f = e.is in absurd cc
    all (suc (suc (suc (suc m)))) i e = let f = e.is in absurd cc

-- get-to below deliver, and deliver below the top task
abbrev rank : Schema → ℕ
rank (action a) = 0
rank (check m) = 0
rank (task zero) = 1
rank (task (suc zero)) = 0
rank (task (suc (suc t))) = 2

-- the one edge that stays is that of m-via, whose get-to comes last
tail_recursive : IsTailRecursive transport
tail_recursive = (edges, are_edges, ranked_is_tail_recursive (source transport) (target transport) edges (IsBad transport) rank lawful)
  where
    get_to_is_last : IsLast (Pairs via.schema.pairs) 2 1
    get_to_is_last = (omega arith, before)
      where
        before : (j : ℕ) → j < 2 → j ≢ 1 → Precedes (Pairs via.schema.pairs) j 1
        before zero l n = direct (0, omega arith, refl)
        before (suc j) l n = absurd (n (omega arith))

    lawful : IsLawfulRanking (source transport) (target transport) edges (IsBad transport) rank
    lawful e c = of_each (λ e. (rank (target transport e) < rank (source transport e)) ⊎ ((IsBad transport e → ⊥) × (rank (target transport e) ≤ rank (source transport e)))) edges
        (inl (omega arith), (inl (omega arith), (inl (omega arith), (inl (omega arith), (inl (omega arith), (inr ((λ bad. bad get_to_is_last), omega arith), tt)))))) e c

-- the children of m-deliver are a block each
four_blocks : AreBlocks (Pairs deliver.schema.pairs) (0 ∷ 1 ∷ 2 ∷ 3 ∷ []) (λ i. i)
four_blocks i j c d = (λ l. (j, cut j, taken i j l (below_four j d), left j (below_four j d)), λ h. (upward i j (h.1 i j h.2 h.3)).0)
  where
    below_four : (j : ℕ) → Contains {X = ℕ} (0 ∷ 1 ∷ 2 ∷ 3 ∷ []) j → j < 4
    below_four j d = of_each (λ x. x < 4) (0 ∷ 1 ∷ 2 ∷ 3 ∷ []) (omega arith, (omega arith, (omega arith, (omega arith, tt)))) j d

    taken : (i j : ℕ) → i < j → j < 4 → Contains (take j (0 ∷ 1 ∷ 2 ∷ 3 ∷ [])) i
    taken i zero l m = absurd (omega arith)
    taken zero (suc j) l m = (0, omega arith, refl)
    taken (suc zero) (suc zero) l m = absurd (omega arith)
    taken (suc zero) (suc (suc j)) l m = (1, omega arith, refl)
    taken (suc (suc zero)) (suc zero) l m = absurd (omega arith)
    taken (suc (suc zero)) (suc (suc zero)) l m = absurd (omega arith)
    taken (suc (suc zero)) (suc (suc (suc j))) l m = (2, omega arith, refl)
    taken (suc (suc (suc i))) j l m = absurd (omega arith)

    left : (j : ℕ) → j < 4 → Contains (drop j (0 ∷ 1 ∷ 2 ∷ 3 ∷ [])) j
    left zero m = (0, omega arith, refl)
    left (suc zero) m = (0, omega arith, refl)
    left (suc (suc zero)) m = (0, omega arith, refl)
    left (suc (suc (suc zero))) m = (0, omega arith, refl)
    left (suc (suc (suc (suc j)))) m = absurd (omega arith)

    parts : (k : ℕ) (low high : List ℕ) → Every (λ x. x < k) low → Every (λ x. (k ≤ x) × (x < 4)) high → (a b : ℕ) → Contains low a → Contains high b → Precedes (Pairs deliver.schema.pairs) a b
    parts k low high f g a b x y =
        let p = of_each (λ x. x < k) low f a x in
        let q = of_each (λ x. (k ≤ x) × (x < 4)) high g b y in
        let r = q.0 in
        to_chain a b (omega arith) q.1

    cut : (k : ℕ) → IsCut (Pairs deliver.schema.pairs) (0 ∷ 1 ∷ 2 ∷ 3 ∷ []) k
    cut zero = λ a b x y. absurd (not-in_empty a x)
    cut (suc zero) = parts 1 (0 ∷ []) (1 ∷ 2 ∷ 3 ∷ []) (omega arith, tt) ((omega arith, omega arith), ((omega arith, omega arith), ((omega arith, omega arith), tt)))
    cut (suc (suc zero)) = parts 2 (0 ∷ 1 ∷ []) (2 ∷ 3 ∷ []) (omega arith, (omega arith, tt)) ((omega arith, omega arith), ((omega arith, omega arith), tt))
    cut (suc (suc (suc zero))) = parts 3 (0 ∷ 1 ∷ 2 ∷ []) (3 ∷ []) (omega arith, (omega arith, (omega arith, tt))) ((omega arith, omega arith), tt)
    cut (suc (suc (suc (suc k)))) = λ a b x y. absurd (none k b y)
      where
        none : (k b : ℕ) → Contains (drop (suc (suc (suc (suc k)))) (0 ∷ 1 ∷ 2 ∷ 3 ∷ [])) b → ⊥
        none zero b y = not-in_empty b y
        none (suc k) b y = not-in_empty b y

abbrev block : ℕ → ℕ → ℕ
block zero i = 0
block (suc zero) i = i
block (suc (suc zero)) i = i
block (suc (suc (suc m))) i = 0

abbrev number : ℕ → ℕ
number zero = 5
number (suc zero) = 2
number (suc (suc zero)) = 15
number (suc (suc (suc t))) = 1

bound_is_15 : IsBound transport 15
bound_is_15 = bound_by transport block number edges are_edges rank (inr (omega arith), (inr (omega arith), (inr (omega arith), (inr (omega arith), (inr (omega arith), (inl refl, tt)))))) blocks positive above attained
  where
    blocks : (m : ℕ) (plan : MethodPlan) → slice_get transport.methods m ≡ Some plan → AreBlocks (Pairs plan.schema.pairs) plan.line (block m)
    blocks zero plan e = subst (λ (p : MethodPlan). AreBlocks (Pairs p.schema.pairs) p.line (block 0)) (let f : top ≡ plan = cc in f) (one_block (0 ∷ 1 ∷ 2 ∷ []) (λ i j c. not-in_empty _ c))
    blocks (suc zero) plan e = subst (λ (p : MethodPlan). AreBlocks (Pairs p.schema.pairs) p.line (block 1)) (let f : deliver ≡ plan = cc in f) four_blocks
    blocks (suc (suc zero)) plan e = subst (λ (p : MethodPlan). AreBlocks (Pairs p.schema.pairs) p.line (block 2)) (let f : via ≡ plan = cc in f) (two_blocks (0, omega arith, refl))
    blocks (suc (suc (suc zero))) plan e = subst (λ (p : MethodPlan). AreBlocks (Pairs p.schema.pairs) p.line (block 3)) (let f : there ≡ plan = cc in f) (one_block (0 ∷ []) (λ i j c. not-in_empty _ c))
    blocks (suc (suc (suc (suc m)))) plan e = absurd cc

    positive : (t : ℕ) → 1 ≤ number t
    positive zero = omega arith
    positive (suc zero) = omega arith
    positive (suc (suc zero)) = omega arith
    positive (suc (suc (suc t))) = omega arith

    -- get-to is alone in the last block of m-via
    at_the_end : IsAloneAtTheEnd (schemas transport) block (number_by number) 2 1 (task 1)
    at_the_end = record { child = 1; is = refl; in_block = refl; earlier = λ i l n. omega arith }

    above : (m i : ℕ) → (schemas transport).IsGround m → DoesCount transport block number m i → number_of_block transport block number m i ≤ number_by number ((schemas transport).head m)
    above zero i g k = omega arith
    above (suc zero) zero g k = omega arith
    above (suc zero) (suc zero) g k = omega arith
    above (suc zero) (suc (suc zero)) g k = omega arith
    above (suc zero) (suc (suc (suc zero))) g k = omega arith
    above (suc zero) (suc (suc (suc (suc i)))) g k = absurd (let l = k.0 in omega arith)
    above (suc (suc zero)) zero g k = omega arith
    above (suc (suc zero)) (suc zero) g k = absurd (k.1 (task 1) at_the_end refl)
    above (suc (suc zero)) (suc (suc i)) g k = absurd (let l = k.0 in omega arith)
    above (suc (suc (suc zero))) i g k = omega arith
    above (suc (suc (suc (suc m)))) i g k = absurd (let f = g.1 in cc)

    top_counts : DoesCount transport block number 0 0
    top_counts = (omega arith, λ w o e. elim (is_zero o.child) [ inl f ↦ (let l = o.earlier 1 (omega arith) (omega arith) in omega arith) | inr f ↦ (let l = o.earlier 0 (omega arith) (omega arith) in omega arith) ])

    -- the first of several blocks isn't the last
    deliver_counts : DoesCount transport block number 1 0
    deliver_counts = (omega arith, λ w o e. (let b = o.in_block in let c = o.earlier 1 (omega arith) (omega arith) in omega arith))

    via_counts : DoesCount transport block number 2 0
    via_counts = (omega arith, λ w o e. (let b = o.in_block in let c = o.earlier 1 (omega arith) (omega arith) in omega arith))

    attained : (t : ℕ) → IsAttained transport block number t
    attained zero = inr (1, 0, (deliver, refl), deliver_is_reached, refl, deliver_counts, refl)
    attained (suc zero) = inr (2, 0, (via, refl), get_to_is_reached, refl, via_counts, refl)
    attained (suc (suc zero)) = inr (0, 0, (top, refl), itself, refl, top_counts, refl)
    attained (suc (suc (suc t))) = inl refl
