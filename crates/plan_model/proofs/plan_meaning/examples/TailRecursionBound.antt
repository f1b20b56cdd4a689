-- The bound of tail recursion, m1: t -> a < t and m0: t -> nothing, is 2; it is tail-recursive.
use Rattle.std.proofs.Common.{ℕ, zero, suc, ◌≡◌, ◌≢◌, ◌<◌, ◌≤◌, inl, inr, List, [], ◌∷◌, Some, refl, sym, subst, Contains, arith, slice_get}
use Rattle.plan_model.specs.declared.schemas.MethodPlan.{MethodPlan}
use Rattle.plan_model.specs.task_networks.Order.{Precedes, direct, IsLast}
use Rattle.plan_model.specs.task_networks.Bound.{AreBlocks, IsReached, itself, as_child, IsAloneAtTheEnd}
use Rattle.plan_model.proofs.task_networks.Lists.{not-in_empty}
use Rattle.plan_model.specs.Pairs.{Pairs}
use Rattle.plan_model.specs.plan_meaning.Schemas.{Schema, task, schemas}
use Rattle.plan_model.specs.plan_meaning.Strata.{Edge, IsEdge, AreEdges, IsBad, IsTailRecursive}
use Rattle.plan_model.specs.plan_meaning.Bound.{IsBound}
use Rattle.plan_model.proofs.plan_meaning.ListedItems.{of_each}
use Rattle.plan_model.proofs.plan_meaning.examples.EdgeChecks.{edge, are_edges_by, own_group, one_block, two_blocks}
use Rattle.plan_model.proofs.plan_meaning.examples.BoundChecks.{number_by, DoesCount, number_of_block, IsAttained, bound_by}
use Rattle.plan_model.proofs.plan_meaning.examples.TailRecursionRow.{tail_recursion, top, again, stop}

-- task 1 is the top task, task 0 is t
t_is_reached : IsReached (schemas tail_recursion) (task 1) (task 0)
t_is_reached = as_child 0 0 (top, refl) itself refl

abbrev edges : List Edge
edges = edge 0 0 ∷ edge 1 1 ∷ []

are_edges : AreEdges tail_recursion edges
are_edges = are_edges_by tail_recursion edges (from_top, (from_t, tt)) all (inl (omega arith), tt)
  where
    from_top : IsEdge tail_recursion (edge 0 0)
    from_top = record { ground = (top, refl); reached = itself; subtask = 0; is = refl }

    from_t : IsEdge tail_recursion (edge 1 1)
    from_t = record { ground = (again, refl); reached = t_is_reached; subtask = 0; is = refl }

    all : (m i : ℕ) → IsEdge tail_recursion (edge m i) → Contains edges (edge m i)
    all zero zero e = (0, omega arith, refl)
    all zero (suc i) e = let f = e.is in absurd cc
    all (suc zero) zero e = let f = e.is in absurd cc
    all (suc zero) (suc zero) e = (1, omega arith, refl)
    all (suc zero) (suc (suc i)) e = let f = e.is in absurd cc
    all (suc (suc zero)) i e = let f = e.is in absurd cc
    all (suc (suc (suc m))) i e = let f = e.is in absurd cc

tail_recursive : IsTailRecursive tail_recursion
tail_recursive = (edges, are_edges, λ e walk b. of_each (λ e. IsBad tail_recursion e → ⊥) edges ((λ bad. bad only_child), ((λ bad. bad t_is_last), tt)) e b.0 b.1)
  where
    only_child : IsLast (Pairs top.schema.pairs) 1 0
    only_child = (omega arith, λ j l n. absurd (omega arith))

    t_is_last : IsLast (Pairs again.schema.pairs) 2 1
    t_is_last = (omega arith, before)
      where
        before : (j : ℕ) → j < 2 → j ≢ 1 → Precedes (Pairs again.schema.pairs) j 1
        before zero l n = direct (0, omega arith, refl)
        before (suc j) l n = absurd (n (omega arith))

-- a is in the first block of m1, t in the second
abbrev block : ℕ → ℕ → ℕ
block zero i = 0
block (suc zero) i = i
block (suc (suc m)) i = 0

abbrev number : ℕ → ℕ
number zero = 2
number (suc zero) = 2
number (suc (suc t)) = 1

bound_is_two : IsBound tail_recursion 2
bound_is_two = bound_by tail_recursion block number edges are_edges own_group (inr (omega arith), (inl refl, tt)) blocks positive above attained
  where
    blocks : (m : ℕ) (plan : MethodPlan) → slice_get tail_recursion.methods m ≡ Some plan → AreBlocks (Pairs plan.schema.pairs) plan.line (block m)
    blocks zero plan e = subst (λ (p : MethodPlan). AreBlocks (Pairs p.schema.pairs) p.line (block 0)) (let f : top ≡ plan = cc in f) (one_block (0 ∷ []) (λ i j c. not-in_empty _ c))
    blocks (suc zero) plan e = subst (λ (p : MethodPlan). AreBlocks (Pairs p.schema.pairs) p.line (block 1)) (let f : again ≡ plan = cc in f) (two_blocks (0, omega arith, refl))
    blocks (suc (suc zero)) plan e = subst (λ (p : MethodPlan). AreBlocks (Pairs p.schema.pairs) p.line (block 2)) (let f : stop ≡ plan = cc in f) (one_block [] (λ i j c. not-in_empty _ c))
    blocks (suc (suc (suc m))) plan e = absurd cc

    positive : (t : ℕ) → 1 ≤ number t
    positive zero = omega arith
    positive (suc zero) = omega arith
    positive (suc (suc t)) = omega arith

    -- t is alone in the last block of m1, and of the same group
    t_at_the_end : IsAloneAtTheEnd (schemas tail_recursion) block (number_by number) 1 1 (task 0)
    t_at_the_end = record { child = 1; is = refl; in_block = refl; earlier = λ i l n. omega arith }

    above : (m i : ℕ) → (schemas tail_recursion).IsGround m → DoesCount tail_recursion block number m i → number_of_block tail_recursion block number m i ≤ number_by number ((schemas tail_recursion).head m)
    above zero i g k = omega arith
    above (suc zero) zero g k = omega arith
    above (suc zero) (suc zero) g k = absurd (k.1 (task 0) t_at_the_end refl)
    above (suc zero) (suc (suc i)) g k = absurd (let l = k.0 in omega arith)
    above (suc (suc zero)) i g k = absurd (let l = k.0 in omega arith)
    above (suc (suc (suc m))) i g k = absurd (let f = g.1 in cc)

    -- the top method's block has t alone, which is of another group
    top_counts : DoesCount tail_recursion block number 0 0
    top_counts = (omega arith, λ w o e. at o.child o.is e)
      where
        at : (j : ℕ) {w : Schema} → slice_get ((schemas tail_recursion).works 0) j ≡ Some w → own_group w ≡ own_group (task 1) → ⊥
        at zero {w = w} f e = let g : task 0 ≡ w = cc in (let h : own_group (task 0) ≡ own_group (task 1) = subst (λ z. own_group z ≡ own_group (task 1)) (sym g) e in omega arith)
        at (suc j) f e = absurd cc

    first_counts : DoesCount tail_recursion block number 1 0
    first_counts = (omega arith, λ w o e. (let b = o.in_block in let c = o.earlier 1 (omega arith) (omega arith) in omega arith))

    attained : (t : ℕ) → IsAttained tail_recursion block number t
    attained zero = inr (1, 0, (again, refl), t_is_reached, refl, first_counts, refl)
    attained (suc zero) = inr (0, 0, (top, refl), itself, refl, top_counts, refl)
    attained (suc (suc t)) = inl refl
