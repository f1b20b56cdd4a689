-- Blocks: m: x -> a, b. Two x beside one another need four slots, and three where the first comes before the second.
use Rattle.std.proofs.Common.{ℕ, zero, suc, ◌≡◌, ◌<◌, ◌≤◌, ◌⊎◌, inl, inr, List, [], ◌∷◌, Some, false, refl, subst, Contains, arith, slice_get}
use Rattle.std.specs.Prelude.{codes}
use Rattle.plan_model.specs.declared.networks.Head.TheVariants.{Task, Action}
use Rattle.plan_model.specs.declared.networks.Pair.{Pair}
use Rattle.plan_model.specs.declared.schemas.MethodPlan.{MethodPlan}
use Rattle.plan_model.specs.declared.values.Compiled.{Compiled}
use Rattle.plan_model.specs.task_networks.Bound.{AreBlocks, IsReached, itself, as_child}
use Rattle.plan_model.proofs.task_networks.Lists.{not-in_empty}
use Rattle.plan_model.specs.Pairs.{Pairs}
use Rattle.plan_model.specs.plan_meaning.Schemas.{task, schemas}
use Rattle.plan_model.specs.plan_meaning.Strata.{Edge, IsEdge, AreEdges}
use Rattle.plan_model.specs.plan_meaning.Bound.{IsBound}
use Rattle.plan_model.proofs.plan_meaning.examples.RowValues.{child, always, nothing, problem, method_schema, method_plan, task_schema, action_schema}
use Rattle.plan_model.proofs.plan_meaning.examples.EdgeChecks.{edge, are_edges_by, own_group, one_block, two_blocks}
use Rattle.plan_model.proofs.plan_meaning.examples.BoundChecks.{number_by, DoesCount, number_of_block, IsAttained, bound_by}

abbrev names : List (List ℕ)
names = codes "object" ∷ codes "d" ∷ codes "p" ∷ codes "htn_start" ∷ codes "x" ∷ codes "a" ∷ codes "b" ∷ codes "m" ∷ []

abbrev of_x : MethodPlan
of_x = method_plan (method_schema 7 0 always (child (Action 0) ∷ child (Action 1) ∷ []) []) false (0 ∷ 1 ∷ []) (Some 1) (0 ∷ [])

-- x and x on top, with these pairs and copiers
abbrev top : List Pair → List ℕ → MethodPlan
top pairs copiers = method_plan (method_schema 3 1 always (child (Task 0) ∷ child (Task 0) ∷ []) pairs) false (0 ∷ 1 ∷ []) (Some 1) copiers

abbrev two : List Pair → List ℕ → Compiled
two pairs copiers = record {
  hddl = problem names [] (task_schema 4 ∷ []) (action_schema 5 always nothing ∷ action_schema 6 always nothing ∷ []) (of_x.schema ∷ []) (top pairs copiers).schema;
  methods = top pairs copiers ∷ of_x ∷ [];
}

abbrev edges : List Edge
edges = edge 0 0 ∷ edge 0 1 ∷ []

pub is_zero : (n : ℕ) → (n ≡ 0) ⊎ (0 < n)
is_zero zero = inl refl
is_zero (suc n) = inr (omega arith)

-- the edges are the same in both
module _ (pairs : List Pair) (copiers : List ℕ) where
  x_is_reached : IsReached (schemas (two pairs copiers)) (task 1) (task 0)
  x_is_reached = as_child 0 0 (top pairs copiers, refl) itself refl

  are_edges : AreEdges (two pairs copiers) edges
  are_edges = are_edges_by (two pairs copiers) edges (first, (second, tt)) all (inr (refl, omega arith), tt)
    where
      first : IsEdge (two pairs copiers) (edge 0 0)
      first = record { ground = (top pairs copiers, refl); reached = itself; subtask = 0; is = refl }

      second : IsEdge (two pairs copiers) (edge 0 1)
      second = record { ground = (top pairs copiers, refl); reached = itself; subtask = 0; is = refl }

      all : (m i : ℕ) → IsEdge (two pairs copiers) (edge m i) → Contains edges (edge m i)
      all zero zero e = (0, omega arith, refl)
      all zero (suc zero) e = (1, omega arith, refl)
      all zero (suc (suc i)) e = let f = e.is in absurd cc
      all (suc zero) zero e = let f = e.is in absurd cc
      all (suc zero) (suc zero) e = let f = e.is in absurd cc
      all (suc zero) (suc (suc i)) e = let f = e.is in absurd cc
      all (suc (suc m)) i e = let f = e.is in absurd cc

-- beside one another: one block, with 2 and 2
module _ where
  abbrev pub beside : Compiled
  beside = two [] (0 ∷ [])

  abbrev block : ℕ → ℕ → ℕ
  block m i = 0

  abbrev number : ℕ → ℕ
  number zero = 2
  number (suc zero) = 4
  number (suc (suc t)) = 1

  bound_is_four : IsBound beside 4
  bound_is_four = bound_by beside block number edges (are_edges [] (0 ∷ [])) own_group (inr (omega arith), (inr (omega arith), tt)) blocks positive above attained
    where
      blocks : (m : ℕ) (plan : MethodPlan) → slice_get beside.methods m ≡ Some plan → AreBlocks (Pairs plan.schema.pairs) plan.line (block m)
      blocks zero plan e = subst (λ (p : MethodPlan). AreBlocks (Pairs p.schema.pairs) p.line (block 0)) (let f : top [] (0 ∷ []) ≡ plan = cc in f) (one_block (0 ∷ 1 ∷ []) (λ i j c. not-in_empty _ c))
      blocks (suc zero) plan e = subst (λ (p : MethodPlan). AreBlocks (Pairs p.schema.pairs) p.line (block 1)) (let f : of_x ≡ plan = cc in f) (one_block (0 ∷ 1 ∷ []) (λ i j c. not-in_empty _ c))
      blocks (suc (suc m)) plan e = absurd cc

      positive : (t : ℕ) → 1 ≤ number t
      positive zero = omega arith
      positive (suc zero) = omega arith
      positive (suc (suc t)) = omega arith

      above : (m i : ℕ) → (schemas beside).IsGround m → DoesCount beside block number m i → number_of_block beside block number m i ≤ number_by number ((schemas beside).head m)
      above zero i g k = omega arith
      above (suc zero) i g k = omega arith
      above (suc (suc m)) i g k = absurd (let f = g.1 in cc)

      attained : (t : ℕ) → IsAttained beside block number t
      attained zero = inr (1, 0, (of_x, refl), x_is_reached [] (0 ∷ []), refl, two_count, refl)
        where
          two_count : DoesCount beside block number 1 0
          two_count = (omega arith, λ w o e. elim (is_zero o.child) [ inl f ↦ (let l = o.earlier 1 (omega arith) (omega arith) in omega arith) | inr f ↦ (let l = o.earlier 0 (omega arith) (omega arith) in omega arith) ])
      attained (suc zero) = inr (0, 0, (top [] (0 ∷ []), refl), itself, refl, two_count, refl)
        where
          two_count : DoesCount beside block number 0 0
          two_count = (omega arith, λ w o e. elim (is_zero o.child) [ inl f ↦ (let l = o.earlier 1 (omega arith) (omega arith) in omega arith) | inr f ↦ (let l = o.earlier 0 (omega arith) (omega arith) in omega arith) ])
      attained (suc (suc t)) = inl refl

-- in order: 2 and 1 for the other, and then 2
module _ where
  abbrev pub in_order : Compiled
  in_order = two (record { first = 0; then = 1 } ∷ []) []

  abbrev block_of : ℕ → ℕ → ℕ
  block_of zero i = i
  block_of (suc m) i = 0

  abbrev number_of : ℕ → ℕ
  number_of zero = 2
  number_of (suc zero) = 3
  number_of (suc (suc t)) = 1

  bound_is_three : IsBound in_order 3
  bound_is_three = bound_by in_order block_of number_of edges (are_edges (record { first = 0; then = 1 } ∷ []) []) own_group (inr (omega arith), (inr (omega arith), tt)) blocks positive above attained
    where
      blocks : (m : ℕ) (plan : MethodPlan) → slice_get in_order.methods m ≡ Some plan → AreBlocks (Pairs plan.schema.pairs) plan.line (block_of m)
      blocks zero plan e = subst (λ (p : MethodPlan). AreBlocks (Pairs p.schema.pairs) p.line (block_of 0)) (let f : top (record { first = 0; then = 1 } ∷ []) [] ≡ plan = cc in f) (two_blocks (0, omega arith, refl))
      blocks (suc zero) plan e = subst (λ (p : MethodPlan). AreBlocks (Pairs p.schema.pairs) p.line (block_of 1)) (let f : of_x ≡ plan = cc in f) (one_block (0 ∷ 1 ∷ []) (λ i j c. not-in_empty _ c))
      blocks (suc (suc m)) plan e = absurd cc

      positive : (t : ℕ) → 1 ≤ number_of t
      positive zero = omega arith
      positive (suc zero) = omega arith
      positive (suc (suc t)) = omega arith

      above : (m i : ℕ) → (schemas in_order).IsGround m → DoesCount in_order block_of number_of m i → number_of_block in_order block_of number_of m i ≤ number_by number_of ((schemas in_order).head m)
      above zero zero g k = omega arith
      above zero (suc zero) g k = omega arith
      above zero (suc (suc i)) g k = absurd (let l = k.0 in omega arith)
      above (suc zero) i g k = omega arith
      above (suc (suc m)) i g k = absurd (let f = g.1 in cc)

      attained : (t : ℕ) → IsAttained in_order block_of number_of t
      attained zero = inr (1, 0, (of_x, refl), x_is_reached (record { first = 0; then = 1 } ∷ []) [], refl, two_count, refl)
        where
          two_count : DoesCount in_order block_of number_of 1 0
          two_count = (omega arith, λ w o e. elim (is_zero o.child) [ inl f ↦ (let l = o.earlier 1 (omega arith) (omega arith) in omega arith) | inr f ↦ (let l = o.earlier 0 (omega arith) (omega arith) in omega arith) ])
      attained (suc zero) = inr (0, 0, (top (record { first = 0; then = 1 } ∷ []) [], refl), itself, refl, first_counts, refl)
        where
          first_counts : DoesCount in_order block_of number_of 0 0
          first_counts = (omega arith, λ w o e. (let b = o.in_block in let l = o.earlier 1 (omega arith) (omega arith) in omega arith))
      attained (suc (suc t)) = inl refl
