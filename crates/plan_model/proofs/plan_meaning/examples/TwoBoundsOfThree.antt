-- Two problems whose bound is 3: x < y with x by p and q; and t beside u, where t has a check before its action.
use Rattle.std.proofs.Common.{ℕ, zero, suc, ◌≡◌, ◌≤◌, inl, inr, List, [], ◌∷◌, Some, refl, subst, Contains, arith, slice_get}
use Rattle.plan_model.specs.declared.schemas.MethodPlan.{MethodPlan}
use Rattle.plan_model.specs.task_networks.Bound.{AreBlocks, itself, as_child}
use Rattle.plan_model.proofs.task_networks.Lists.{not-in_empty}
use Rattle.plan_model.specs.Pairs.{Pairs}
use Rattle.plan_model.specs.plan_meaning.Schemas.{schemas}
use Rattle.plan_model.specs.plan_meaning.Strata.{Edge, IsEdge, AreEdges}
use Rattle.plan_model.specs.plan_meaning.Bound.{IsBound}
use Rattle.plan_model.proofs.plan_meaning.examples.EdgeChecks.{edge, are_edges_by, own_group, one_block, two_blocks}
use Rattle.plan_model.proofs.plan_meaning.examples.BoundChecks.{number_by, DoesCount, number_of_block, IsAttained, bound_by}
use Rattle.plan_model.proofs.plan_meaning.examples.BlocksRow.{is_zero}
use Rattle.plan_model.proofs.plan_meaning.examples.WaitingRow.{waiting, top, of_x}
use Rattle.plan_model.proofs.plan_meaning.examples.LateCheckRow.{late_check, late_top_plan, late_method_plan}

abbrev edges : List Edge
edges = edge 0 0 ∷ []

abbrev number : ℕ → ℕ
number zero = 2
number (suc zero) = 3
number (suc (suc t)) = 1

positive : (t : ℕ) → 1 ≤ number t
positive zero = omega arith
positive (suc zero) = omega arith
positive (suc (suc t)) = omega arith

-- x and then y: 2 and 1; p and q: 2
module _ where
  waiting_edges : AreEdges waiting edges
  waiting_edges = are_edges_by waiting edges (record { ground = (top, refl); reached = itself; subtask = 0; is = refl }, tt) all tt
    where
      all : (m i : ℕ) → IsEdge waiting (edge m i) → Contains edges (edge m i)
      all zero zero e = (0, omega arith, refl)
      all zero (suc zero) e = let f = e.is in absurd cc
      all zero (suc (suc i)) e = let f = e.is in absurd cc
      all (suc zero) zero e = let f = e.is in absurd cc
      all (suc zero) (suc zero) e = let f = e.is in absurd cc
      all (suc zero) (suc (suc i)) e = let f = e.is in absurd cc
      all (suc (suc m)) i e = let f = e.is in absurd cc

  abbrev block : ℕ → ℕ → ℕ
  block zero i = i
  block (suc m) i = 0

  bound_of_waiting : IsBound waiting 3
  bound_of_waiting = bound_by waiting block number edges waiting_edges own_group (inr (omega arith), tt) blocks positive above attained
    where
      blocks : (m : ℕ) (plan : MethodPlan) → slice_get waiting.methods m ≡ Some plan → AreBlocks (Pairs plan.schema.pairs) plan.line (block m)
      blocks zero plan e = subst (λ (p : MethodPlan). AreBlocks (Pairs p.schema.pairs) p.line (block 0)) (let f : top ≡ plan = cc in f) (two_blocks (0, omega arith, refl))
      blocks (suc zero) plan e = subst (λ (p : MethodPlan). AreBlocks (Pairs p.schema.pairs) p.line (block 1)) (let f : of_x ≡ plan = cc in f) (one_block (0 ∷ 1 ∷ []) (λ i j c. not-in_empty _ c))
      blocks (suc (suc m)) plan e = absurd cc

      above : (m i : ℕ) → (schemas waiting).IsGround m → DoesCount waiting block number m i → number_of_block waiting block number m i ≤ number_by number ((schemas waiting).head m)
      above zero zero g k = omega arith
      above zero (suc zero) g k = omega arith
      above zero (suc (suc i)) g k = absurd (let l = k.0 in omega arith)
      above (suc zero) i g k = omega arith
      above (suc (suc m)) i g k = absurd (let f = g.1 in cc)

      first_counts : DoesCount waiting block number 0 0
      first_counts = (omega arith, λ w o e. (let b = o.in_block in let c = o.earlier 1 (omega arith) (omega arith) in omega arith))

      two_count : DoesCount waiting block number 1 0
      two_count = (omega arith, λ w o e. elim (is_zero o.child) [ inl f ↦ (let l = o.earlier 1 (omega arith) (omega arith) in omega arith) | inr f ↦ (let l = o.earlier 0 (omega arith) (omega arith) in omega arith) ])

      attained : (t : ℕ) → IsAttained waiting block number t
      attained zero = inr (1, 0, (of_x, refl), as_child 0 0 (top, refl) itself refl, refl, two_count, refl)
      attained (suc zero) = inr (0, 0, (top, refl), itself, refl, first_counts, refl)
      attained (suc (suc t)) = inl refl

-- the check and then a: 1 and 1; t beside u: 2 and 1
module _ where
  late_edges : AreEdges late_check edges
  late_edges = are_edges_by late_check edges (record { ground = (late_top_plan, refl); reached = itself; subtask = 0; is = refl }, tt) all tt
    where
      all : (m i : ℕ) → IsEdge late_check (edge m i) → Contains edges (edge m i)
      all zero zero e = (0, omega arith, refl)
      all zero (suc zero) e = let f = e.is in absurd cc
      all zero (suc (suc i)) e = let f = e.is in absurd cc
      all (suc zero) zero e = let f = e.is in absurd cc
      all (suc zero) (suc zero) e = let f = e.is in absurd cc
      all (suc zero) (suc (suc i)) e = let f = e.is in absurd cc
      all (suc (suc m)) i e = let f = e.is in absurd cc

  abbrev late_block : ℕ → ℕ → ℕ
  late_block zero i = 0
  late_block (suc m) i = i

  bound_of_late_check : IsBound late_check 3
  bound_of_late_check = bound_by late_check late_block number edges late_edges own_group (inr (omega arith), tt) blocks positive above attained
    where
      blocks : (m : ℕ) (plan : MethodPlan) → slice_get late_check.methods m ≡ Some plan → AreBlocks (Pairs plan.schema.pairs) plan.line (late_block m)
      blocks zero plan e = subst (λ (p : MethodPlan). AreBlocks (Pairs p.schema.pairs) p.line (late_block 0)) (let f : late_top_plan ≡ plan = cc in f) (one_block (0 ∷ 1 ∷ []) (λ i j c. not-in_empty _ c))
      blocks (suc zero) plan e = subst (λ (p : MethodPlan). AreBlocks (Pairs p.schema.pairs) p.line (late_block 1)) (let f : late_method_plan ≡ plan = cc in f) (two_blocks (0, omega arith, refl))
      blocks (suc (suc m)) plan e = absurd cc

      above : (m i : ℕ) → (schemas late_check).IsGround m → DoesCount late_check late_block number m i → number_of_block late_check late_block number m i ≤ number_by number ((schemas late_check).head m)
      above zero i g k = omega arith
      above (suc zero) zero g k = omega arith
      above (suc zero) (suc zero) g k = omega arith
      above (suc zero) (suc (suc i)) g k = absurd (let l = k.0 in omega arith)
      above (suc (suc m)) i g k = absurd (let f = g.1 in cc)

      two_count : DoesCount late_check late_block number 0 0
      two_count = (omega arith, λ w o e. elim (is_zero o.child) [ inl f ↦ (let l = o.earlier 1 (omega arith) (omega arith) in omega arith) | inr f ↦ (let l = o.earlier 0 (omega arith) (omega arith) in omega arith) ])

      first_counts : DoesCount late_check late_block number 1 0
      first_counts = (omega arith, λ w o e. (let b = o.in_block in let c = o.earlier 1 (omega arith) (omega arith) in omega arith))

      attained : (t : ℕ) → IsAttained late_check late_block number t
      attained zero = inr (1, 0, (late_method_plan, refl), as_child 0 0 (late_top_plan, refl) itself refl, refl, first_counts, refl)
      attained (suc zero) = inr (0, 0, (late_top_plan, refl), itself, refl, two_count, refl)
      attained (suc (suc t)) = inl refl
