-- Of m1: t -> a < t and m0: t -> nothing there is exactly one bound, which is at least 2. Of m: t -> t < a there is none.
use Rattle.std.proofs.Common.{ℕ, zero, suc, ◌≡◌, ◌≢◌, ◌<◌, ◌≤◌, inl, inr, [], ◌∷◌, refl, arith}
use Rattle.plan_model.specs.declared.options.Checks.TheVariants.{Leaf}
use Rattle.plan_model.specs.declared.networks.Pair.{Pair}
use Rattle.plan_model.specs.Pairs.{pair}
use Rattle.plan_model.specs.task_networks.Order.{direct, Precedes}
use Rattle.plan_model.specs.task_networks.Bound.{itself, as_child}
use Rattle.plan_model.proofs.task_networks.PendingNodes.{within_iff}
use Rattle.plan_model.specs.plan_meaning.Network.{network}
use Rattle.plan_model.specs.plan_meaning.Schemas.{schemas}
use Rattle.plan_model.specs.plan_meaning.Strata.{IsEdge, IsBad, IsTailRecursive}
use Rattle.plan_model.specs.plan_meaning.Bound.{IsBound}
use Rattle.plan_model.specs.plan_meaning.Compilation.{IsCompiled}
use Rattle.plan_model.proofs.plan_meaning.ListedItems.{of_each}
use Rattle.plan_model.proofs.plan_meaning.examples.EdgeChecks.{edge}
use Rattle.plan_model.proofs.plan_meaning.examples.PlanChecks.{climbs}
use Rattle.plan_model.proofs.plan_meaning.examples.PlanKinds.{plain, none_rise}
use Rattle.plan_model.proofs.plan_meaning.examples.CompiledValues.{tail_recursion_is_compiled}
use Rattle.plan_model.proofs.plan_meaning.examples.TailRecursionRow.{tail_recursion, tree, order, solution}
use Rattle.plan_model.proofs.plan_meaning.examples.NamedCyclesRow.{not_tail}
use Rattle.slot_machine.proofs.bound_laws.OrCycle.{tail_recursive_or_named_cycle}
use Rattle.slot_machine.proofs.bound_laws.BoundedProblem.{has_one_bound, bounded_is_tail_recursive}
use Rattle.slot_machine.proofs.bound_laws.EveryFront.{every_front_is_within}

-- m1: t -> a < t and m0: t -> nothing
module _ where
  -- each child that is a task comes after all its siblings
  none_is_bad : (m i : ℕ) → IsEdge tail_recursion (edge m i) → IsBad tail_recursion (edge m i) → ⊥
  none_is_bad zero zero e bad = bad (omega arith, λ j l n. absurd (omega arith))
  none_is_bad zero (suc i) e bad = let f = e.is in absurd cc
  none_is_bad (suc zero) zero e bad = let f = e.is in absurd cc
  none_is_bad (suc zero) (suc zero) e bad = bad (omega arith, before)
    where
      before : (j : ℕ) → j < 2 → j ≢ 1 → Precedes ((schemas tail_recursion).Pair 1) j 1
      before zero l n = direct (0, omega arith, refl)
      before (suc j) l n = absurd (n (omega arith))
  none_is_bad (suc zero) (suc (suc i)) e bad = let f = e.is in absurd cc
  none_is_bad (suc (suc zero)) i e bad = let f = e.is in absurd cc
  none_is_bad (suc (suc (suc m))) i e bad = let f = e.is in absurd cc

  tail_recursive : IsTailRecursive tail_recursion
  tail_recursive = elim (tail_recursive_or_named_cycle tail_recursion) [
    | inl tail ↦ tail
    | inr (e, walk, (edges, are, named)) ↦ absurd (none_is_bad e.method e.child ((are.all e).0 named.cycle.0) named.cycle.1)
  ]

  one_bound : (n : ℕ) × IsBound tail_recursion n × ((other : ℕ) → IsBound tail_recursion other → other ≡ n)
  one_bound = has_one_bound tail_recursion.hddl Leaf tail_recursion (tail_recursion_is_compiled Leaf) tail_recursive

  -- after the start and m1 both a and t are pending
  at_least_two : (n : ℕ) → IsBound tail_recursion n → 2 ≤ n
  at_least_two n bound =
      (within_iff (network tail_recursion) n tree order).0
      (every_front_is_within tail_recursion.hddl Leaf tail_recursion (tail_recursion_is_compiled Leaf) n bound tree order solution.finished.front)
      ([] ∷ (0 ∷ []) ∷ []) ((0 ∷ 0 ∷ []) ∷ (1 ∷ 0 ∷ []) ∷ []) refl

-- m: t -> t < a
module _ where
  not_tail_is_compiled : IsCompiled not_tail.hddl Leaf not_tail
  not_tail_is_compiled = record {
    hddl = refl;
    methods = (
      plain not_tail.hddl Leaf _ _ refl refl refl (record { schema = refl; up = tt; line = refl; heir = refl; copiers = refl; rising = none_rise; guards = ([], refl, refl) }),
      (plain not_tail.hddl Leaf _ _ refl refl refl (record { schema = refl; up = (omega arith, tt); line = refl; heir = refl; copiers = refl; rising = none_rise; guards = ([], refl, refl) }), tt),
    );
  }

  t_is_an_edge : IsEdge not_tail (edge 1 0)
  t_is_an_edge = record { ground = (_, refl); reached = as_child 0 0 (_, refl) itself refl; subtask = 0; is = refl }

  -- a doesn't precede t
  t_is_bad : IsBad not_tail (edge 1 0)
  t_is_bad last = let l = climbs up 1 0 (last.1 1 (omega arith) (omega arith)) in omega arith
    where
      up : (i j : ℕ) → (schemas not_tail).Pair 1 i j → i < j
      up i j c = of_each (λ (p : Pair). p.first < p.then) (pair 0 1 ∷ []) (omega arith, tt) (pair i j) c

  no_bound : (n : ℕ) → IsBound not_tail n → ⊥
  no_bound n bound =
      let (edges, are, none) = bounded_is_tail_recursive not_tail.hddl Leaf not_tail not_tail_is_compiled n bound in
      none (edge 1 0) [] ((are.all (edge 1 0)).1 t_is_an_edge, t_is_bad, refl)
