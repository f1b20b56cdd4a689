-- The bad cycles that are named: of m: t -> t < a it is t m t; of m1: t -> u < a and m2: u -> b < t it is t m1 u m2 t.
use Rattle.std.proofs.Common.{ℕ, zero, suc, ◌≡◌, ◌≢◌, ◌≤◌, ◌⊎◌, inl, inr, List, [], ◌∷◌, length, Some, false, refl, ap, sym, Contains, arith}
use Rattle.std.specs.Prelude.{codes}
use Rattle.plan_model.specs.declared.networks.Head.TheVariants.{Task, Action}
use Rattle.plan_model.specs.declared.networks.Pair.{Pair}
use Rattle.plan_model.specs.declared.schemas.MethodPlan.{MethodPlan}
use Rattle.plan_model.specs.declared.values.Compiled.{Compiled}
use Rattle.plan_model.specs.task_networks.Order.{Precedes, direct, through, IsLast}
use Rattle.plan_model.specs.task_networks.Bound.{IsReached, itself, as_child}
use Rattle.plan_model.specs.task_networks.Strata as Walks
use Rattle.plan_model.specs.task_networks.Strata.{ComesFirst}
use Rattle.plan_model.proofs.task_networks.Lists.{not-in_empty, head_or_tail}
use Rattle.plan_model.specs.Pairs.{Pairs}
use Rattle.plan_model.specs.plan_meaning.Schemas.{task, schemas}
use Rattle.plan_model.specs.plan_meaning.Strata.{Edge, IsEdge, AreEdges, IsBad, IsTailRecursive, IsNamedCycle, source, target}
use Rattle.plan_model.proofs.plan_meaning.ListedItems.{of_each}
use Rattle.plan_model.proofs.plan_meaning.examples.RowValues.{child, always, nothing, problem, method_schema, method_plan, task_schema, action_schema}
use Rattle.plan_model.proofs.plan_meaning.examples.EdgeChecks.{edge, are_edges_by, own_group}

abbrev first_then_second : List Pair
first_then_second = record { first = 0; then = 1 } ∷ []

-- one pair, of the first child and the second, leads to the second child alone
leads_to_second : (i j : ℕ) → Precedes (λ i j. Contains first_then_second (record { first = i; then = j })) i j → j ≡ 1
leads_to_second i j (direct p) = elim (head_or_tail (record { first = 0; then = 1 }) [] (record { first = i; then = j }) p) [ inl e ↦ sym (ap (λ (p : Pair). p.then) e) | inr d ↦ absurd (not-in_empty _ d) ]
leads_to_second i k (through {j = j} c p) = elim (head_or_tail (record { first = 0; then = 1 }) [] (record { first = j; then = k }) p) [ inl e ↦ sym (ap (λ (p : Pair). p.then) e) | inr d ↦ absurd (not-in_empty _ d) ]

abbrev InPair : ℕ → ℕ → Type 0
InPair i j = Contains first_then_second (record { first = i; then = j })

-- so the first of the two isn't last
first_is_not_last : IsLast InPair 2 0 → ⊥
first_is_not_last l = let e = leads_to_second 1 0 (l.1 1 (omega arith) (omega arith)) in omega arith

abbrev top : MethodPlan
top = method_plan (method_schema 3 2 always (child (Task 0) ∷ []) []) false (0 ∷ []) (Some 0) []

only_child : IsLast (Pairs top.schema.pairs) 1 0
only_child = (omega arith, λ j l n. absurd (omega arith))

-- m: t -> t < a
module _ where
  abbrev names : List (List ℕ)
  names = codes "object" ∷ codes "d" ∷ codes "p" ∷ codes "htn_start" ∷ codes "t" ∷ codes "a" ∷ codes "m" ∷ []

  abbrev top_1 : MethodPlan
  top_1 = method_plan (method_schema 3 1 always (child (Task 0) ∷ []) []) false (0 ∷ []) (Some 0) []

  abbrev of_t : MethodPlan
  of_t = method_plan (method_schema 6 0 always (child (Task 0) ∷ child (Action 0) ∷ []) first_then_second) false (0 ∷ 1 ∷ []) (Some 1) []

  abbrev pub not_tail : Compiled
  not_tail = record { hddl = problem names [] (task_schema 4 ∷ []) (action_schema 5 always nothing ∷ []) (of_t.schema ∷ []) top_1.schema; methods = top_1 ∷ of_t ∷ [] }

  abbrev edges : List Edge
  edges = edge 0 0 ∷ edge 1 0 ∷ []

  are_edges : AreEdges not_tail edges
  are_edges = are_edges_by not_tail edges (from_top, (from_t, tt)) all (inl (omega arith), tt)
    where
      from_top : IsEdge not_tail (edge 0 0)
      from_top = record { ground = (top_1, refl); reached = itself; subtask = 0; is = refl }

      from_t : IsEdge not_tail (edge 1 0)
      from_t = record { ground = (of_t, refl); reached = as_child 0 0 (top_1, refl) itself refl; subtask = 0; is = refl }

      all : (m i : ℕ) → IsEdge not_tail (edge m i) → Contains edges (edge m i)
      all zero zero e = (0, omega arith, refl)
      all zero (suc i) e = let f = e.is in absurd cc
      all (suc zero) zero e = (1, omega arith, refl)
      all (suc zero) (suc zero) e = let f = e.is in absurd cc
      all (suc zero) (suc (suc i)) e = let f = e.is in absurd cc
      all (suc (suc m)) i e = let f = e.is in absurd cc

  -- t m t: the edge goes from t to t, and no walk back is needed
  t_m_t : IsNamedCycle not_tail (edge 1 0) []
  t_m_t = (
    edges,
    are_edges,
    record {
      cycle = ((1, omega arith, refl), first_is_not_last, refl);
      before = edge 0 0 ∷ [];
      after = [];
      parts = refl;
      none_before = λ d back c b. of_each (λ e. IsBad not_tail e → ⊥) (edge 0 0 ∷ []) ((λ bad. bad (omega arith, λ j l n. absurd (omega arith))), tt) d c b.1;
      shortest = λ back w. omega arith;
      first = λ back w l. inl (none back l);
    },
  )
    where
      none : (back : List Edge) → length back ≡ 0 → [] ≡ back
      none [] e = refl
      none (x ∷ back) e = absurd (omega arith)

  not_tail_recursive : IsTailRecursive not_tail → ⊥
  not_tail_recursive (list, are, none) = none (edge 1 0) [] ((are.all (edge 1 0)).1 ((are_edges.all (edge 1 0)).0 (1, omega arith, refl)), first_is_not_last, refl)

-- m1: t -> u < a, and m2: u -> b < t
module _ where
  abbrev two_names : List (List ℕ)
  two_names = codes "object" ∷ codes "d" ∷ codes "p" ∷ codes "htn_start" ∷ codes "t" ∷ codes "u" ∷ codes "a" ∷ codes "b" ∷ codes "m1" ∷ codes "m2" ∷ []

  abbrev m1 : MethodPlan
  m1 = method_plan (method_schema 8 0 always (child (Task 1) ∷ child (Action 0) ∷ []) first_then_second) false (0 ∷ 1 ∷ []) (Some 1) []

  abbrev m2 : MethodPlan
  m2 = method_plan (method_schema 9 1 always (child (Action 1) ∷ child (Task 0) ∷ []) first_then_second) false (0 ∷ 1 ∷ []) (Some 1) []

  abbrev pub around : Compiled
  around = record {
    hddl = problem two_names [] (task_schema 4 ∷ task_schema 5 ∷ []) (action_schema 6 always nothing ∷ action_schema 7 always nothing ∷ []) (m1.schema ∷ m2.schema ∷ []) top.schema;
    methods = top ∷ m1 ∷ m2 ∷ [];
  }

  -- task 2 is the top task, task 0 is t, task 1 is u
  t_is_reached : IsReached (schemas around) (task 2) (task 0)
  t_is_reached = as_child 0 0 (top, refl) itself refl

  u_is_reached : IsReached (schemas around) (task 2) (task 1)
  u_is_reached = as_child 1 0 (m1, refl) t_is_reached refl

  abbrev all_edges : List Edge
  all_edges = edge 0 0 ∷ edge 1 0 ∷ edge 2 1 ∷ []

  are_all : AreEdges around all_edges
  are_all = are_edges_by around all_edges (from_top, (from_t, (from_u, tt))) all (inl (omega arith), (inl (omega arith), tt))
    where
      from_top : IsEdge around (edge 0 0)
      from_top = record { ground = (top, refl); reached = itself; subtask = 0; is = refl }

      from_t : IsEdge around (edge 1 0)
      from_t = record { ground = (m1, refl); reached = t_is_reached; subtask = 1; is = refl }

      from_u : IsEdge around (edge 2 1)
      from_u = record { ground = (m2, refl); reached = u_is_reached; subtask = 0; is = refl }

      all : (m i : ℕ) → IsEdge around (edge m i) → Contains all_edges (edge m i)
      all zero zero e = (0, omega arith, refl)
      all zero (suc i) e = let f = e.is in absurd cc
      all (suc zero) zero e = (1, omega arith, refl)
      all (suc zero) (suc zero) e = let f = e.is in absurd cc
      all (suc zero) (suc (suc i)) e = let f = e.is in absurd cc
      all (suc (suc zero)) zero e = let f = e.is in absurd cc
      all (suc (suc zero)) (suc zero) e = (2, omega arith, refl)
      all (suc (suc zero)) (suc (suc i)) e = let f = e.is in absurd cc
      all (suc (suc (suc m))) i e = let f = e.is in absurd cc

  apart : task 0 ≡ task 1 → ⊥
  apart e = let f : own_group (task 0) ≡ own_group (task 1) = ap own_group e in omega arith

  -- t m1 u m2 t: from t to u, where a comes after u, and back from u to t
  t_m1_u_m2_t : IsNamedCycle around (edge 1 0) (edge 2 1 ∷ [])
  t_m1_u_m2_t = (
    all_edges,
    are_all,
    record {
      cycle = ((1, omega arith, refl), first_is_not_last, (refl, (2, omega arith, refl), refl));
      before = edge 0 0 ∷ [];
      after = edge 2 1 ∷ [];
      parts = refl;
      none_before = λ d back c b. of_each (λ e. IsBad around e → ⊥) (edge 0 0 ∷ []) ((λ bad. bad only_child), tt) d c b.1;
      shortest = shortest;
      first = first;
    },
  )
    where
      shortest : (back : List Edge) → Walks.IsWalk (source around) (target around) all_edges (task 1) back (task 0) → 1 ≤ length back
      shortest [] w = absurd (apart (sym w))
      shortest (x ∷ back) w = omega arith

      -- the edge of m2 alone leaves u
      from_u : (x : Edge) → Contains all_edges x → source around x ≡ task 1 → edge 2 1 ≡ x
      from_u x c e = of_each (λ x. source around x ≡ task 1 → edge 2 1 ≡ x) all_edges ((λ f. absurd (other 2 f (omega arith))), ((λ f. absurd (apart f)), ((λ f. refl), tt))) x c e
        where
          other : (t : ℕ) → task t ≡ task 1 → t ≢ 1 → ⊥
          other t f n = n (let g : own_group (task t) ≡ own_group (task 1) = ap own_group f in omega arith)

      first : (back : List Edge) → Walks.IsWalk (source around) (target around) all_edges (task 1) back (task 0) → length back ≡ 1 → (edge 2 1 ∷ [] ≡ back) ⊎ ComesFirst (source around) (target around) all_edges (edge 2 1 ∷ []) back
      first [] w l = absurd (omega arith)
      first (x ∷ []) w l = inl (ap (λ z. z ∷ []) (from_u x w.1 w.0))
      first (x ∷ y ∷ back) w l = absurd (omega arith)
