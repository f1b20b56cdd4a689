-- A bound of a compiled problem is one of its network of schemas; a tail-recursive problem has one.
use Rattle.std.proofs.Common.{ℕ, suc, ◌≡◌, ◌+◌, ◌<◌, ◌↔◌, inl, inr, [], length, Some, slice_get, refl, ap, sym, subst, arith}
use Rattle.plan_model.specs.declared.schemas.MethodPlan.{MethodPlan}
use Rattle.plan_model.specs.declared.values.Compiled.{Compiled}
use Rattle.plan_model.specs.Pairs.{Pairs}
use Rattle.plan_model.specs.task_networks.Net.{Net}
use Rattle.plan_model.specs.task_networks.Order.{IsLine}
use Rattle.plan_model.specs.task_networks.Bound.{AreBlocks, IsReached, as_child, Counts, IsTheBound}
use Rattle.plan_model.proofs.task_networks.ScheduleLaws.{line_is_the_only_one}
use Rattle.plan_model.specs.plan_meaning.Network.{top_task}
use Rattle.plan_model.specs.plan_meaning.Schemas.{Schema, action, check, task, IsPrimitive, schemas}
use Rattle.plan_model.specs.plan_meaning.Strata.{IsTailRecursive}
use Rattle.plan_model.specs.plan_meaning.Bound.{group_of, IsBound}
use Rattle.plan_model.proofs.plan_meaning.MethodParts.{IsPairBy, schemas_by}
use Rattle.plan_model.proofs.plan_meaning.BoundParts.{head_is_task}
use Rattle.slot_machine.specs.bound_laws.NetworkEdges.{IsOneGroup}
use Rattle.slot_machine.specs.bound_laws.NetworkBound.{IsBoundOf}
use Rattle.slot_machine.proofs.bound_laws.FiniteEdges.{no_way, edges_exist}
use Rattle.slot_machine.proofs.bound_laws.FiniteBound as Finite
use Rattle.slot_machine.proofs.bound_laws.Lines.{HasLines}
use Rattle.slot_machine.proofs.bound_laws.EveryFront.{blocks}
use Rattle.slot_machine.proofs.bound_laws.SchemaNetwork.{decided, finite}
use Rattle.slot_machine.proofs.bound_laws.SchemaEdges.{tail_of_problem, same_one_group}

-- what counts is which works are of the group of a method's task, so other numbers of groups that tell the same do too
module _ (N : Net) (top : N.Work) (block : N.Method → ℕ → ℕ) (number group other : N.Work → ℕ)
    (same : (w : N.Work) (m : N.Method) → IsReached N top w → N.IsGround m → IsReached N top (N.head m) → (group w ≡ group (N.head m)) ↔ (other w ≡ other (N.head m))) where
  counts_there : (m : N.Method) (i : ℕ) → N.IsGround m → IsReached N top (N.head m) → Counts N block number group m i → Counts N block number other m i
  counts_there m i g r k = (k.0, λ w o e. k.1 w o ((same w m (as_child m o.child g r o.is) g r).1 e))

  counts_back : (m : N.Method) (i : ℕ) → N.IsGround m → IsReached N top (N.head m) → Counts N block number other m i → Counts N block number group m i
  counts_back m i g r k = (k.0, λ w o e. k.1 w o ((same w m (as_child m o.child g r o.is) g r).0 e))

  regrouped : IsTheBound N block number group top → IsTheBound N block number other top
  regrouped B = record {
    simple = B.simple;
    positive = B.positive;
    above = λ w m i r g h e k. B.above w m i r g h ((same w m r g h).1 e) (counts_back m i g h k);
    attained = λ w r. elim (B.attained w r) [
      | inl e ↦ inl e
      | inr (m, i, g, h, e, k, f) ↦ inr (m, i, g, h, (same w m r g h).0 e, counts_there m i g h k, f)
    ];
  }

module _ (c : Compiled) where
  abbrev top : Schema
  top = task (top_task c)

  abbrev Reached : Schema → Type 0
  Reached = IsReached (schemas c) top

  abbrev AreOne : Schema → Schema → Type 0
  AreOne = IsOneGroup (schemas c) ◌<◌ top

  alone : (v w : Schema) → IsPrimitive v → AreOne v w → v ≡ w
  alone v w s (edges, are, g) = no_way (schemas c) ◌<◌ top (decided c) edges v w s g.0

  itself : (v : Schema) → AreOne v v
  itself v = let (edges, are) = edges_exist (schemas c) ◌<◌ top (decided c) in (edges, are, (([], refl), ([], refl)))

  swapped : (v w : Schema) → AreOne v w → AreOne w v
  swapped v w (edges, are, g) = (edges, are, (g.1, g.0))

  -- numbers of groups that also tell actions and checks apart
  module _ (group : ℕ → ℕ) where
    abbrev of_each : Schema → ℕ
    of_each (action a) = a + (a + a)
    of_each (check m) = suc (m + (m + m))
    of_each (task t) = suc (suc (group t + (group t + group t)))

    each_one : (v w : Schema) → IsPrimitive v → of_each v ≡ of_each w → v ≡ w
    each_one (action a) (action b) s e = ap action (omega arith)
    each_one (action a) (check m) s e = absurd (omega arith)
    each_one (action a) (task t) s e = absurd (omega arith)
    each_one (check m) (action b) s e = absurd (omega arith)
    each_one (check m) (check n) s e = ap check (omega arith)
    each_one (check m) (task t) s e = absurd (omega arith)
    each_one (task t) w s e = absurd s

    same_each : (w : Schema) (t : ℕ) → (group_of group w ≡ group_of group (task t)) ↔ (of_each w ≡ of_each (task t))
    same_each (action a) t = (λ e. absurd (omega arith), λ e. absurd (omega arith))
    same_each (check m) t = (λ e. absurd (omega arith), λ e. absurd (omega arith))
    same_each (task u) t = (λ e. omega arith, λ e. omega arith)

    one_group : (v w : Schema) → IsPrimitive v → (of_each v ≡ of_each w) ↔ AreOne v w
    one_group v w s = (λ e. subst (AreOne v) (each_one v w s e) (itself v), λ h. ap of_each (alone v w s h))

    one_with : (t : ℕ) (w : Schema) → IsPrimitive w → (of_each (task t) ≡ of_each w) ↔ AreOne (task t) w
    one_with t w s = (
      λ e. swapped w (task t) ((one_group w (task t) s).0 (sym e)),
      λ h. sym ((one_group w (task t) s).1 (swapped (task t) w h)),
    )

  module _ (known : HasLines c) (n : ℕ) where
    pub bound_of_problem : IsBound c n → IsBoundOf (schemas c) ◌<◌ top n
    bound_of_problem A = record {
      block = A.block;
      blocks = blocks c known n A;
      group = of_each A.group;
      groups = groups;
      number = A.number;
      numbers = regrouped (schemas c) top A.block A.number (group_of A.group) (of_each A.group) same A.numbers;
      is = A.is;
    }
      where
        groups : (v w : Schema) → Reached v → Reached w → (of_each A.group v ≡ of_each A.group w) ↔ AreOne v w
        groups (action a) w r q = one_group A.group (action a) w tt
        groups (check m) w r q = one_group A.group (check m) w tt
        groups (task t) (action a) r q = one_with A.group t (action a) tt
        groups (task t) (check m) r q = one_with A.group t (check m) tt
        groups (task t) (task u) r q = (
          λ e. (same_one_group c (task t) (task u)).0 ((A.groups t u r q).0 (omega arith)),
          λ h. (let e = (A.groups t u r q).1 ((same_one_group c (task t) (task u)).1 h) in omega arith),
        )

        same : (w : Schema) (m : ℕ) → Reached w → (schemas c).IsGround m → Reached ((schemas c).head m) → (group_of A.group w ≡ group_of A.group ((schemas c).head m)) ↔ (of_each A.group w ≡ of_each A.group ((schemas c).head m))
        same w m r g q = let (t, h) = head_is_task (slice_get c.methods m) in subst (λ z. (group_of A.group w ≡ group_of A.group z) ↔ (of_each A.group w ≡ of_each A.group z)) (sym h) (same_each A.group w t)

    pub bound_of_network : IsBoundOf (schemas c) ◌<◌ top n → IsBound c n
    bound_of_network B = record {
      block = B.block;
      blocks = its_blocks;
      group = λ t. B.group (task t);
      groups = λ t u r q. (
        λ e. (same_one_group c (task t) (task u)).1 ((B.groups (task t) (task u) r q).0 e),
        λ h. (B.groups (task t) (task u) r q).1 ((same_one_group c (task t) (task u)).0 h),
      );
      number = B.number;
      numbers = regrouped (schemas c) top B.block B.number B.group (group_of (λ t. B.group (task t))) same B.numbers;
      is = B.is;
    }
      where
        its_blocks : (m : ℕ) (plan : MethodPlan) → slice_get c.methods m ≡ Some plan → AreBlocks (Pairs plan.schema.pairs) plan.line (B.block m)
        its_blocks m plan e =
            let (line, is, cuts) = B.blocks m in
            let its = subst (λ z. IsLine (IsPairBy z) (length (schemas_by m z)) plan.line) (sym e) (known m plan e) in
            subst (λ z. AreBlocks (IsPairBy z) plan.line (B.block m)) e (subst (λ l. AreBlocks ((schemas c).Pair m) l (B.block m)) (line_is_the_only_one (schemas c) m line plan.line is its) cuts)

        of_task : (w : Schema) (t : ℕ) → Reached w → Reached (task t) → (B.group w ≡ B.group (task t)) ↔ (group_of (λ t. B.group (task t)) w ≡ suc (B.group (task t)))
        of_task (action a) t r q = (λ e. absurd (let f = alone (action a) (task t) tt ((B.groups (action a) (task t) r q).0 e) in cc), λ e. absurd (omega arith))
        of_task (check m) t r q = (λ e. absurd (let f = alone (check m) (task t) tt ((B.groups (check m) (task t) r q).0 e) in cc), λ e. absurd (omega arith))
        of_task (task u) t r q = (λ e. ap suc e, λ e. omega arith)

        same : (w : Schema) (m : ℕ) → Reached w → (schemas c).IsGround m → Reached ((schemas c).head m)
            → (B.group w ≡ B.group ((schemas c).head m)) ↔ (group_of (λ t. B.group (task t)) w ≡ group_of (λ t. B.group (task t)) ((schemas c).head m))
        same w m r g q =
            let (t, h) = head_is_task (slice_get c.methods m) in
            subst (λ z. (B.group w ≡ B.group z) ↔ (group_of (λ t. B.group (task t)) w ≡ group_of (λ t. B.group (task t)) z)) (sym h) (of_task w t r (subst Reached h q))

pub tail_recursive_has_bound : (c : Compiled) → HasLines c → IsTailRecursive c → (n : ℕ) × IsBound c n
tail_recursive_has_bound c known tail =
    let (n, b) = Finite.tail_recursive_has_bound (schemas c) ◌<◌ (task (top_task c)) (finite c known) (tail_of_problem c tail) in
    (n, bound_of_network c known n b)
