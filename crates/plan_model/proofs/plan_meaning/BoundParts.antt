-- What a bound says of groups and blocks: no child in a block that counts is of its task's group.
use Rattle.std.proofs.Common.{ℕ, zero, suc, ◌≡◌, ◌≢◌, ◌+◌, ◌<◌, ◌≤◌, ◌⊎◌, inl, inr, List, [], ◌∷◌, length, Option, Some, None, slice_get, refl, ap, sym, subst, ◌∙◌, Contains, arith}
use Rattle.std.proofs.lemmas.List.{length-map}
use Rattle.plan_model.specs.declared.networks.Child.{Child}
use Rattle.plan_model.specs.declared.schemas.MethodPlan.{MethodPlan}
use Rattle.plan_model.specs.declared.values.Compiled.{Compiled}
use Rattle.plan_model.specs.task_networks.Net.{count}
use Rattle.plan_model.specs.task_networks.Bound.{weight, block_number, Counts, IsReached, as_child}
use Rattle.plan_model.specs.task_networks.Strata as Walks
use Rattle.plan_model.proofs.task_networks.BoundLaws.{by_size, at_block, after_block}
use Rattle.plan_model.specs.plan_meaning.Network.{top_task}
use Rattle.plan_model.specs.plan_meaning.Schemas.{Schema, action, check, task, schemas, schema_of}
use Rattle.plan_model.proofs.plan_meaning.MethodParts.{head_schema_by, schemas_by}
use Rattle.plan_model.specs.plan_meaning.Strata.{Edge, AreEdges, source, target, IsOneGroup}
use Rattle.plan_model.specs.plan_meaning.Bound.{group_of, IsBound}
use Rattle.plan_model.proofs.plan_meaning.BlockNumbers.{two_weights}

-- the lines of the methods have all children
abbrev pub AreWhole : Compiled → Type 0
AreWhole c = (m : ℕ) (plan : MethodPlan) → slice_get c.methods m ≡ Some plan → (i : ℕ) → i < length plan.schema.children → Contains plan.line i

pub head_is_task : (o : Option MethodPlan) → (t : ℕ) × (head_schema_by o ≡ task t)
head_is_task None = (0, refl)
head_is_task (Some plan) = (plan.schema.task, refl)

pub there_at : {A : Type 0} (xs : List A) (j : ℕ) → j < length xs → (x : A) × (slice_get xs j ≡ Some x)
there_at [] j l = absurd (omega arith)
there_at (y ∷ xs) zero l = (y, refl)
there_at (y ∷ xs) (suc j) l = there_at xs j (omega arith)

module _ (c : Compiled) (whole : AreWhole c) (edges : List Edge) (are : AreEdges c edges) where
  abbrev pub Reached : Schema → Type 0
  Reached = IsReached (schemas c) (task (top_task c))

  abbrev pub HasWalk : Schema → Schema → Type 0
  HasWalk x y = (walk : List Edge) × Walks.IsWalk (source c) (target c) edges x walk y

  pub leads_on : (x y z : Schema) (walk : List Edge) → Walks.IsWalk (source c) (target c) edges x walk y → HasWalk y z → HasWalk x z
  leads_on x y z [] e h = subst (λ s. HasWalk s z) (sym e) h
  leads_on x y z (e ∷ walk) w h = let (on, k) = leads_on (target c e) y z walk w.2 h in (e ∷ on, (w.0, w.1, k))

  here : (list : List Edge) → AreEdges c list → (x y : Schema) (walk : List Edge) → Walks.IsWalk (source c) (target c) list x walk y → Walks.IsWalk (source c) (target c) edges x walk y
  here list l x y [] e = e
  here list l x y (e ∷ walk) w = (w.0, (are.all e).1 ((l.all e).0 w.1), here list l (target c e) y walk w.2)

  there_and_back : (x y : Schema) → IsOneGroup c x y → HasWalk x y × HasWalk y x
  there_and_back x y (list, l, (a, b)) = ((a.0, here list l x y a.0 a.1), (b.0, here list l y x b.0 b.1))

  -- a child of a method is in its line
  pub listed : (m : ℕ) (plan : MethodPlan) → slice_get c.methods m ≡ Some plan → (i : ℕ) → i < count (schemas c) m → Contains plan.line i
  listed m plan e i l = whole m plan e i (omega (arith, many))
    where
      many : length (schemas_by m (slice_get c.methods m)) ≡ length plan.schema.children
      many = ap (λ o. length (schemas_by m o)) e ∙ length-map plan.schema.children (λ (child : Child). schema_of m child.head)

  module _ {n : ℕ} (A : IsBound c n) where
    -- two of one group have one number
    pub at_most : (x y : Schema) → Reached x → Reached y → group_of A.group x ≡ group_of A.group y → A.number x ≤ A.number y
    at_most x y r q e = go (A.numbers.attained x r)
      where
        go : (A.number x ≡ 1) ⊎ ((m : ℕ) × (i : ℕ) × (schemas c).IsGround m × Reached ((schemas c).head m) × (group_of A.group x ≡ group_of A.group ((schemas c).head m)) × Counts (schemas c) A.block A.number (group_of A.group) m i × (block_number (schemas c) A.block A.number m (A.block m i) ≡ A.number x)) → A.number x ≤ A.number y
        go (inl f) = let p = A.numbers.positive y q in omega arith
        go (inr (m, i, g, h, f, k, o)) = let p = A.numbers.above y m i q g h (sym e ∙ f) k in omega arith

    -- no child in a block that counts is of the task's group
    pub not_of_the_group : (m i j : ℕ) (u : Schema) → (schemas c).IsGround m → Reached ((schemas c).head m) → Counts (schemas c) A.block A.number (group_of A.group) m i
        → slice_get ((schemas c).works m) j ≡ Some u → A.block m j ≡ A.block m i → group_of A.group u ≡ group_of A.group ((schemas c).head m) → ⊥
    not_of_the_group m i j u g r k e b same = k.1 u (record { child = j; is = e; in_block = b; earlier = earlier }) same
      where
        u_is_reached : Reached u
        u_is_reached = as_child m j g r e

        earlier : (i' : ℕ) → i' < count (schemas c) m → i' ≢ j → A.block m i' < A.block m i
        earlier i' l d = go (by_size (A.block m i') (A.block m i))
          where
            u' : (w : Schema) × (slice_get ((schemas c).works m) i' ≡ Some w)
            u' = there_at ((schemas c).works m) i' l

            full : 1 ≤ weight (A.block m i) (A.block m i') (A.number u'.0) → ⊥
            full p =
                let a = two_weights (schemas c) A.block A.number m (A.block m i) 0 j i' u u'.0 ((schemas c).works m) e u'.1 (λ f. d (sym f)) in
                let q = at_block (A.block m i) (A.block m j) (A.number u) b in
                let s = A.numbers.above ((schemas c).head m) m i r g r refl k in
                let t = at_most ((schemas c).head m) u r u_is_reached (sym same) in
                let v = ap (λ z. weight (A.block m i) (A.block m z) (A.number u)) (let y : 0 + j ≡ j = omega arith in y) in
                let w = ap (λ z. weight (A.block m i) (A.block m z) (A.number u'.0)) (let y : 0 + i' ≡ i' = omega arith in y) in
                omega arith

            go : (A.block m i' < A.block m i) ⊎ ((A.block m i' ≡ A.block m i) ⊎ (A.block m i < A.block m i')) → A.block m i' < A.block m i
            go (inl l) = l
            go (inr (inl f)) = absurd (full (let a = at_block (A.block m i) (A.block m i') (A.number u'.0) f in let p = A.numbers.positive u'.0 (as_child m i' g r u'.1) in omega arith))
            go (inr (inr l)) = absurd (full (let a = after_block (A.block m i) (A.block m i') (A.number u'.0) l in omega arith))

    -- one group, by the group numbers
    pub same_group : (x : Schema) (t : ℕ) → Reached x → Reached (task t) → group_of A.group x ≡ group_of A.group (task t) → HasWalk x (task t) × HasWalk (task t) x
    same_group (action a) t r q e = absurd (omega arith)
    same_group (check m) t r q e = absurd (omega arith)
    same_group (task u) t r q e = there_and_back (task u) (task t) ((A.groups u t r q).0 (omega arith))

    pub of_walks : (u t : ℕ) → Reached (task u) → Reached (task t) → HasWalk (task u) (task t) → HasWalk (task t) (task u) → group_of A.group (task u) ≡ group_of A.group (task t)
    of_walks u t r q a b = ap suc ((A.groups u t r q).1 (edges, are, (a, b)))
