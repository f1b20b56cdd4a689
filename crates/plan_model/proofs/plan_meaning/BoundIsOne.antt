-- A compiled problem has one bound at most.
use Rattle.std.proofs.Common.{ℕ, zero, suc, ◌≡◌, ◌+◌, ◌<◌, ◌≤◌, ◌⊎◌, inl, inr, List, [], ◌∷◌, ◌++◌, length, Some, slice_get, refl, ap, sym, subst, Contains, arith}
use Rattle.std.proofs.lemmas.List.{length-append}
use Rattle.std.proofs.lemmas.Option.{slice_get_within}
use Rattle.std.proofs.lemmas.List.Elements.{Contains-append_left, Contains-append_right, Contains-append_cases}
use Rattle.plan_model.specs.declared.values.Compiled.{Compiled}
use Rattle.plan_model.specs.task_networks.Net.{count}
use Rattle.plan_model.specs.task_networks.Bound.{block_number, Counts, itself, as_child}
use Rattle.plan_model.proofs.task_networks.BoundLaws.{by_size, before_block, at_block, after_block}
use Rattle.plan_model.proofs.task_networks.Lists.{head_or_tail, cut_at}
use Rattle.plan_model.specs.plan_meaning.Network.{top_task}
use Rattle.plan_model.specs.plan_meaning.Schemas.{Schema, task, action, check, schemas}
use Rattle.plan_model.specs.plan_meaning.Strata.{Edge, IsEdge, AreEdges, source, target_by}
use Rattle.plan_model.specs.plan_meaning.Bound.{group_of, IsBound}
use Rattle.plan_model.proofs.plan_meaning.BlockNumbers.{weight_of, each_weight, same_order}
use Rattle.plan_model.proofs.plan_meaning.examples.EdgeChecks.{edge}
use Rattle.plan_model.proofs.plan_meaning.BoundParts.{AreWhole, head_is_task, Reached, HasWalk, leads_on, listed, not_of_the_group, same_group, of_walks}

module _ (c : Compiled) (whole : AreWhole c) (edges : List Edge) (are : AreEdges c edges) where
  module _ {n n' : ℕ} (A : IsBound c n) (B : IsBound c n') where
    groups_agree : (x : Schema) (t : ℕ) → Reached c whole edges are x → Reached c whole edges are (task t) → group_of A.group x ≡ group_of A.group (task t) → group_of B.group x ≡ group_of B.group (task t)
    groups_agree (action a) t r q e = absurd (omega arith)
    groups_agree (check m) t r q e = absurd (omega arith)
    groups_agree (task u) t r q e = ap suc ((B.groups u t r q).1 ((A.groups u t r q).0 (omega arith)))

    blocks_agree : (m : ℕ) → (schemas c).IsGround m → (i j : ℕ) → i < count (schemas c) m → j < count (schemas c) m → A.block m i < A.block m j → B.block m i < B.block m j
    blocks_agree m (plan, e) i j l k f = same_order plan.line (A.block m) (B.block m) (A.blocks m plan e) (B.blocks m plan e) i j (listed c whole edges are m plan e i l) (listed c whole edges are m plan e j k) f

  module _ {n n' : ℕ} (A : IsBound c n) (B : IsBound c n') where
    one_block : (m : ℕ) → (schemas c).IsGround m → (i j : ℕ) → i < count (schemas c) m → j < count (schemas c) m → A.block m i ≡ A.block m j → B.block m i ≡ B.block m j
    one_block m g i j l k e = go (by_size (B.block m i) (B.block m j))
      where
        go : (B.block m i < B.block m j) ⊎ ((B.block m i ≡ B.block m j) ⊎ (B.block m j < B.block m i)) → B.block m i ≡ B.block m j
        go (inl f) = absurd (let h = blocks_agree B A m g i j l k f in omega arith)
        go (inr (inl f)) = f
        go (inr (inr f)) = absurd (let h = blocks_agree B A m g j i k l f in omega arith)

    -- a block that counts in one counts in the other
    counts_agree : (m i : ℕ) → (schemas c).IsGround m → Reached c whole edges are ((schemas c).head m) → Counts (schemas c) A.block A.number (group_of A.group) m i → Counts (schemas c) B.block B.number (group_of B.group) m i
    counts_agree m i g q k = (
      k.0,
      λ w o e. k.1 w (record {
        child = o.child;
        is = o.is;
        in_block = one_block_back o.child (slice_get_within ((schemas c).works m) o.child w o.is) o.in_block;
        earlier = λ i' l d. blocks_agree B A m g i' i l k.0 (o.earlier i' l d);
      }) (back w (as_child m o.child g q o.is) e),
    )
      where
        one_block_back : (j : ℕ) → j < count (schemas c) m → B.block m j ≡ B.block m i → A.block m j ≡ A.block m i
        one_block_back j l e = go (by_size (A.block m j) (A.block m i))
          where
            go : (A.block m j < A.block m i) ⊎ ((A.block m j ≡ A.block m i) ⊎ (A.block m i < A.block m j)) → A.block m j ≡ A.block m i
            go (inl f) = absurd (let h = blocks_agree A B m g j i l k.0 f in omega arith)
            go (inr (inl f)) = f
            go (inr (inr f)) = absurd (let h = blocks_agree A B m g i j k.0 l f in omega arith)

        back : (w : Schema) → Reached c whole edges are w → group_of B.group w ≡ group_of B.group ((schemas c).head m) → group_of A.group w ≡ group_of A.group ((schemas c).head m)
        back w r e =
            let (t, h) = head_is_task (slice_get c.methods m) in
            subst (λ z. group_of A.group w ≡ group_of A.group z) (sym h) (groups_agree B A w t r (subst (Reached c whole edges are) h q) (subst (λ z. group_of B.group w ≡ group_of B.group z) h e))

    -- all edges that a work leads to are among these
    Claim : ℕ → Type 0
    Claim k = (left : List Edge) → length left ≤ k → (w : Schema) → Reached c whole edges are w → ((e : Edge) → IsEdge c e → HasWalk c whole edges are w (source c e) → Contains left e) → A.number w ≤ B.number w

    step : (k : ℕ) → ((l : ℕ) → l < k → Claim l) → Claim k
    unfolding Claim
    step k ih left short w r all = go (A.numbers.attained w r)
      where
        go : (A.number w ≡ 1) ⊎ ((m : ℕ) × (i : ℕ) × (schemas c).IsGround m × Reached c whole edges are ((schemas c).head m) × (group_of A.group w ≡ group_of A.group ((schemas c).head m)) × Counts (schemas c) A.block A.number (group_of A.group) m i × (block_number (schemas c) A.block A.number m (A.block m i) ≡ A.number w)) → A.number w ≤ B.number w
        go (inl f) = let p = B.numbers.positive w r in omega arith
        go (inr (m, i, g, q, f, counts, o)) =
            let below = each_weight (schemas c) A.block B.block A.number B.number m (A.block m i) (B.block m i) 0 ((schemas c).works m) each in
            let b = B.numbers.above w m i r g q (grouped (head_is_task (slice_get c.methods m))) (counts_agree m i g q counts) in
            omega arith
          where
            grouped : (t : ℕ) × ((schemas c).head m ≡ task t) → group_of B.group w ≡ group_of B.group ((schemas c).head m)
            grouped (t, h) = subst (λ z. group_of B.group w ≡ group_of B.group z) (sym h) (groups_agree A B w t r (subst (Reached c whole edges are) h q) (subst (λ z. group_of A.group w ≡ group_of A.group z) h f))

            child_less : (j : ℕ) (u : Schema) → slice_get ((schemas c).works m) j ≡ Some u → A.block m j ≡ A.block m i → A.number u ≤ B.number u
            child_less j (action a) e b = let x = A.numbers.simple (action a) (as_child m j g q e) tt in let y = B.numbers.positive (action a) (as_child m j g q e) in omega arith
            child_less j (check d) e b = let x = A.numbers.simple (check d) (as_child m j g q e) tt in let y = B.numbers.positive (check d) (as_child m j g q e) in omega arith
            child_less j (task t) e b = lower (head_is_task (slice_get c.methods m)) (cut_at left (edge m j) (all (edge m j) is_edge (from_head (head_is_task (slice_get c.methods m)))))
              where
                is_edge : IsEdge c (edge m j)
                is_edge = record { ground = g; reached = q; subtask = t; is = e }

                from_head : (h : (s : ℕ) × ((schemas c).head m ≡ task s)) → HasWalk c whole edges are w ((schemas c).head m)
                from_head (s, h) = subst (HasWalk c whole edges are w) (sym h) (same_group c whole edges are A w s r (subst (Reached c whole edges are) h q) (subst (λ z. group_of A.group w ≡ group_of A.group z) h f)).0

                to_child : HasWalk c whole edges are ((schemas c).head m) (task t)
                to_child = (edge m j ∷ [], (refl, (are.all (edge m j)).1 is_edge, ap (target_by c) e))

                lower : (h : (s : ℕ) × ((schemas c).head m ≡ task s)) → (before : List Edge) × (after : List Edge) × (left ≡ before ++ edge m j ∷ after) → A.number (task t) ≤ B.number (task t)
                lower (s, h) (before, after, p) = ih (length (before ++ after)) (omega (arith, shorter)) (before ++ after) (omega arith) (task t) (as_child m j g q e) still
                  where
                    shorter : suc (length (before ++ after)) ≡ length left
                    shorter = omega (arith, length-append before after, length-append before (edge m j ∷ after), ap length p)

                    still : (e' : Edge) → IsEdge c e' → HasWalk c whole edges are (task t) (source c e') → Contains (before ++ after) e'
                    still e' i' l = elim (Contains-append_cases before (edge m j ∷ after) e' (subst (λ z. Contains z e') p (all e' i' on))) [
                      | inl x ↦ Contains-append_left before after e' x
                      | inr x ↦ elim (head_or_tail (edge m j) after e' x) [ inl y ↦ absurd (not_of_the_group c whole edges are A m i j (task t) g q counts e b (same y)) | inr y ↦ Contains-append_right before after e' y ]
                    ]
                      where
                        on : HasWalk c whole edges are w (source c e')
                        on = let a = from_head (s, h) in let b = leads_on c whole edges are ((schemas c).head m) (task t) (source c e') to_child.0 to_child.1 l in leads_on c whole edges are w ((schemas c).head m) (source c e') a.0 a.1 b

                        same : edge m j ≡ e' → group_of A.group (task t) ≡ group_of A.group ((schemas c).head m)
                        same y = subst (λ z. group_of A.group (task t) ≡ group_of A.group z) (sym h) (of_walks c whole edges are A t s (as_child m j g q e) (subst (Reached c whole edges are) h q) (subst (HasWalk c whole edges are (task t)) h (subst (λ z. HasWalk c whole edges are (task t) (source c z)) (sym y) l)) (subst (λ z. HasWalk c whole edges are z (task t)) h to_child))

            each : (j : ℕ) (u : Schema) → slice_get ((schemas c).works m) j ≡ Some u → weight_of (schemas c) A.block A.number m (A.block m i) (0 + j) u ≤ weight_of (schemas c) B.block B.number m (B.block m i) (0 + j) u
            each j u e = subst (λ z. weight_of (schemas c) A.block A.number m (A.block m i) z u ≤ weight_of (schemas c) B.block B.number m (B.block m i) z u) (let y : j ≡ 0 + j = omega arith in y) (here (by_size (A.block m j) (A.block m i)))
              where
                l : j < count (schemas c) m
                l = slice_get_within ((schemas c).works m) j u e

                here : (A.block m j < A.block m i) ⊎ ((A.block m j ≡ A.block m i) ⊎ (A.block m i < A.block m j)) → weight_of (schemas c) A.block A.number m (A.block m i) j u ≤ weight_of (schemas c) B.block B.number m (B.block m i) j u
                here (inl x) = let a = before_block (A.block m i) (A.block m j) (A.number u) x in omega arith
                here (inr (inl x)) =
                    let a = at_block (A.block m i) (A.block m j) (A.number u) x in
                    let b = at_block (B.block m i) (B.block m j) (B.number u) (one_block m g j i l counts.0 x) in
                    let d = child_less j u e x in
                    omega arith
                here (inr (inr x)) =
                    let a = after_block (A.block m i) (A.block m j) (A.number u) x in
                    let b = after_block (B.block m i) (B.block m j) (B.number u) (blocks_agree A B m g i j counts.0 l x) in
                    omega arith

    below : (k l : ℕ) → l < k → Claim l
    below zero l x = absurd (omega arith)
    below (suc k) l x = step l (λ i y. below k i (omega arith))

    at_most_the_other : n ≤ n'
    unfolding Claim
    at_most_the_other =
        let a = A.is in
        let b = B.is in
        let h = below (suc (length edges)) (length edges) (omega arith) edges (omega arith) (task (top_task c)) itself (λ e i w. (are.all e).1 i) in
        omega arith

-- its edges are those of its groups
edges_of : (c : Compiled) (n : ℕ) → IsBound c n → (edges : List Edge) × AreEdges c edges
edges_of c n b = let g = (b.groups (top_task c) (top_task c) itself itself).0 refl in (g.0, g.1)

pub bound_is_one : (c : Compiled) → AreWhole c → (n m : ℕ) → IsBound c n → IsBound c m → n ≡ m
bound_is_one c whole n m a b =
    let (edges, are) = edges_of c n a in
    let x = at_most_the_other c whole edges are a b in
    let y = at_most_the_other c whole edges are b a in
    omega arith
