-- A network whose methods and works are those of another one, one to one, but that works without subtasks may be taken together:
-- what is reached of it, what its last children are, and what bounds it are the same.
use Rattle.std.proofs.Common.{ℕ, suc, ◌≡◌, ◌≤◌, ◌⊎◌, ◌↔◌, inl, inr, List, [], ◌∷◌, length, Some, slice_get, refl, ap, sym, subst, ◌∙◌, arith}
use Rattle.std.proofs.lemmas.Option.{slice_get_within}
use Rattle.plan_model.specs.task_networks.Net.{Net, count}
use Rattle.plan_model.specs.task_networks.Order.{Precedes, direct, through, IsLast}
use Rattle.plan_model.specs.task_networks.Bound.{IsReached, itself, as_child, weight, weights, block_number, IsAloneAtTheEnd, Counts, IsTheBound}
use Rattle.plan_model.proofs.plan_meaning.BoundParts.{there_at}

pub record AreAlike (M N : Net) (top : M.Work) (last : N.Work) (method : M.Method → N.Method) (Same : M.Work → N.Work → Type 0) : Type 0 where
  pub tops : Same top last
  pub ground : (m : M.Method) → M.IsGround m → N.IsGround (method m)
  pub every : (g : N.Method) → N.IsGround g → (m : M.Method) × M.IsGround m × (method m ≡ g)
  pub heads : (m : M.Method) → M.IsGround m → Same (M.head m) (N.head (method m))
  pub count : (m : M.Method) → M.IsGround m → count M m ≡ count N (method m)
  pub works : (m : M.Method) (i : ℕ) (v : M.Work) (w : N.Work) → M.IsGround m → slice_get (M.works m) i ≡ Some v → slice_get (N.works (method m)) i ≡ Some w → Same v w
  pub pairs : (m : M.Method) (i j : ℕ) → M.IsGround m → M.Pair m i j ↔ N.Pair (method m) i j
  pub simple : (v : M.Work) (w : N.Work) → Same v w → M.IsSimple v ↔ N.IsSimple w
  -- tasks are told apart
  pub one : (v x : M.Work) (w y : N.Work) → (M.IsSimple v → ⊥) → (M.IsSimple x → ⊥) → Same v w → Same x y → (v ≡ x) ↔ (w ≡ y)
  pub head_is_task : (m : M.Method) → M.IsSimple (M.head m) → ⊥
  pub told : (v : M.Work) → M.IsSimple v ⊎ (M.IsSimple v → ⊥)

precedes_on : (P Q : ℕ → ℕ → Type 0) → ((i j : ℕ) → P i j → Q i j) → (i j : ℕ) → Precedes P i j → Precedes Q i j
precedes_on P Q f i j (direct h) = direct (f i j h)
precedes_on P Q f i j (through {j = k} a h) = through (precedes_on P Q f i k a) (f k j h)

module _ (M N : Net) (top : M.Work) (last : N.Work) (method : M.Method → N.Method) (Same : M.Work → N.Work → Type 0) (A : AreAlike M N top last method Same) where
  pub child_there : (m : M.Method) (i : ℕ) (v : M.Work) → M.IsGround m → slice_get (M.works m) i ≡ Some v
      → (w : N.Work) × (slice_get (N.works (method m)) i ≡ Some w) × Same v w
  child_there m i v g e =
      let (w, f) = there_at (N.works (method m)) i (let l = slice_get_within (M.works m) i v e in let c = A.count m g in omega arith) in
      (w, f, A.works m i v w g e f)

  pub child_back : (m : M.Method) (i : ℕ) (w : N.Work) → M.IsGround m → slice_get (N.works (method m)) i ≡ Some w
      → (v : M.Work) × (slice_get (M.works m) i ≡ Some v) × Same v w
  child_back m i w g e =
      let (v, f) = there_at (M.works m) i (let l = slice_get_within (N.works (method m)) i w e in let c = A.count m g in omega arith) in
      (v, f, A.works m i v w g f e)

  -- the head of a method is what stands for the head
  to_head : (m : M.Method) (w : N.Work) → M.IsGround m → Same (M.head m) w → w ≡ N.head (method m)
  to_head m w g s = (A.one (M.head m) (M.head m) w (N.head (method m)) (A.head_is_task m) (A.head_is_task m) s (A.heads m g)).0 refl

  of_head : (m : M.Method) (v : M.Work) → M.IsGround m → Same v (N.head (method m)) → v ≡ M.head m
  of_head m v g s = (A.one v (M.head m) (N.head (method m)) (N.head (method m)) (λ i. A.head_is_task m (no_simple ((A.simple v (N.head (method m)) s).0 i))) (A.head_is_task m) s (A.heads m g)).1 refl
    where
      no_simple : N.IsSimple (N.head (method m)) → M.IsSimple (M.head m)
      no_simple i = (A.simple (M.head m) (N.head (method m)) (A.heads m g)).1 i

  pub reached_there : (v : M.Work) → IsReached M top v → (w : N.Work) × Same v w × IsReached N last w
  reached_there v itself = (last, A.tops, itself)
  reached_there v (as_child m i g r e) =
      let (h, s, q) = reached_there (M.head m) r in
      let (w, f, k) = child_there m i v g e in
      (w, k, as_child (method m) i (A.ground m g) (subst (IsReached N last) (to_head m h g s) q) f)

  pub reached_back : (w : N.Work) → IsReached N last w → (v : M.Work) × Same v w × IsReached M top v
  reached_back w itself = (top, A.tops, itself)
  reached_back w (as_child n i g r e) =
      let (h, s, q) = reached_back (N.head n) r in
      let (m, k, f) = A.every n g in
      let (v, d, a) = child_back m i w k (subst (λ z. slice_get (N.works z) i ≡ Some w) (sym f) e) in
      (v, a, as_child m i k (subst (IsReached M top) (of_head m h k (subst (λ z. Same h (N.head z)) (sym f) s)) q) d)

  -- the same of what stands for each other
  pub same_reached : (v : M.Work) (w : N.Work) → (M.IsSimple v → ⊥) → Same v w → IsReached M top v ↔ IsReached N last w
  same_reached v w n s = (
    λ r. (let (x, k, q) = reached_there v r in subst (IsReached N last) ((A.one v v x w n n k s).0 refl) q),
    λ r. (let (x, k, q) = reached_back w r in subst (IsReached M top) ((A.one x v w w (λ i. n ((A.simple v w s).1 ((A.simple x w k).0 i))) n k s).1 refl) q),
  )

  pub same_reached_head : (m : M.Method) → M.IsGround m → IsReached M top (M.head m) ↔ IsReached N last (N.head (method m))
  same_reached_head m g = same_reached (M.head m) (N.head (method m)) (A.head_is_task m) (A.heads m g)

  pub same_last : (m : M.Method) (i : ℕ) → M.IsGround m → IsLast (M.Pair m) (count M m) i ↔ IsLast (N.Pair (method m)) (count N (method m)) i
  same_last m i g = (
    λ h. (let l = h.0 in let c = A.count m g in omega arith, λ j k d. precedes_on (M.Pair m) (N.Pair (method m)) (λ i j. (A.pairs m i j g).0) j i (h.1 j (let c = A.count m g in omega arith) d)),
    λ h. (let l = h.0 in let c = A.count m g in omega arith, λ j k d. precedes_on (N.Pair (method m)) (M.Pair m) (λ i j. (A.pairs m i j g).1) j i (h.1 j (let c = A.count m g in omega arith) d)),
  )

  -- blocks, groups and numbers of the one from those of the other: what has no subtasks has number 1 and group 0
  module _ (block : N.Method → ℕ → ℕ) (number group : N.Work → ℕ) (its_number its_group : M.Work → ℕ) (B : IsTheBound N block number group last)
      (simple_number : (v : M.Work) → M.IsSimple v → its_number v ≡ 1) (simple_group : (v : M.Work) → M.IsSimple v → its_group v ≡ 0)
      (task_number : (v : M.Work) (w : N.Work) → (M.IsSimple v → ⊥) → Same v w → its_number v ≡ number w)
      (task_group : (v : M.Work) (w : N.Work) → (M.IsSimple v → ⊥) → Same v w → its_group v ≡ suc (group w))
      (apart : (w : N.Work) (m : N.Method) → N.IsGround m → IsReached N last (N.head m) → IsReached N last w → N.IsSimple w → group w ≡ group (N.head m) → ⊥) where
    abbrev its_block : M.Method → ℕ → ℕ
    its_block m = block (method m)

    -- what is of a head's group is a task
    is_task : (v : M.Work) (m : M.Method) → M.IsGround m → its_group v ≡ its_group (M.head m) → M.IsSimple v → ⊥
    is_task v m g e s = let a = simple_group v s in let b = task_group (M.head m) (N.head (method m)) (A.head_is_task m) (A.heads m g) in omega arith

    group_there : (v : M.Work) (w : N.Work) (m : M.Method) → M.IsGround m → Same v w → its_group v ≡ its_group (M.head m) → group w ≡ group (N.head (method m))
    group_there v w m g s e =
        let a = task_group v w (is_task v m g e) s in
        let b = task_group (M.head m) (N.head (method m)) (A.head_is_task m) (A.heads m g) in
        omega arith

    group_back : (v : M.Work) (w : N.Work) (m : M.Method) → M.IsGround m → (M.IsSimple v → ⊥) → Same v w → group w ≡ group (N.head (method m)) → its_group v ≡ its_group (M.head m)
    group_back v w m g n s e =
        let a = task_group v w n s in
        let b = task_group (M.head m) (N.head (method m)) (A.head_is_task m) (A.heads m g) in
        omega arith

    same_number : (v : M.Work) (w : N.Work) → IsReached N last w → Same v w → its_number v ≡ number w
    same_number v w r s = elim (A.told v) [
      | inl i ↦ simple_number v i ∙ sym (B.simple w r ((A.simple v w s).0 i))
      | inr n ↦ task_number v w n s
    ]

    alone_there : (m : M.Method) (k : ℕ) (v : M.Work) (w : N.Work) → M.IsGround m → (o : IsAloneAtTheEnd M its_block its_number m k v)
        → slice_get (N.works (method m)) o.child ≡ Some w → IsAloneAtTheEnd N block number (method m) k w
    alone_there m k v w g o e = record { child = o.child; is = e; in_block = o.in_block; earlier = λ i l d. o.earlier i (let c = A.count m g in omega arith) d }

    alone_back : (m : M.Method) (k : ℕ) (v : M.Work) (w : N.Work) → M.IsGround m → (o : IsAloneAtTheEnd N block number (method m) k w)
        → slice_get (M.works m) o.child ≡ Some v → IsAloneAtTheEnd M its_block its_number m k v
    alone_back m k v w g o e = record { child = o.child; is = e; in_block = o.in_block; earlier = λ i l d. o.earlier i (let c = A.count m g in omega arith) d }

    counts_there : (m : M.Method) (i : ℕ) → M.IsGround m → IsReached M top (M.head m) → Counts M its_block its_number its_group m i → Counts N block number group (method m) i
    counts_there m i g r c = (
      let l = c.0 in let k = A.count m g in omega arith,
      λ w o e.
          let (v, f, s) = child_back m o.child w g o.is in
          let q = (same_reached_head m g).0 r in
          let n : M.IsSimple v → ⊥ = λ x. apart w (method m) (A.ground m g) q (as_child (method m) o.child (A.ground m g) q o.is) ((A.simple v w s).0 x) e in
          c.1 v (alone_back m (its_block m i) v w g o f) (group_back v w m g n s e),
    )

    counts_back : (m : M.Method) (i : ℕ) → M.IsGround m → Counts N block number group (method m) i → Counts M its_block its_number its_group m i
    counts_back m i g c = (
      let l = c.0 in let k = A.count m g in omega arith,
      λ v o e.
          let (w, f, s) = child_there m o.child v g o.is in
          c.1 w (alone_there m (its_block m i) v w g o f) (group_there v w m g s e),
    )

    same_weights : (m : M.Method) (k i : ℕ) (vs : List M.Work) (ws : List N.Work) → length vs ≡ length ws
        → ((j : ℕ) (v : M.Work) (w : N.Work) → slice_get vs j ≡ Some v → slice_get ws j ≡ Some w → its_number v ≡ number w)
        → weights M its_block its_number m k i vs ≡ weights N block number (method m) k i ws
    same_weights m k i [] [] l each = refl
    same_weights m k i [] (w ∷ ws) l each = absurd (omega arith)
    same_weights m k i (v ∷ vs) [] l each = absurd (omega arith)
    same_weights m k i (v ∷ vs) (w ∷ ws) l each =
        let a = ap (weight k (block (method m) i)) (each 0 v w refl refl) in
        let b = same_weights m k (suc i) vs ws (omega arith) (λ j x y. each (suc j) x y) in
        omega arith

    same_block : (m : M.Method) (k : ℕ) → M.IsGround m → IsReached M top (M.head m) → block_number M its_block its_number m k ≡ block_number N block number (method m) k
    same_block m k g r = same_weights m k 0 (M.works m) (N.works (method m)) (A.count m g)
        (λ j v w e f. same_number v w (as_child (method m) j (A.ground m g) ((same_reached_head m g).0 r) f) (A.works m j v w g e f))

    pub its_bound : IsTheBound M its_block its_number its_group top
    its_bound = record {
      simple = λ v r s. simple_number v s;
      positive = λ v r. (let (w, s, q) = reached_there v r in let a = same_number v w q s in let b = B.positive w q in omega arith);
      above = above;
      attained = λ v r. (let (w, s, q) = reached_there v r in attained v w q s (B.attained w q));
    }
      where
        above : (v : M.Work) (m : M.Method) (i : ℕ) → IsReached M top v → M.IsGround m → IsReached M top (M.head m) → its_group v ≡ its_group (M.head m)
            → Counts M its_block its_number its_group m i → block_number M its_block its_number m (its_block m i) ≤ its_number v
        above v m i r g h e c =
            let (w, s, q) = reached_there v r in
            let a = same_number v w q s in
            let b = B.above w (method m) i q (A.ground m g) ((same_reached_head m g).0 h) (group_there v w m g s e) (counts_there m i g h c) in
            let d = same_block m (its_block m i) g h in
            omega arith

        attained : (v : M.Work) (w : N.Work) → IsReached N last w → Same v w
            → ((number w ≡ 1) ⊎ ((n : N.Method) × (i : ℕ) × N.IsGround n × IsReached N last (N.head n) × (group w ≡ group (N.head n)) × Counts N block number group n i × (block_number N block number n (block n i) ≡ number w)))
            → ((its_number v ≡ 1) ⊎ ((m : M.Method) × (i : ℕ) × M.IsGround m × IsReached M top (M.head m) × (its_group v ≡ its_group (M.head m)) × Counts M its_block its_number its_group m i × (block_number M its_block its_number m (its_block m i) ≡ its_number v)))
        attained v w q s (inl e) = inl (same_number v w q s ∙ e)
        attained v w q s (inr (n, i, g, h, e, c, b)) =
            let (m, k, f) = A.every n g in
            let h' = subst (λ z. IsReached N last (N.head z)) (sym f) h in
            let e' = subst (λ z. group w ≡ group (N.head z)) (sym f) e in
            let c' = subst (λ z. Counts N block number group z i) (sym f) c in
            let b' = subst (λ z. block_number N block number z (block z i) ≡ number w) (sym f) b in
            let t : M.IsSimple v → ⊥ = λ x. apart w n g h q ((A.simple v w s).0 x) e in
            let r = (same_reached_head m k).1 h' in
            inr (m, i, k, r, group_back v w m k t s e', counts_back m i k c', same_block m (its_block m i) k r ∙ b' ∙ sym (same_number v w q s))
