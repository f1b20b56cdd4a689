-- The bound is large enough.
use Rattle.std.proofs.Common.{ℕ, zero, suc, ◌≡◌, ◌≢◌, ◌+◌, ◌<◌, ◌≤◌, ◌⊎◌, inl, inr, List, [], ◌∷◌, length, Some, slice_get, map, refl, ap, sym, subst, ◌∙◌, arith}
use Rattle.std.proofs.lemmas.List.{length-map}
use Rattle.plan_model.specs.task_networks.Order.{Precedes, direct, through}
use Rattle.plan_model.specs.task_networks.Net.{Net, count}
use Rattle.plan_model.specs.task_networks.Bound.{weight, weights, IsAloneAtTheEnd, block_number, AreLargeEnough, IsReached, as_child, itself}
use Rattle.plan_model.specs.task_networks.Laws.{TheBoundIsLargeEnough, LiftedBoundIsBound}
use Rattle.plan_model.specs.task_networks.Lifted.{IsLifted}
use Rattle.plan_model.proofs.task_networks.Tests.{blocks}

pub by_size : (a b : ℕ) → (a < b) ⊎ ((a ≡ b) ⊎ (b < a))
by_size a b = grind arith

pub before_block : (k b x : ℕ) → b < k → weight k b x ≡ 0
before_block k b x l = grind arith

pub at_block : (k b x : ℕ) → b ≡ k → weight k b x ≡ x
at_block k b x e = grind arith

pub after_block : (k b x : ℕ) → k < b → weight k b x ≡ 1
after_block k b x l = grind arith

at_most : (k b x : ℕ) → 1 ≤ x → weight k b x ≤ x
at_most k b x l = grind arith

module _ (N : Net) (block : N.Method → ℕ → ℕ) (number : N.Work → ℕ) where
  all_before : (m : N.Method) (k i : ℕ) (ws : List N.Work) → ((j : ℕ) → j < length ws → block m (i + j) < k) → weights N block number m k i ws ≡ 0
  all_before m k i [] f = refl
  all_before m k i (w ∷ ws) f =
      let z = before_block k (block m i) (number w) (subst (λ x. block m x < k) (let y : i + 0 ≡ i = omega arith in y) (f 0 (omega arith))) in
      let r = all_before m k (suc i) ws (λ j l. subst (λ x. block m x < k) (let y : i + suc j ≡ suc i + j = omega arith in y) (f (suc j) (omega arith))) in
      omega arith

  -- where all others are in earlier blocks, one child counts
  one_counts : (m : N.Method) (k i child : ℕ) (work : N.Work) (ws : List N.Work) → slice_get ws child ≡ Some work → ((j : ℕ) → j < length ws → j ≢ child → block m (i + j) < k) → weights N block number m k i ws ≤ weight k (block m (i + child)) (number work)
  one_counts m k i child work [] e f = absurd cc
  one_counts m k i zero work (w ∷ ws) e f =
      let z = all_before m k (suc i) ws (λ j l. subst (λ x. block m x < k) (let y : i + suc j ≡ suc i + j = omega arith in y) (f (suc j) (omega arith) (omega arith))) in
      let g : w ≡ work = cc in
      let h : i ≡ i + 0 = omega arith in
      let p = ap (λ x. weight k (block m i) (number x)) g in
      let q = ap (λ x. weight k (block m x) (number work)) h in
      omega arith
  one_counts m k i (suc child) work (w ∷ ws) e f =
      let r = one_counts m k (suc i) child work ws e (λ j l n. subst (λ x. block m x < k) (let y : i + suc j ≡ suc i + j = omega arith in y) (f (suc j) (omega arith) (omega arith))) in
      let z = before_block k (block m i) (number w) (subst (λ x. block m x < k) (let y : i + 0 ≡ i = omega arith in y) (f 0 (omega arith) (omega arith))) in
      let q = ap (λ x. weight k (block m x) (number work)) (let y : suc i + child ≡ i + suc child = omega arith in y) in
      omega arith

  alone_counts : (m : N.Method) (k : ℕ) (w : N.Work) → 1 ≤ number w → IsAloneAtTheEnd N block number m k w → block_number N block number m k ≤ number w
  alone_counts m k w positive o =
      let a = one_counts m k 0 o.child w (N.works m) o.is (λ j l n. subst (λ x. block m x < k) (let y : j ≡ 0 + j = omega arith in y) (o.earlier j l n)) in
      let b = at_most k (block m (0 + o.child)) (number w) positive in
      omega arith

  -- so each block's number is at most the task's
  pub enough_for_all : (top : N.Work) → AreLargeEnough N block number top → (m : N.Method) (i : ℕ) → N.IsGround m → IsReached N top (N.head m) → i < count N m → block_number N block number m (block m i) ≤ number (N.head m)
  enough_for_all top bound m i g r l = go (by_size (number (N.head m)) (block_number N block number m (block m i)))
    where
      go : (number (N.head m) < block_number N block number m (block m i)) ⊎ ((number (N.head m) ≡ block_number N block number m (block m i)) ⊎ (block_number N block number m (block m i) < number (N.head m))) → block_number N block number m (block m i) ≤ number (N.head m)
      go (inl x) = bound.enough m i g r l (λ w o s. (let a = alone_counts m (block m i) w (bound.positive w (as_child m o.child g r o.is)) o in omega arith))
      go (inr (inl x)) = omega arith
      go (inr (inr x)) = omega arith

pub the_bound_is_large_enough : (N : Net) → TheBoundIsLargeEnough N
the_bound_is_large_enough N top block number group blocks bound = record { positive = bound.positive; ordered = ordered; enough = enough }
  where
    ordered : (m : N.Method) (i j : ℕ) → i < count N m → j < count N m → block m i < block m j → Precedes (N.Pair m) i j
    ordered m i j a b l =
        let (line, is_line, cuts) = blocks m in
        let (k, cut, before, after) = (cuts i j (is_line.whole i a) (is_line.whole j b)).0 l in
        cut i j before after

    same_group : (w v : N.Work) → IsReached N top w → IsReached N top v → group w ≡ group v → number w ≤ number v
    same_group w v r q e = elim (bound.attained w r) [
      | inl x ↦ (let p = bound.positive v q in omega arith)
      | inr (m, i, g, h, f, c, x) ↦ (let y = bound.above v m i q g h (sym e ∙ f) c in omega arith)
    ]

    enough : (m : N.Method) (i : ℕ) → N.IsGround m → IsReached N top (N.head m) → i < count N m → ((w : N.Work) → IsAloneAtTheEnd N block number m (block m i) w → number w ≤ number (N.head m) → ⊥) → block_number N block number m (block m i) ≤ number (N.head m)
    enough m i g r l f = bound.above (N.head m) m i r g r refl (l, λ w o e. f w o (same_group w (N.head m) (as_child m o.child g r o.is) r e))

module _ (N L : Net) (work : N.Work → L.Work) (method : N.Method → L.Method) (lifts : IsLifted N L work method) (block : L.Method → ℕ → ℕ) (number : L.Work → ℕ) where
  same_weights : (m : N.Method) (k i : ℕ) (ws : List N.Work) → weights N (λ m. block (method m)) (λ w. number (work w)) m k i ws ≡ weights L block number (method m) k i (map work ws)
  same_weights m k i [] = refl
  same_weights m k i (w ∷ ws) = ap (λ x. weight k (block (method m) i) (number (work w)) + x) (same_weights m k (suc i) ws)

  precedes_ground : (m : N.Method) (i j : ℕ) → Precedes (L.Pair (method m)) i j → Precedes (N.Pair m) i j
  precedes_ground m i j (direct h) = direct (lifts.pairs m i j h)
  precedes_ground m i k (through {j = j} c h) = through (precedes_ground m i j c) (lifts.pairs m j k h)

  same_count : (m : N.Method) → count N m ≡ count L (method m)
  same_count m = sym (length-map (N.works m) work) ∙ ap length (lifts.works m)

  -- what is reached has a schema that is reached
  reached_lifted : (top w : N.Work) → IsReached N top w → IsReached L (work top) (work w)
  reached_lifted top w itself = itself
  reached_lifted top w (as_child m i g r e) = as_child (method m) i (lifts.ground m g) (subst (IsReached L (work top)) (lifts.head m) (reached_lifted top (N.head m) r)) (sym (ap (λ z. slice_get z i) (lifts.works m)) ∙ get-map (N.works m) i w e)
    where
      get-map : (ws : List N.Work) (i : ℕ) (w : N.Work) → slice_get ws i ≡ Some w → slice_get (map work ws) i ≡ Some (work w)
      get-map [] i w e = absurd cc
      get-map (v ∷ ws) zero w e = let f : v ≡ w = cc in ap (λ z. Some (work z)) f
      get-map (v ∷ ws) (suc i) w e = get-map ws i w e

  pub lifted_bound : (top : N.Work) → AreLargeEnough L block number (work top) → AreLargeEnough N (λ m. block (method m)) (λ w. number (work w)) top
  lifted_bound top bound = record {
    positive = λ w r. bound.positive (work w) (reached_lifted top w r);
    ordered = λ m i j a b l. precedes_ground m i j (bound.ordered (method m) i j (subst (λ n. i < n) (same_count m) a) (subst (λ n. j < n) (same_count m) b) l);
    enough = λ m i g r l f. (
        let q : IsReached L (work top) (L.head (method m)) = subst (IsReached L (work top)) (lifts.head m) (reached_lifted top (N.head m) r) in
        let h = enough_for_all L block number (work top) bound (method m) i (lifts.ground m g) q (subst (λ n. i < n) (same_count m) l) in
        let e = same_weights m (block (method m) i) 0 (N.works m) ∙ ap (weights L block number (method m) (block (method m) i) 0) (lifts.works m) in
        let d = ap number (lifts.head m) in
        omega arith);
  }

pub lifted_bound_is_bound : (N L : Net) (work : N.Work → L.Work) (method : N.Method → L.Method) → LiftedBoundIsBound N L work method
lifted_bound_is_bound N L work method lifts top block number bound = lifted_bound N L work method lifts block number top bound
