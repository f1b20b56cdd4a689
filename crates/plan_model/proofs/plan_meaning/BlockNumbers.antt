-- Numbers of blocks: what children count in them, and blocks that stand in the same order.
use Rattle.std.proofs.Common.{ℕ, zero, suc, ◌≡◌, ◌≢◌, ◌+◌, ◌<◌, ◌≤◌, List, [], ◌∷◌, Some, slice_get, refl, ap, Contains, arith}
use Rattle.plan_model.specs.task_networks.Net.{Net}
use Rattle.plan_model.specs.task_networks.Bound.{AreBlocks, weight, weights}

module _ (N : Net) (block : N.Method → ℕ → ℕ) (number : N.Work → ℕ) (m : N.Method) (k : ℕ) where
  -- child j of those from number i on
  abbrev pub weight_of : ℕ → N.Work → ℕ
  weight_of i w = weight k (block m i) (number w)

  one_weight : (i j : ℕ) (u : N.Work) (ws : List N.Work) → slice_get ws j ≡ Some u → weight_of (i + j) u ≤ weights N block number m k i ws
  one_weight i j u [] e = absurd cc
  one_weight i zero u (w ∷ ws) e =
      let f : w ≡ u = cc in
      let a = ap (λ z. weight_of i z) f in
      let b = ap (λ z. weight_of z u) (let y : i ≡ i + 0 = omega arith in y) in
      omega arith
  one_weight i (suc j) u (w ∷ ws) e =
      let a = one_weight (suc i) j u ws e in
      let b = ap (λ z. weight_of z u) (let y : suc i + j ≡ i + suc j = omega arith in y) in
      omega arith

  -- two children count together
  pub two_weights : (i j j' : ℕ) (u u' : N.Work) (ws : List N.Work) → slice_get ws j ≡ Some u → slice_get ws j' ≡ Some u' → j ≢ j' → weight_of (i + j) u + weight_of (i + j') u' ≤ weights N block number m k i ws
  two_weights i j j' u u' [] e f n = absurd cc
  two_weights i zero zero u u' (w ∷ ws) e f n = absurd (n refl)
  two_weights i zero (suc j') u u' (w ∷ ws) e f n =
      let g : w ≡ u = cc in
      let a = ap (λ z. weight_of i z) g in
      let b = ap (λ z. weight_of z u) (let y : i ≡ i + 0 = omega arith in y) in
      let c = one_weight (suc i) j' u' ws f in
      let d = ap (λ z. weight_of z u') (let y : suc i + j' ≡ i + suc j' = omega arith in y) in
      omega arith
  two_weights i (suc j) zero u u' (w ∷ ws) e f n =
      let g : w ≡ u' = cc in
      let a = ap (λ z. weight_of i z) g in
      let b = ap (λ z. weight_of z u') (let y : i ≡ i + 0 = omega arith in y) in
      let c = one_weight (suc i) j u ws e in
      let d = ap (λ z. weight_of z u) (let y : suc i + j ≡ i + suc j = omega arith in y) in
      omega arith
  two_weights i (suc j) (suc j') u u' (w ∷ ws) e f n =
      let a = two_weights (suc i) j j' u u' ws e f (λ g. n (ap suc g)) in
      let b = ap (λ z. weight_of z u) (let y : suc i + j ≡ i + suc j = omega arith in y) in
      let c = ap (λ z. weight_of z u') (let y : suc i + j' ≡ i + suc j' = omega arith in y) in
      omega arith

-- where each child counts at most as much, so does the block
module _ (N : Net) (block other : N.Method → ℕ → ℕ) (number number' : N.Work → ℕ) (m : N.Method) (k k' : ℕ) where
  pub each_weight : (i : ℕ) (ws : List N.Work) → ((j : ℕ) (u : N.Work) → slice_get ws j ≡ Some u → weight_of N block number m k (i + j) u ≤ weight_of N other number' m k' (i + j) u)
      → weights N block number m k i ws ≤ weights N other number' m k' i ws
  each_weight i [] f = omega arith
  each_weight i (w ∷ ws) f =
      let a = f 0 w refl in
      let b = ap (λ z. weight_of N block number m k z w) (let y : i ≡ i + 0 = omega arith in y) in
      let c = ap (λ z. weight_of N other number' m k' z w) (let y : i ≡ i + 0 = omega arith in y) in
      let d = each_weight (suc i) ws (λ j u e. (
      let x = f (suc j) u e in
      let y = ap (λ z. weight_of N block number m k z u) (let q : suc i + j ≡ i + suc j = omega arith in q) in
      let z = ap (λ z. weight_of N other number' m k' z u) (let q : suc i + j ≡ i + suc j = omega arith in q) in
      omega arith
      )) in
      omega arith

-- blocks of one line stand in one order
module _ {Pair : ℕ → ℕ → Type 0} (line : List ℕ) (block other : ℕ → ℕ) (are : AreBlocks Pair line block) (others : AreBlocks Pair line other) (i j : ℕ) (c : Contains line i) (d : Contains line j) where
  pub same_order : block i < block j → other i < other j
  same_order l = (others i j c d).1 ((are i j c d).0 l)

  other_order : other i < other j → block i < block j
  other_order l = (are i j c d).1 ((others i j c d).0 l)
