-- Blocks, and numbers that bound the width: what is pending of a task at a time is never more than its number.
-- Source: this project's, after the tail-recursive problems of Alford et al., "Bound to Plan", ICAPS 2016.
use Rattle.std.specs.Prelude.{ℕ, suc, ◌≡◌, ◌≢◌, ◌+◌, ◌<◌, ◌≤◌, ◌⊎◌, ◌↔◌, List, [], ◌∷◌, cond, nat_lt, ◌==◌, Some, slice_get, take, drop, Contains}
use Rattle.plan_model.specs.task_networks.Order.{Precedes, IsCut}
use Rattle.plan_model.specs.task_networks.Net.{Net, count}

-- the blocks are the line cut at every cut: a child is in an earlier block than another exactly where a cut parts them
abbrev pub AreBlocks : (ℕ → ℕ → Type 0) → List ℕ → (ℕ → ℕ) → Type 0
AreBlocks Pair line block = (i j : ℕ) → Contains line i → Contains line j
    → (block i < block j) ↔ ((k : ℕ) × IsCut Pair line k × Contains (take k line) i × Contains (drop k line) j)

-- a work that can stand in a tree below the top work
pub data IsReached (N : Net) (top : N.Work) : N.Work → Type 0 where
  itself : IsReached N top top
  as_child : {w : N.Work} (m : N.Method) (i : ℕ) → N.IsGround m → IsReached N top (N.head m) → slice_get (N.works m) i ≡ Some w → IsReached N top w

-- what a child counts in the k-th block: nothing where its own is earlier, its number where it is this one, one where it is later
abbrev pub weight : (k block number : ℕ) → ℕ
weight k block number = cond (nat_lt block k) 0 (cond (block == k) number 1)

-- block m i is the block of child i, and number w the number of a work
module _ (N : Net) (block : N.Method → ℕ → ℕ) (number : N.Work → ℕ) where
  -- what children count, from number i on
  abbrev pub weights : N.Method → ℕ → ℕ → List N.Work → ℕ
  weights m k i [] = 0
  weights m k i (w ∷ ws) = weight k (block m i) (number w) + weights m k (suc i) ws

  -- the number of the k-th block: its children's numbers, and one for each child of later blocks
  abbrev pub block_number : N.Method → ℕ → ℕ
  block_number m k = weights m k 0 (N.works m)

  -- the k-th block is the last, and has one child alone, for this work
  pub record IsAloneAtTheEnd (m : N.Method) (k : ℕ) (work : N.Work) : Type 0 where
    pub child : ℕ
    pub is : slice_get (N.works m) child ≡ Some work
    pub in_block : block m child ≡ k
    pub earlier : (i : ℕ) → i < count N m → i ≢ child → block m i < k

  -- numbers that are large enough for all that is reached from the top work: each block's is at most the task's,
  -- but for a last block with one child alone whose number isn't above the task's
  pub record AreLargeEnough (top : N.Work) : Type 0 where
    pub positive : (w : N.Work) → IsReached N top w → 1 ≤ number w
    -- the children of a block precede those of later blocks
    pub ordered : (m : N.Method) (i j : ℕ) → i < count N m → j < count N m → block m i < block m j → Precedes (N.Pair m) i j
    pub enough : (m : N.Method) (i : ℕ) → N.IsGround m → IsReached N top (N.head m) → i < count N m
        → ((w : N.Work) → IsAloneAtTheEnd m (block m i) w → number w ≤ number (N.head m) → ⊥) → block_number m (block m i) ≤ number (N.head m)

  -- works with the same number are of one group: each reaches the other
  module _ (group : N.Work → ℕ) where
    -- the block of child i counts: it isn't the last with one child alone, of the group of the method's task
    abbrev pub Counts : N.Method → ℕ → Type 0
    Counts m i = (i < count N m) × ((w : N.Work) → IsAloneAtTheEnd m (block m i) w → group w ≡ group (N.head m) → ⊥)

    -- the bound of what is reached: 1 for actions and checks, and for a task the greatest number of a block that counts,
    -- over all methods of all tasks of its group, or 1 where that is less
    pub record IsTheBound (top : N.Work) : Type 0 where
      pub simple : (w : N.Work) → IsReached N top w → N.IsSimple w → number w ≡ 1
      pub positive : (w : N.Work) → IsReached N top w → 1 ≤ number w
      pub above : (w : N.Work) (m : N.Method) (i : ℕ) → IsReached N top w → N.IsGround m → IsReached N top (N.head m) → group w ≡ group (N.head m)
          → Counts m i → block_number m (block m i) ≤ number w
      pub attained : (w : N.Work) → IsReached N top w → (number w ≡ 1)
          ⊎ ((m : N.Method) × (i : ℕ) × N.IsGround m × IsReached N top (N.head m) × (group w ≡ group (N.head m))
          × Counts m i × (block_number m (block m i) ≡ number w))
