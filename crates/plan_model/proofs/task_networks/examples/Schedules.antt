-- Trees, schedules and what is pending, worked out.
use Rattle.std.proofs.Common.{◌≡◌, inl, inr, [], ◌∷◌, length, Some, None, refl, ap, arith}
use Rattle.plan_model.specs.task_networks.Order.{direct, Precedes}
use Rattle.plan_model.specs.task_networks.Tree.{Tree, split, more, done, none, IsGrown, label_at, ran, used, open_leaf}
use Rattle.plan_model.specs.task_networks.Schedule.{IsSchedule, Blocks}
use Rattle.plan_model.specs.task_networks.Pending.{IsWidth, IsWithin}
use Rattle.plan_model.specs.task_networks.PendingComputed.{pending}
use Rattle.plan_model.proofs.task_networks.examples.Nets.{fork_t, fork, fork_a, fork_b, fork_precedes, fork_decides, chain, of_t, of_x, chain_p, chain_q, chain_y, chain_precedes, chain_decides, ChainMethod, ChainPair, no_chain}
use Rattle.plan_model.proofs.task_networks.PendingNodes.{pending_different, pending_iff, within_iff}
use Rattle.plan_model.proofs.task_networks.SpellingTests.{within_by}
use Rattle.plan_model.proofs.task_networks.Tests.{schedule_iff}

-- t -> a, b without an order
module _ where
  abbrev fork_tree : Tree fork
  fork_tree = split tt (more (done fork_a) (more (done fork_b) none))

  grown : IsGrown fork fork_tree
  grown = (tt, refl, (tt, (tt, tt)))

  b_stands_at_one : label_at fork fork_tree (1 ∷ []) ≡ Some (ran fork_b)
  b_stands_at_one = refl

  nothing_stands_at_two : label_at fork fork_tree (2 ∷ []) ≡ None
  nothing_stands_at_two = refl

  -- both orders are schedules
  a_first : IsSchedule fork fork_tree ([] ∷ (0 ∷ []) ∷ (1 ∷ []) ∷ [])
  a_first = (schedule_iff fork fork_precedes fork_decides fork_tree ([] ∷ (0 ∷ []) ∷ (1 ∷ []) ∷ [])).0 refl

  b_first : IsSchedule fork fork_tree ([] ∷ (1 ∷ []) ∷ (0 ∷ []) ∷ [])
  b_first = (schedule_iff fork fork_precedes fork_decides fork_tree ([] ∷ (1 ∷ []) ∷ (0 ∷ []) ∷ [])).0 refl

  -- the parent stands first
  not_a_child_first : IsSchedule fork fork_tree ((0 ∷ []) ∷ [] ∷ (1 ∷ []) ∷ []) → ⊥
  not_a_child_first s = let e = (schedule_iff fork fork_precedes fork_decides fork_tree ((0 ∷ []) ∷ [] ∷ (1 ∷ []) ∷ [])).1 s in cc

  -- all nodes are scheduled, each once
  not_without_b : IsSchedule fork fork_tree ([] ∷ (0 ∷ []) ∷ []) → ⊥
  not_without_b s = let e = (schedule_iff fork fork_precedes fork_decides fork_tree ([] ∷ (0 ∷ []) ∷ [])).1 s in cc

  not_twice : IsSchedule fork fork_tree ([] ∷ (0 ∷ []) ∷ (0 ∷ []) ∷ (1 ∷ []) ∷ []) → ⊥
  not_twice s = let e = (schedule_iff fork fork_precedes fork_decides fork_tree ([] ∷ (0 ∷ []) ∷ (0 ∷ []) ∷ (1 ∷ []) ∷ [])).1 s in cc

  -- a task without a method isn't finished, and a method has its own children
  not_done_t : IsGrown fork (done fork_t) → ⊥
  not_done_t g = g

  not_one_child : IsGrown fork (split tt (more (done fork_a) none)) → ⊥
  not_one_child g = let e = ap length g.1 in omega arith

-- t -> x < y, and x -> p, q: the example that is drawn with the definitions of trees and schedules
module _ where
  abbrev chain_tree : Tree chain
  chain_tree = split of_t (more (split of_x (more (done chain_p) (more (done chain_q) none))) (more (done chain_y) none))

  q_first : IsSchedule chain chain_tree ([] ∷ (0 ∷ []) ∷ (1 ∷ 0 ∷ []) ∷ (0 ∷ 0 ∷ []) ∷ (1 ∷ []) ∷ [])
  q_first = (schedule_iff chain chain_precedes chain_decides chain_tree ([] ∷ (0 ∷ []) ∷ (1 ∷ 0 ∷ []) ∷ (0 ∷ 0 ∷ []) ∷ (1 ∷ []) ∷ [])).0 refl

  -- y waits until p and q are done
  y_waits_for_q : IsSchedule chain chain_tree ([] ∷ (0 ∷ []) ∷ (0 ∷ 0 ∷ []) ∷ (1 ∷ []) ∷ (1 ∷ 0 ∷ []) ∷ []) → ⊥
  y_waits_for_q s = let e = (schedule_iff chain chain_precedes chain_decides chain_tree ([] ∷ (0 ∷ []) ∷ (0 ∷ 0 ∷ []) ∷ (1 ∷ []) ∷ (1 ∷ 0 ∷ []) ∷ [])).1 s in cc

  p_blocks_y : Blocks chain chain_tree (0 ∷ 0 ∷ []) (1 ∷ [])
  p_blocks_y = (of_t, 0, refl, direct tt, inr (inl refl))

  p_does_not_block_q : Blocks chain chain_tree (0 ∷ 0 ∷ []) (1 ∷ 0 ∷ []) → ⊥
  p_does_not_block_q (m, i, e, c, b) = go m e c
    where
      go : (m : ChainMethod) → label_at chain chain_tree (0 ∷ []) ≡ Some (used m) → Precedes (ChainPair m) i 1 → ⊥
      go of_t f c = absurd cc
      go of_x f c = no_chain {Pair = ChainPair of_x} (λ i j k h g. h) i 1 c

  -- y is an open leaf yet: nothing is asked of it, and the schedule may stop anywhere
  abbrev open_tree : Tree chain
  open_tree = split of_t (more (split of_x (more (open_leaf chain_p) (more (done chain_q) none))) (more (open_leaf chain_y) none))

  unfinished : IsSchedule chain open_tree ([] ∷ (0 ∷ []) ∷ (1 ∷ 0 ∷ []) ∷ [])
  unfinished = (schedule_iff chain chain_precedes chain_decides open_tree ([] ∷ (0 ∷ []) ∷ (1 ∷ 0 ∷ []) ∷ [])).0 refl

  -- pending after the first steps
  at_first : pending chain chain_tree [] ≡ [] ∷ []
  at_first = refl

  after_the_root : pending chain chain_tree ([] ∷ []) ≡ (0 ∷ []) ∷ (1 ∷ []) ∷ []
  after_the_root = refl

  after_x : pending chain chain_tree ([] ∷ (0 ∷ []) ∷ []) ≡ (0 ∷ 0 ∷ []) ∷ (1 ∷ 0 ∷ []) ∷ (1 ∷ []) ∷ []
  after_x = refl

  after_q : pending chain chain_tree ([] ∷ (0 ∷ []) ∷ (1 ∷ 0 ∷ []) ∷ []) ≡ (0 ∷ 0 ∷ []) ∷ (1 ∷ []) ∷ []
  after_q = refl

  after_p : pending chain chain_tree ([] ∷ (0 ∷ []) ∷ (1 ∷ 0 ∷ []) ∷ (0 ∷ 0 ∷ []) ∷ []) ≡ (1 ∷ []) ∷ []
  after_p = refl

  at_the_end : pending chain chain_tree ([] ∷ (0 ∷ []) ∷ (1 ∷ 0 ∷ []) ∷ (0 ∷ 0 ∷ []) ∷ (1 ∷ []) ∷ []) ≡ []
  at_the_end = refl

  -- the width is three: p, q and y
  three_pending : IsWidth chain 3 chain_tree ([] ∷ (0 ∷ []) ∷ (1 ∷ 0 ∷ []) ∷ (0 ∷ 0 ∷ []) ∷ (1 ∷ []) ∷ [])
  three_pending = record {
    within = within_by chain 3 chain_tree ([] ∷ (0 ∷ []) ∷ (1 ∷ 0 ∷ []) ∷ (0 ∷ 0 ∷ []) ∷ (1 ∷ []) ∷ []) refl;
    taken = [] ∷ (0 ∷ []) ∷ [];
    rest = (1 ∷ 0 ∷ []) ∷ (0 ∷ 0 ∷ []) ∷ (1 ∷ []) ∷ [];
    nodes = pending chain chain_tree ([] ∷ (0 ∷ []) ∷ []);
    parts = refl;
    pending = record { different = pending_different chain chain_tree ([] ∷ (0 ∷ []) ∷ []); pending = λ p c. (pending_iff chain chain_tree ([] ∷ (0 ∷ []) ∷ []) p).0 c };
    many = refl;
  }

  not_two : IsWithin chain 2 chain_tree ([] ∷ (0 ∷ []) ∷ (1 ∷ 0 ∷ []) ∷ (0 ∷ 0 ∷ []) ∷ (1 ∷ []) ∷ []) → ⊥
  not_two w = let l = (within_iff chain 2 chain_tree ([] ∷ (0 ∷ []) ∷ (1 ∷ 0 ∷ []) ∷ (0 ∷ 0 ∷ []) ∷ (1 ∷ []) ∷ [])).0 w ([] ∷ (0 ∷ []) ∷ []) ((1 ∷ 0 ∷ []) ∷ (0 ∷ 0 ∷ []) ∷ (1 ∷ []) ∷ []) refl in omega arith
