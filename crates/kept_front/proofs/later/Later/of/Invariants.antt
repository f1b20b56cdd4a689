use Rattle.std.proofs.Common.{ℕ, ◌≡◌, ◌≤◌, ◌-◌, length, get_or, take, [], vec_len}
use Rattle.kept_front.specs.Later.{followers, predecessors}
use Rattle.kept_front.proofs.later.Later.of.Given as goal

abbrev pub invariant-loop-by_child : goal.invariant-loop-by_child
invariant-loop-by_child l = (i : ℕ) → get_or l.by_child.items i [] ≡ []

abbrev pub decreases-loop-by_child : goal.decreases-loop-by_child
decreases-loop-by_child l = length l.plan.schema.children - vec_len l.by_child

abbrev pub invariant-loop-pair : goal.invariant-loop-pair
invariant-loop-pair l = record {
  room : length l.plan.schema.children ≤ length l.by_child.items;
  lists : (i : ℕ) → get_or l.by_child.items i [] ≡ followers (take l.pair-index l.plan.schema.pairs) i;
  counts_room : length l.counts.items ≡ length l.plan.schema.children;
  counted : (j : ℕ) → get_or l.counts.items j 0 ≡ predecessors (take l.pair-index l.plan.schema.pairs) j;
}
