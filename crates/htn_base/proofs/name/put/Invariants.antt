use Rattle.std.proofs.Common.{◌≡◌, ◌≤◌, ◌<◌, ℕ, Some, slice_get}
use Rattle.htn_base.proofs.name.put.Given as goal

abbrev pub invariant-loop-place : goal.invariant-loop-place
invariant-loop-place l = (l.index ≡ l.fn.index)
    × ((i n : ℕ) → l.start ≤ i → i < l.place → slice_get l.index.buckets.items i ≡ Some n → n < l.number)
