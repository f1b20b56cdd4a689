use Rattle.std.proofs.Common.{◌≡◌, ◌≤◌, ◌<◌, ℕ, false, Some, slice_get}
use Rattle.htn_base.specs.Table.{is_word_at}
use Rattle.htn_base.proofs.name.NameTable.find.Given as goal

abbrev pub invariant-loop-place : goal.invariant-loop-place
invariant-loop-place l = (i n : ℕ) → l.start ≤ i → i < l.place → slice_get l.self-inside.index.buckets.items i ≡ Some n
    → is_word_at l.self-inside.words l.word n ≡ false
