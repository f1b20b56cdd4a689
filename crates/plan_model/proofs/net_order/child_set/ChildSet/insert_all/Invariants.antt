use Rattle.std.proofs.Common.{◌≡◌, ℕ, ◌<◌, ◌≤◌, length, get_or, bit_or}
use Rattle.plan_model.proofs.net_order.child_set.ChildSet.insert_all.Given as goal

abbrev pub invariant-loop-k : goal.invariant-loop-k
invariant-loop-k l = record {
  count : l.self-inside.count ≡ l.initial.self-inside.count;
  room : length l.self-inside.words.items ≡ length l.initial.self-inside.words.items;
  done : (i : ℕ) → i < l.k → get_or l.self-inside.words.items i 0 ≡ bit_or (get_or l.initial.self-inside.words.items i 0) (get_or l.other-inside.words.items i 0);
  later : (i : ℕ) → l.k ≤ i → get_or l.self-inside.words.items i 0 ≡ get_or l.initial.self-inside.words.items i 0;
}
