use Rattle.std.proofs.Common.{ℕ, ◌≡◌, ◌<◌, false, [], length, get_or}
use Rattle.plan_model.specs.net_order.Marks.{marked}
use Rattle.plan_model.proofs.net_order.direct.empty_sets.Given as goal

abbrev pub invariant-loop : goal.invariant-loop
invariant-loop l = record {
  sets : length l.before.items ≡ l.counter;
  marks : (j : ℕ) → j < l.counter → length (get_or l.before.items j []) ≡ l.count;
  empty : (i j : ℕ) → j < l.counter → marked l.before.items i j ≡ false;
}
