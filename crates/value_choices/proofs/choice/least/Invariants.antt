use Rattle.std.proofs.Common.{ℕ, ◌≡◌, ◌<◌, length, get_or, slice_get, Some}
use Rattle.value_choices.specs.declared.range.Range.{Range}
use Rattle.value_choices.specs.Ranges.{options, IsLeastFrom}
use Rattle.value_choices.proofs.choice.least.Given as goal

abbrev pub invariant-loop-range : goal.invariant-loop-range
invariant-loop-range l = record {
  as_many : length l.values.items ≡ l.range-index;
  each : (i : ℕ) (r : Range) → i < l.range-index → slice_get l.ranges i ≡ Some r → IsLeastFrom (options r) 0 (get_or l.values.items i 0);
}
