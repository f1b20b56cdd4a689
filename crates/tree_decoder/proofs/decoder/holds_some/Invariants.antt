use Rattle.std.proofs.Common.{ℕ, ◌≡◌, ◌≤◌, ◌<◌, None}
use Rattle.kept_front.specs.Leaves.{leaf_at}
use Rattle.tree_decoder.proofs.decoder.holds_some.Given as goal

abbrev pub invariant-loop-slot : goal.invariant-loop-slot
invariant-loop-slot l = (x : ℕ) → 1 ≤ x → x < l.slot → leaf_at l.front.leaves x ≡ None
