use Rattle.std.proofs.Common.{ℕ, ◌≡◌, get_or, None}
use Rattle.node_conditions.proofs.conditions.none_found.Given as goal

abbrev pub invariant-loop-node : goal.invariant-loop-node
invariant-loop-node l = (k : ℕ) → get_or l.found.items k None ≡ None
