use Rattle.std.proofs.Common.{◌≡◌, length}
use Rattle.public_calls.proofs.values.tool_names.Given as goal

abbrev pub invariant-loop-number : goal.invariant-loop-number
invariant-loop-number l = length l.names ≡ l.number
