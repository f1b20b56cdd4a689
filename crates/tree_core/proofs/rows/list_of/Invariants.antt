use Rattle.std.proofs.Common.{◌≡◌, take}
use Rattle.tree_core.proofs.rows.list_of.Given as goal

abbrev pub invariant-loop-number : goal.invariant-loop-number
invariant-loop-number l = l.list ≡ take l.number-index l.numbers
