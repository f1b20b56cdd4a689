use Rattle.std.proofs.Common.{◌≡◌, take}
use Rattle.gap_pass.proofs.latest.list_of.Given as goal

abbrev pub invariant-loop-number : goal.invariant-loop-number
invariant-loop-number l = l.list ≡ take l.number-index l.numbers
