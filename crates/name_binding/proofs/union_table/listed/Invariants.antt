use Rattle.std.proofs.Common.{◌≡◌, take}
use Rattle.name_binding.proofs.union_table.listed.Given as goal

abbrev pub invariant-loop-number : goal.invariant-loop-number
invariant-loop-number l = l.list ≡ take l.number-index l.numbers
