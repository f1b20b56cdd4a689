use Rattle.std.proofs.Common.{◌≡◌, take}
use Rattle.htn_base.proofs.name.NameTable.of.Given as goal

abbrev pub invariant-loop-number : goal.invariant-loop-number
invariant-loop-number l = l.table ≡ take l.number l.words
