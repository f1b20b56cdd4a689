use Rattle.std.proofs.Common.{take}
use Rattle.htn_base.specs.Table.{AreKept}
use Rattle.htn_base.proofs.name.index_of.Given as goal

abbrev pub invariant-loop-number : goal.invariant-loop-number
invariant-loop-number l = AreKept l.index (take l.number l.words)
