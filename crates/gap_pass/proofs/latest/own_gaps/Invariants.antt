use Rattle.std.proofs.Common.{take}
use Rattle.gap_pass.specs.Passes.{AreOwn}
use Rattle.gap_pass.proofs.latest.own_gaps.Given as goal

abbrev pub invariant-loop-number : goal.invariant-loop-number
invariant-loop-number l = AreOwn l.size (take l.number l.actions) l.own.items
