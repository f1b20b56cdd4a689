use Rattle.std.proofs.Common.{◌≡◌, take}
use Rattle.htn_base.proofs.packed.PackedNumbers.widened.Given as goal

abbrev pub invariant-loop-i : goal.invariant-loop-i
invariant-loop-i l = l.words.items ≡ take l.i l.self
