use Rattle.std.proofs.Common.{◌≡◌, take}
use Rattle.htn_base.proofs.packed.PackedPart.copy_into.Given as goal

abbrev pub invariant-loop-j : goal.invariant-loop-j
invariant-loop-j l = l.into.items ≡ take l.j l.self
