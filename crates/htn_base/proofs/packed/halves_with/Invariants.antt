use Rattle.std.proofs.Common.{◌≡◌, take}
use Rattle.htn_base.proofs.packed.halves_with.Given as goal

abbrev pub invariant-loop-byte : goal.invariant-loop-byte
invariant-loop-byte l = l.halves.items ≡ take l.byte-index l.bytes.items
