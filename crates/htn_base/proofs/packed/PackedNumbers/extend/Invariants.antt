use Rattle.std.proofs.Common.{◌≡◌, ◌++◌, take}
use Rattle.htn_base.proofs.packed.PackedNumbers.extend.Given as goal

abbrev pub invariant-loop-n : goal.invariant-loop-n
invariant-loop-n l = l.self ≡ l.initial.self ++ take l.n-index l.numbers
