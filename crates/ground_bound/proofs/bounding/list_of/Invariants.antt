use Rattle.std.proofs.Common.{◌≡◌, take}
use Rattle.ground_bound.proofs.bounding.list_of.Given as goal

abbrev pub invariant-loop-n : goal.invariant-loop-n
invariant-loop-n l = l.list ≡ take l.n-index l.numbers
