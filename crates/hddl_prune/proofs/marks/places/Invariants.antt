use Rattle.std.proofs.Common.{◌≡◌, take}
use Rattle.hddl_prune.specs.Places.{places_from}
use Rattle.hddl_prune.proofs.marks.places.Given as goal

abbrev pub invariant-loop-n : goal.invariant-loop-n
invariant-loop-n l = l.numbers ≡ places_from 0 (take l.n l.flags)
