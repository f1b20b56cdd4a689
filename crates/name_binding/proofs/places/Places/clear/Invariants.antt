use Rattle.std.proofs.Common.{length}
use Rattle.name_binding.proofs.Found.{IsClearing}
use Rattle.name_binding.proofs.places.Places.clear.Given as goal

abbrev pub invariant-loop-number : goal.invariant-loop-number
invariant-loop-number l = IsClearing l.self-inside.cells.items l.self-inside.numbers.items

abbrev pub decreases-loop-number : goal.decreases-loop-number
decreases-loop-number l = length l.self-inside.numbers.items
