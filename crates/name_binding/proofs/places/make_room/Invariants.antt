use Rattle.std.proofs.Common.{◌≡◌, ◌+◌, ◌-◌, ℕ, length}
use Rattle.name_binding.specs.Places.{cell}
use Rattle.name_binding.proofs.places.make_room.Given as goal

abbrev pub invariant-loop-cells : goal.invariant-loop-cells
invariant-loop-cells l = (n : ℕ) → cell l.cells.items n ≡ cell l.initial.cells.items n

abbrev pub decreases-loop-cells : goal.decreases-loop-cells
decreases-loop-cells l = l.cell + 1 - length l.cells.items
