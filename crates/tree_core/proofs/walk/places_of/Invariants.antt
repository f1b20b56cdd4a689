use Rattle.std.proofs.Common.{◌≡◌, length}
use Rattle.tree_core.specs.Growing.{ArePlaces}
use Rattle.tree_core.proofs.walk.places_of.Given as goal

abbrev pub invariant-loop-place : goal.invariant-loop-place
invariant-loop-place l = (length l.places.items ≡ length l.nodes) × ArePlaces l.place l.nodes l.places.items
