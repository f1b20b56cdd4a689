use Rattle.std.proofs.Common.{◌≡◌, ◌++◌, drop}
use Rattle.hplan_text.specs.Showing.{primitives_among}
use Rattle.hplan_text.proofs.showing.put_primitives.Given as goal

abbrev pub invariant-loop-place : goal.invariant-loop-place
invariant-loop-place l = l.places.items ++ primitives_among l.tree (drop l.place-index l.order) ≡ l.initial.places.items ++ primitives_among l.tree l.order
