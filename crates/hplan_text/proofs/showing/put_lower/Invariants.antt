use Rattle.std.proofs.Common.{◌≡◌, ◌++◌, drop}
use Rattle.hplan_text.specs.Showing.{lower_among}
use Rattle.hplan_text.proofs.showing.put_lower.Given as goal

abbrev pub invariant-loop-place : goal.invariant-loop-place
invariant-loop-place l = l.places.items ++ lower_among l.tree (drop l.place-index l.order) ≡ l.initial.places.items ++ lower_among l.tree l.order
