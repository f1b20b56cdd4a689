use Rattle.std.proofs.Common.{◌≡◌, length}
use Rattle.hplan_text.specs.Showing.{HaveNumbers}
use Rattle.hplan_text.proofs.showing.ids_of.Given as goal

abbrev pub invariant-loop-id : goal.invariant-loop-id
invariant-loop-id l = (length l.ids.items ≡ l.size) × HaveNumbers l.size l.id l.places l.ids.items
