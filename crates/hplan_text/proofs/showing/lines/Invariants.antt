use Rattle.std.proofs.Common.{◌≡◌, ◌++◌, drop}
use Rattle.hplan_text.specs.Showing.{lines_at}
use Rattle.hplan_text.proofs.showing.lines.Given as goal

abbrev pub invariant-loop-id : goal.invariant-loop-id
invariant-loop-id l = l.lines ++ lines_at l.c l.tree l.id (drop l.id l.places) ≡ lines_at l.c l.tree 0 l.places
