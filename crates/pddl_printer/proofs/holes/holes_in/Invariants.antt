use Rattle.std.proofs.Common.{◌≡◌, take}
use Rattle.pddl_printer.specs.Holes.{holes_among}
use Rattle.pddl_printer.proofs.holes.holes_in.Given as goal

abbrev pub invariant-loop-term : goal.invariant-loop-term
invariant-loop-term l = l.count ≡ holes_among l.depth (take l.term-index l.terms)
