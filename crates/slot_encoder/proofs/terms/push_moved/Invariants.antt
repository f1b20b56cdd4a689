use Rattle.std.proofs.Common.{◌≡◌, ◌++◌, map, take}
use Rattle.slot_encoder.specs.Made as made
use Rattle.slot_encoder.proofs.terms.push_moved.Given as goal

abbrev pub invariant-loop-term : goal.invariant-loop-term
invariant-loop-term l = l.into ≡ l.initial.into ++ map (made.term l.frame l.front) (take l.term-index l.terms)
