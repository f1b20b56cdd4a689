use Rattle.problem_index.proofs.PlaceLaws.{AreNoted}
use Rattle.problem_index.proofs.places.Places.of.Given as goal

abbrev pub invariant-loop-place : goal.invariant-loop-place
invariant-loop-place g l = AreNoted g.T.Named.named l.things l.count l.place l.places.by_name.items
