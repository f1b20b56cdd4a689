use Rattle.std.proofs.Common.{◌≡◌, take}
use Rattle.bound_calc.specs.NoBound.{spaced}
use Rattle.ground_bound.proofs.CycleTexts.{begun}
use Rattle.ground_bound.proofs.ground_words.ground_cycle_words.Given as goal

abbrev pub invariant-loop-edge : goal.invariant-loop-edge
invariant-loop-edge l = l.text ≡ spaced (begun l.c (take l.edge-index l.edges))
