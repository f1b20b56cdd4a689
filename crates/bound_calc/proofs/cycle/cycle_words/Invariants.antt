use Rattle.std.proofs.Common.{◌≡◌, take}
use Rattle.bound_calc.specs.NoBound.{spaced}
use Rattle.bound_calc.proofs.Cycles.{begun}
use Rattle.bound_calc.proofs.cycle.cycle_words.Given as goal

abbrev pub invariant-loop-edge : goal.invariant-loop-edge
invariant-loop-edge l = l.text ≡ spaced (begun l.c (take l.edge-index l.edges))
