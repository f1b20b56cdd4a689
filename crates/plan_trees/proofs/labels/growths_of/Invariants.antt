use Rattle.std.proofs.Common.{◌≡◌, map, take}
use Rattle.plan_trees.specs.Sources.{growth}
use Rattle.plan_trees.proofs.labels.growths_of.Given as goal

abbrev pub invariant-loop-seed : goal.invariant-loop-seed
invariant-loop-seed l = l.growths ≡ map (growth l.c l.lines l.fits) (take l.seed-index l.seeds)
