use Rattle.std.proofs.Common.{◌<◌}
use Rattle.tree_core.specs.Labels.{growths_of}
use Rattle.tree_core.specs.Growing.{IsLeast}
use Rattle.tree_core.proofs.defects.first_defect.Given as goal

abbrev pub invariant-loop-place : goal.invariant-loop-place
invariant-loop-place l = IsLeast (growths_of l.steps) (λ k. k < l.place) l.least
