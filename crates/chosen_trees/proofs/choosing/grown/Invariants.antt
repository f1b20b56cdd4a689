use Rattle.std.proofs.Common.{◌-◌, ◌≤◌, length}
use Rattle.chosen_trees.specs.Growing.{AreGrowthsBefore}
use Rattle.chosen_trees.proofs.choosing.grown.Given as goal

abbrev pub invariant-loop-label : goal.invariant-loop-label
invariant-loop-label l = record {
  within : l.address ≤ length l.tree;
  growths : AreGrowthsBefore l.c l.values l.tree l.address l.growths;
}

abbrev pub decreases-loop-label : goal.decreases-loop-label
decreases-loop-label l = length l.tree - l.address
