use Rattle.std.proofs.Common.{ℕ, ◌≡◌, ◌-◌, ◌<◌, ◌≤◌, Some, length}
use Rattle.plan_model.specs.task_networks.Tree as Trees
use Rattle.tree_core.specs.Labels.{labels}
use Rattle.tree_core.specs.Runs.{label_in}
use Rattle.chosen_trees.specs.Growing.{IsKept}
use Rattle.chosen_trees.proofs.choosing.has_values.Given as goal

abbrev pub invariant-loop-label : goal.invariant-loop-label
invariant-loop-label l = record {
  within : l.address ≤ length l.tree;
  before : (k : ℕ) (label : Trees.Label labels) → k < l.address → label_in l.tree k ≡ Some label → IsKept l.c l.values k label;
}

abbrev pub decreases-loop-label : goal.decreases-loop-label
decreases-loop-label l = length l.tree - l.address
