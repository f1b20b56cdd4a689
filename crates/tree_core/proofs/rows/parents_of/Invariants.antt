use Rattle.std.proofs.Common.{ℕ, ◌≡◌, ◌<◌, length, slice_get, Some}
use Rattle.tree_core.specs.Tables.{Row, table}
use Rattle.tree_core.specs.Labels.{labels, growths_of}
use Rattle.tree_core.specs.Growing.{OfTree}
use Rattle.tree_core.proofs.rows.parents_of.Given as goal

abbrev pub invariant-loop-node : goal.invariant-loop-node
invariant-loop-node l = (length l.parents.items ≡ l.node-index)
    × OfTree (growths_of l.steps) (λ tree order. (k : ℕ) (r : Row labels) → k < l.node-index → slice_get (table labels tree) k ≡ Some r → slice_get l.parents.items k ≡ Some r.parent)
