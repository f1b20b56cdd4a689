use Rattle.std.proofs.Common.{ℕ, ◌≡◌, ◌<◌, length, slice_get, Some, All}
use Rattle.tree_core.specs.declared.tree.Node.{Node}
use Rattle.tree_core.specs.Tables.{Row, table}
use Rattle.tree_core.specs.Labels.{labels, growths_of}
use Rattle.tree_core.specs.Nodes.{rows_of}
use Rattle.tree_core.specs.Growing.{OfTree}
use Rattle.tree_core.proofs.rows.nodes_of.Given as goal

abbrev pub invariant-loop-place : goal.invariant-loop-place
invariant-loop-place l = (length l.kept ≡ l.place) × All (λ (node : Node). node.growth < length l.steps) l.kept
    × OfTree (growths_of l.steps) (λ tree order. (k : ℕ) (r : Row labels) → k < l.place → slice_get (table labels tree) k ≡ Some r → slice_get (rows_of l.steps l.kept) k ≡ Some r)
