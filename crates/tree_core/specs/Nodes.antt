-- The nodes that a tree keeps, as rows: each names its growth, with which its label stands, and its child number, if it has a parent.
use Rattle.std.specs.Prelude.{ℕ, ◌<◌, ◌^◌, List, [], length, map, All, Option, Some, None, slice_get}
use Rattle.plan_model.specs.task_networks.Tree.{ran}
use Rattle.plan_model.specs.plan_meaning.Network.{check}
use Rattle.tree_core.specs.declared.growth.Growth as Grown
use Rattle.tree_core.specs.declared.tree.Node.{Node}
use Rattle.tree_core.specs.Tables.{Row}
use Rattle.tree_core.specs.Labels.{labels, label_of}

-- the row of a node whose growth is this, which has a parent or none
abbrev pub row_under : Node → Grown.Growth → Option ℕ → Row labels
row_under node growth None = record { label = label_of growth.label; parent = None; number = 0; end = node.end }
row_under node growth (Some x) = record { label = label_of growth.label; parent = Some node.parent; number = growth.child; end = node.end }

-- where there is no growth, this says nothing
abbrev pub row_with : Node → Option Grown.Growth → Row labels
row_with node None = record { label = ran (check 0 []); parent = None; number = 0; end = node.end }
row_with node (Some growth) = row_under node growth growth.parent

abbrev pub row_of : List Grown.Growth → Node → Row labels
row_of growths node = row_with node (slice_get growths node.growth)

abbrev pub rows_of : List Grown.Growth → List Node → List (Row labels)
rows_of growths nodes = map (row_of growths) nodes

-- each node has a growth, and each address has 32 bits
pub record AreNodesOf (growths : List Grown.Growth) (nodes : List Node) : Type 0 where
  pub few : length nodes < 2 ^ 32
  pub each : All (λ (node : Node). node.growth < length growths) nodes
