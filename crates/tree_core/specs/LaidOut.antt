-- The nodes that growths have by their addresses, and these addresses in the order in which the growths come.
use Rattle.std.specs.Prelude.{ℕ, List}
use Rattle.tree_core.specs.declared.growth.Growth.{Growth}
use Rattle.tree_core.specs.declared.tree.Node.{Node}
use Rattle.tree_core.specs.Labels.{growths_of}
use Rattle.tree_core.specs.Nodes.{rows_of, AreNodesOf}
use Rattle.tree_core.specs.Runs.{IsRun}

pub record AreLaidOut (growths : List Growth) (nodes : List Node) (order : List ℕ) : Type 0 where
  pub nodes_are : AreNodesOf growths nodes
  pub run : IsRun (growths_of growths) (record { tree = rows_of growths nodes; order = order })
