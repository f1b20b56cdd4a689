use Rattle.tree_core.proofs.OneTree.{table_is_of_one_tree}
use Rattle.tree_core.proofs.laws.table_is_of_one_tree.Goals as goal

pub returns : goal.returns
returns g c = table_is_of_one_tree g.N.Network.net
