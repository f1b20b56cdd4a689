use Rattle.tree_core.proofs.Unjoined.{unjoined_have_no_tree}
use Rattle.tree_core.proofs.laws.unjoined_have_no_tree.Goals as goal

pub returns : goal.returns
returns g c = unjoined_have_no_tree g.N.Network.net
