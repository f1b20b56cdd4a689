use Rattle.tree_core.proofs.GrowthLaws.{growths_have_one_tree}
use Rattle.tree_core.proofs.laws.growths_have_one_tree.Goals as goal

pub returns : goal.returns
returns g c = growths_have_one_tree g.N.Network.net
