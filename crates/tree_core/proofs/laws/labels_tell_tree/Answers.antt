use Rattle.tree_core.proofs.Labels.{labels_tell_tree}
use Rattle.tree_core.proofs.laws.labels_tell_tree.Goals as goal

pub returns : goal.returns
returns g c = labels_tell_tree g.N.Network.net
