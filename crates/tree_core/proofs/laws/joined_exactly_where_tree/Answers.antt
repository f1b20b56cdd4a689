use Rattle.tree_core.proofs.Joined.{joined}
use Rattle.tree_core.proofs.Built.{built}
use Rattle.tree_core.proofs.laws.joined_exactly_where_tree.Goals as goal

pub returns : goal.returns
returns g c growths = (built g.N.Network.net growths, λ t. joined g.N.Network.net growths t.0 t.1 t.2)
