use Rattle.tree_core.proofs.Consistent.{has_tree, hangs_together}
use Rattle.tree_core.proofs.laws.consistent_exactly_where_table.Goals as goal

pub returns : goal.returns
returns g c rows = (has_tree g.N.Network.net rows, λ t. hangs_together g.N.Network.net rows t.0 t.1)
