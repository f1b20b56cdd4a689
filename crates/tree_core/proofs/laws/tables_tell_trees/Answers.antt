use Rattle.tree_core.proofs.TableRows.{tables_tell_trees}
use Rattle.tree_core.proofs.laws.tables_tell_trees.Goals as goal

pub returns : goal.returns
returns g c = tables_tell_trees g.N.Network.net
