use Rattle.tree_core.proofs.GrowthLaws.{order_is_listed, schedules_are_growths}
use Rattle.tree_core.proofs.laws.schedules_are_growths.Goals as goal

pub returns-clause-listed : goal.returns-clause-listed
returns-clause-listed g c = order_is_listed g.N.Network.net

pub returns-clause-growths : goal.returns-clause-growths
returns-clause-growths g c = schedules_are_growths g.N.Network.net
