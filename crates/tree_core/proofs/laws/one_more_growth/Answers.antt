use Rattle.tree_core.proofs.GrowthLaws.{one_more}
use Rattle.tree_core.proofs.laws.one_more_growth.Goals as goal

pub returns : goal.returns
returns g c growths tree grown order growth p a same u l = one_more g.N.Network.net growths tree grown order a same growth p u l
