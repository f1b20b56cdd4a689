use Rattle.plan_model.proofs.task_networks.ScheduleLaws.{earlier_subtrees_stand_before}
use Rattle.plan_model.proofs.task_networks.laws.earlier_subtrees_stand_before.Goals as goal

pub returns : goal.returns
returns g c = earlier_subtrees_stand_before g.N.Network.net
