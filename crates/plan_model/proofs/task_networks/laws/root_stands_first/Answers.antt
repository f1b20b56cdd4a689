use Rattle.plan_model.proofs.task_networks.ScheduleLaws.{root_stands_first}
use Rattle.plan_model.proofs.task_networks.laws.root_stands_first.Goals as goal

pub returns : goal.returns
returns g c = root_stands_first g.N.Network.net
