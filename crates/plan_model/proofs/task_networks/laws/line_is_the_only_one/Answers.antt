use Rattle.plan_model.proofs.task_networks.ScheduleLaws.{line_is_the_only_one}
use Rattle.plan_model.proofs.task_networks.laws.line_is_the_only_one.Goals as goal

pub returns : goal.returns
returns g c = line_is_the_only_one g.N.Network.net
