use Rattle.plan_model.proofs.task_networks.ScheduleLaws.{prepared_is_lawful}
use Rattle.plan_model.proofs.task_networks.laws.prepared_is_lawful.Goals as goal

pub returns : goal.returns
returns g c = prepared_is_lawful g.N.Network.net
