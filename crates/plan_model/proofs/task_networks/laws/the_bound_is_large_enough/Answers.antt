use Rattle.plan_model.proofs.task_networks.BoundLaws.{the_bound_is_large_enough}
use Rattle.plan_model.proofs.task_networks.laws.the_bound_is_large_enough.Goals as goal

pub returns : goal.returns
returns g c = the_bound_is_large_enough g.N.Network.net
