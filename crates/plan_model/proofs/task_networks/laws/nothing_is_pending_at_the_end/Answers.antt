use Rattle.plan_model.proofs.task_networks.ScheduleLaws.{nothing_is_pending_at_the_end}
use Rattle.plan_model.proofs.task_networks.laws.nothing_is_pending_at_the_end.Goals as goal

pub returns : goal.returns
returns g c = nothing_is_pending_at_the_end g.N.Network.net
