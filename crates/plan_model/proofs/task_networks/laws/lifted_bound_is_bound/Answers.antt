use Rattle.plan_model.proofs.task_networks.BoundLaws.{lifted_bound_is_bound}
use Rattle.plan_model.proofs.task_networks.laws.lifted_bound_is_bound.Goals as goal

pub returns : goal.returns
returns g c = lifted_bound_is_bound g.L.Lifting.net g.L.Lifting.lifted g.L.Lifting.work g.L.Lifting.method
