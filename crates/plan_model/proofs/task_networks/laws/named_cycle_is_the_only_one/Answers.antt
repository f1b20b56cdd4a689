use Rattle.plan_model.proofs.task_networks.StrataLaws.{named_cycle_is_the_only_one}
use Rattle.plan_model.proofs.task_networks.laws.named_cycle_is_the_only_one.Goals as goal

pub returns : goal.returns
returns g c = named_cycle_is_the_only_one g.E.Edges.source g.E.Edges.target g.E.Edges.edges g.E.Edges.bad
