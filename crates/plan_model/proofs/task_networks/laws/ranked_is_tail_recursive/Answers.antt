use Rattle.plan_model.proofs.task_networks.StrataLaws.{ranked_is_tail_recursive}
use Rattle.plan_model.proofs.task_networks.laws.ranked_is_tail_recursive.Goals as goal

pub returns : goal.returns
returns g c = ranked_is_tail_recursive g.E.Edges.source g.E.Edges.target g.E.Edges.edges g.E.Edges.bad
