use Rattle.plan_model.proofs.task_networks.PendingNodes.{pending_iff, within_iff}
use Rattle.plan_model.proofs.task_networks.laws.pending_is_computed.Goals as goal

pub returns-clause-nodes : goal.returns-clause-nodes
returns-clause-nodes g c = pending_iff g.N.Network.net

pub returns-clause-width : goal.returns-clause-width
returns-clause-width g c = within_iff g.N.Network.net
