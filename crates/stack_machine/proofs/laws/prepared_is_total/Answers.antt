use Rattle.stack_machine.proofs.StackPlans.{prepared_is_total}
use Rattle.stack_machine.proofs.laws.prepared_is_total.Goals as goal

pub returns : goal.returns
returns g c = prepared_is_total g.N.Network.net
