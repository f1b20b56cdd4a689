use Rattle.slot_machine.proofs.Theorem.{labels_are_of_acts}
use Rattle.slot_machine.proofs.laws.labels_are_of_acts.Goals as goal

pub returns : goal.returns
returns g c = labels_are_of_acts g.N.Network.net
