use Rattle.slot_machine.proofs.Width.{bound_holds}
use Rattle.slot_machine.proofs.laws.width_is_bounded.Goals as goal

pub returns : goal.returns
returns g c = λ block number. bound_holds g.N.Network.net block number
