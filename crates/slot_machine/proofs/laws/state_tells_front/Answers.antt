use Rattle.slot_machine.proofs.Theorem.{state_tells_front}
use Rattle.slot_machine.proofs.laws.state_tells_front.Goals as goal

pub returns : goal.returns
returns g c = state_tells_front g.N.Network.net c.requires.lawful
