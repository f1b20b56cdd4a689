use Rattle.slot_machine.proofs.Theorem.{front_is_the_only_one}
use Rattle.slot_machine.proofs.laws.front_is_the_only_one.Goals as goal

pub returns : goal.returns
returns g c = front_is_the_only_one g.N.Network.net c.requires.lawful
