use Rattle.slot_machine.proofs.Theorem.{runs_are_spelled_fronts}
use Rattle.slot_machine.proofs.laws.runs_are_spelled_fronts.Goals as goal

pub returns : goal.returns
returns g c = runs_are_spelled_fronts g.N.Network.net c.requires.lawful
