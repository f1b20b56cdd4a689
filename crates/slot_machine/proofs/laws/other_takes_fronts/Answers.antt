use Rattle.slot_machine.proofs.OtherMachines.{takes_fronts}
use Rattle.slot_machine.proofs.laws.other_takes_fronts.Goals as goal

pub returns : goal.returns
returns g c = λ b top positive agrees. takes_fronts g.M.OtherMachine.net c.requires.lawful g.M.OtherMachine.read g.M.OtherMachine.takes b top positive agrees
