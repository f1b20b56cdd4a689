use Rattle.stack_machine.proofs.StackPlans.{other_takes_cells}
use Rattle.stack_machine.proofs.laws.other_takes_cells.Goals as goal

pub returns : goal.returns
returns g c = other_takes_cells g.M.OtherStack.net c.requires.lawful c.requires.total g.M.OtherStack.read g.M.OtherStack.takes
