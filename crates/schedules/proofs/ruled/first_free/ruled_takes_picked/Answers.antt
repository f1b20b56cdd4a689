use Rattle.schedules.proofs.ruled.FirstFree.{ruled_takes_picked}
use Rattle.schedules.proofs.ruled.first_free.ruled_takes_picked.Goals as goal

pub returns : goal.returns
returns g c = ruled_takes_picked g.M.RuledMachine.net c.requires.lawful g.M.RuledMachine.rule g.M.RuledMachine.sees g.M.RuledMachine.read g.M.RuledMachine.takes
