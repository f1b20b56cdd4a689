use Rattle.schedules.proofs.ruled.TakesPicked.{takes_picked}
use Rattle.schedules.proofs.ruled.laws.takes_picked_fronts.Goals as goal

pub returns : goal.returns
returns g c = λ b top positive agrees. takes_picked g.M.NarrowedMachine.net c.requires.lawful (g.M.NarrowedMachine.picks b top) b top positive g.M.NarrowedMachine.fits g.M.NarrowedMachine.takes agrees
