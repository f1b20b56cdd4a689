use Rattle.schedules.proofs.ruled.PickedPlans.{picked_is_the_only_one}
use Rattle.schedules.proofs.ruled.laws.picked_is_the_only_one.Goals as goal

pub returns : goal.returns
returns g c = picked_is_the_only_one g.P.Picking.net c.requires.lawful g.P.Picking.picks
