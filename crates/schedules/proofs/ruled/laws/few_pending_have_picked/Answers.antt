use Rattle.schedules.proofs.ruled.PickedPlans.{few_pending_have_picked}
use Rattle.schedules.proofs.ruled.laws.few_pending_have_picked.Goals as goal

pub returns : goal.returns
returns g c = few_pending_have_picked g.P.Picking.net c.requires.lawful g.P.Picking.picks
