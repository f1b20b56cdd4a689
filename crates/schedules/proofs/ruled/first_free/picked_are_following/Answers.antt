use Rattle.schedules.proofs.ruled.FirstFree.{picked_are_following}
use Rattle.schedules.proofs.ruled.first_free.picked_are_following.Goals as goal

pub returns : goal.returns
returns g c = picked_are_following g.R.SlotRule.net c.requires.lawful g.R.SlotRule.rule g.R.SlotRule.sees
