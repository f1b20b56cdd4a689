use Rattle.schedules.proofs.ruled.FirstFree.{ruled_runs_are_picked}
use Rattle.schedules.proofs.ruled.first_free.ruled_runs_are_picked.Goals as goal

pub returns : goal.returns
returns g c = ruled_runs_are_picked g.R.SlotRule.net c.requires.lawful g.R.SlotRule.rule g.R.SlotRule.sees
