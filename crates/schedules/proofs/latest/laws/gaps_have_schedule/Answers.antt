use Rattle.schedules.proofs.latest.Theorem.{schedules}
use Rattle.schedules.proofs.latest.laws.gaps_have_schedule.Goals as goal

pub returns : goal.returns
returns g c = schedules g.P.Placement.net g.P.Placement.allowed c.requires.decided
