use Rattle.schedules.proofs.latest.Theorem.{latest}
use Rattle.schedules.proofs.latest.laws.latest_or_none.Goals as goal

pub returns : goal.returns
returns g c = latest g.P.Placement.net g.P.Placement.allowed c.requires.decided
