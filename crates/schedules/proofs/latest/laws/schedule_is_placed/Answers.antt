use Rattle.schedules.proofs.latest.Theorem.{placed}
use Rattle.schedules.proofs.latest.laws.schedule_is_placed.Goals as goal

pub returns : goal.returns
returns g c = placed g.P.Placement.net g.P.Placement.allowed
