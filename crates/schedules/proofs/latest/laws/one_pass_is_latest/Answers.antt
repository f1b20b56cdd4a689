use Rattle.schedules.proofs.latest.Theorem.{one_pass}
use Rattle.schedules.proofs.latest.laws.one_pass_is_latest.Goals as goal

pub returns : goal.returns
returns g c = one_pass g.P.Placement.net g.P.Placement.allowed c.requires.decided
