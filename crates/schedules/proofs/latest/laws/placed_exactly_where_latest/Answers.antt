use Rattle.schedules.proofs.latest.Theorem.{exactly}
use Rattle.schedules.proofs.latest.laws.placed_exactly_where_latest.Goals as goal

pub returns : goal.returns
returns g c = exactly g.P.Placement.net g.P.Placement.allowed c.requires.decided
