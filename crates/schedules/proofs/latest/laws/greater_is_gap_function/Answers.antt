use Rattle.schedules.proofs.latest.Theorem.{greater}
use Rattle.schedules.proofs.latest.laws.greater_is_gap_function.Goals as goal

pub returns : goal.returns
returns g c = greater g.P.Placement.net g.P.Placement.allowed
