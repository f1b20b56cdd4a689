use Rattle.schedules.proofs.latest.Theorem.{induces}
use Rattle.schedules.proofs.latest.laws.placed_induces_gaps.Goals as goal

pub returns : goal.returns
returns g c = induces g.P.Placement.net g.P.Placement.allowed
