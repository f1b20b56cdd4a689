use Rattle.schedules.proofs.latest.Theorem.{only_latest, only_schedule}
use Rattle.schedules.proofs.latest.laws.latest_schedule_is_the_only_one.Goals as goal

pub returns-clause-gaps : goal.returns-clause-gaps
returns-clause-gaps g c = only_latest g.P.Placement.net g.P.Placement.allowed

pub returns-clause-schedule : goal.returns-clause-schedule
returns-clause-schedule g c = only_schedule g.P.Placement.net g.P.Placement.allowed
