use Rattle.schedules.proofs.latest.Queue.{counters_tell, taking_makes_whole, counters_fall}
use Rattle.schedules.proofs.latest.queue_laws.counters_tell.Goals as goal

pub returns-clause-tell : goal.returns-clause-tell
returns-clause-tell g c = counters_tell g.P.Placement.net g.P.Placement.allowed

pub returns-clause-whole : goal.returns-clause-whole
returns-clause-whole g c = taking_makes_whole g.P.Placement.net g.P.Placement.allowed

pub returns-clause-fall : goal.returns-clause-fall
returns-clause-fall g c = counters_fall g.P.Placement.net g.P.Placement.allowed
