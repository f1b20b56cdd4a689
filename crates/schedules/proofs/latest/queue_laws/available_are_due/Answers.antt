use Rattle.schedules.proofs.latest.Queue.{available_are_due, start}
use Rattle.schedules.proofs.latest.queue_laws.available_are_due.Goals as goal

pub returns-clause-due : goal.returns-clause-due
returns-clause-due g c = available_are_due g.P.Placement.net g.P.Placement.allowed c.requires.pairs

pub returns-clause-start : goal.returns-clause-start
returns-clause-start g c = start g.P.Placement.net g.P.Placement.allowed c.requires.pairs
