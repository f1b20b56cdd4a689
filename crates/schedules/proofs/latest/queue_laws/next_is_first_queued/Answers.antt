use Rattle.schedules.proofs.latest.Queue.{nothing_is_late, next_is_first, then_primitive}
use Rattle.schedules.proofs.latest.queue_laws.next_is_first_queued.Goals as goal

pub returns-clause-late : goal.returns-clause-late
returns-clause-late g c = nothing_is_late g.P.Placement.net g.P.Placement.allowed c.requires.decided

pub returns-clause-first : goal.returns-clause-first
returns-clause-first g c = next_is_first g.P.Placement.net g.P.Placement.allowed c.requires.decided c.requires.pairs

pub returns-clause-primitive : goal.returns-clause-primitive
returns-clause-primitive g c = then_primitive g.P.Placement.net g.P.Placement.allowed c.requires.decided c.requires.pairs
