use Rattle.std.proofs.Common.{take}
use Rattle.bound_calc.specs.stratifier.NamedSearch.{AreFound, IsSourceOf}
use Rattle.bound_calc.proofs.stratifier.NamedDistances.{IsSourceUpTo}
use Rattle.bound_calc.proofs.stratifier.named.next_tasks.Given as goal

abbrev pub invariant-loop-task : goal.invariant-loop-task
invariant-loop-task l = AreFound (IsSourceOf l.sources (take l.task-index l.tasks)) l.distance l.initial.found.items l.found.items l.next.items

abbrev pub invariant-loop-source : goal.invariant-loop-source
invariant-loop-source l = AreFound (IsSourceUpTo l.sources l.tasks l.task-index l.source-items l.source-index) l.distance l.fn.found.items l.found.items l.next.items
