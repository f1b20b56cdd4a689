use Rattle.hddl_prune.specs.Search.{StaysFound}
use Rattle.hddl_prune.proofs.spreading.spread_by.Given as goal

abbrev pub invariant-loop : goal.invariant-loop
invariant-loop l = StaysFound l.h l.fn.live l.live
