use Rattle.hddl_prune.specs.Search.{StaysFound}
use Rattle.hddl_prune.proofs.spreading.try_waiters.Given as goal

abbrev pub invariant-loop-waiter : goal.invariant-loop-waiter
invariant-loop-waiter l = StaysFound l.h l.initial.live l.live
