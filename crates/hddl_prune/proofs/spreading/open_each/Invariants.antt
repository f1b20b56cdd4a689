use Rattle.hddl_prune.specs.Search.{parts_of, StaysOpened}
use Rattle.hddl_prune.proofs.spreading.open_each.Given as goal

abbrev pub invariant-loop-waiter : goal.invariant-loop-waiter
invariant-loop-waiter l = StaysOpened l.h (parts_of l.live) l.initial.reach l.reach
