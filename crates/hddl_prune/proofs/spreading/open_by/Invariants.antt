use Rattle.hddl_prune.specs.Search.{parts_of, StaysOpened}
use Rattle.hddl_prune.proofs.spreading.open_by.Given as goal

abbrev pub invariant-loop : goal.invariant-loop
invariant-loop l = StaysOpened l.h (parts_of l.live) l.fn.reach l.reach
