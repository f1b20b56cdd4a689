use Rattle.std.proofs.Common.{◌+◌, ◌-◌, length}
use Rattle.hddl_prune.specs.Search.{parts_of, AreFound, many}
use Rattle.hddl_prune.proofs.live.Live.of.Given as goal

abbrev pub invariant-loop-live : goal.invariant-loop-live
invariant-loop-live l = AreFound l.h (parts_of l.live)

abbrev pub decreases-loop-live : goal.decreases-loop-live
decreases-loop-live l = (length l.h.actions + length l.h.methods) - many l.h (parts_of l.live)
