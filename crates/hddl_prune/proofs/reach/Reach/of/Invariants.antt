use Rattle.std.proofs.Common.{◌-◌, length}
use Rattle.hddl_prune.specs.Search.{parts_of, kept_of, AreOpened, opened}
use Rattle.hddl_prune.proofs.reach.Reach.of.Given as goal

abbrev pub invariant-loop-reach : goal.invariant-loop-reach
invariant-loop-reach l = AreOpened l.h (parts_of l.live) (kept_of l.reach)

abbrev pub decreases-loop-reach : goal.decreases-loop-reach
decreases-loop-reach l = length l.h.methods - opened l.h (parts_of l.live) (kept_of l.reach)
