use Rattle.std.proofs.Common.{take}
use Rattle.hddl_prune.specs.Search.{kept_of, MarksHeads, IsHeadOf}
use Rattle.hddl_prune.proofs.reach.Reach.mark_all.Given as goal

abbrev pub invariant-loop-child : goal.invariant-loop-child
invariant-loop-child l = MarksHeads (IsHeadOf (take l.child-index l.children)) (kept_of l.initial.self) (kept_of l.self)
