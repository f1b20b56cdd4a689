use Rattle.hddl_prune.specs.Search.{StaysFound}
use Rattle.hddl_prune.proofs.spreading.try_methods.Given as goal

abbrev pub invariant-loop-n : goal.invariant-loop-n
invariant-loop-n l = StaysFound l.h l.initial.live l.live
