use Rattle.kept_front.proofs.AllLater.{AreLaterUpTo}
use Rattle.kept_front.proofs.later.Later.all.Given as goal

abbrev pub invariant-loop-plan : goal.invariant-loop-plan
invariant-loop-plan l = AreLaterUpTo l.c.methods l.plan-index l.laters
