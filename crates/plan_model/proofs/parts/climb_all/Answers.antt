use Rattle.plan_model.proofs.Marks.{further_none, further_twice}
use Rattle.plan_model.proofs.parts.climb_all.Goals as goal

pub loop-pair-init : goal.loop-pair-init
loop-pair-init c = further_none c.args.parents.now c.args.marks.now

pub loop-pair-preserved : goal.loop-pair-preserved
loop-pair-preserved c = further_twice c.args.parents.now c.args.marks.now c.loop-pair.marks c.climb.new.marks c.loop-pair.invariant c.climb.ensures.further
