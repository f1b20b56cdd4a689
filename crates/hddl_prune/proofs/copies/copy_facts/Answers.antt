use Rattle.hddl_prune.proofs.CopySteps.{taken_next}
use Rattle.hddl_prune.proofs.copies.copy_facts.Goals as goal

pub loop-i-preserved : goal.loop-i-preserved
loop-i-preserved c = taken_next c.args.facts.now c.loop-i.i c.loop-i.copies c.put_fact.new.into c.loop-i.invariant c.in_ok-put_fact.ensures
