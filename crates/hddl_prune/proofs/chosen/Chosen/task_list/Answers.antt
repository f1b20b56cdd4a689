use Rattle.std.proofs.Common.{get_or, refl}
use Rattle.hddl_prune.proofs.CopySteps.{only_next}
use Rattle.hddl_prune.proofs.chosen.Chosen.task_list.Goals as goal

pub loop-n-preserved : goal.loop-n-preserved
loop-n-preserved c =
    let ns = c.as_slice-numbers.result.now in
    let i = c.loop-n.n-index in
    only_next c.args.h.now.tasks ns i 0 (get_or ns i 0) c.loop-n.tasks c.put_task.new.into c.loop-n-test.true refl c.loop-n.invariant c.in_ok-put_task.ensures
