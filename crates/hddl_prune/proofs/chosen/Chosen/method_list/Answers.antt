use Rattle.std.proofs.Common.{get_or, refl}
use Rattle.live_parts.specs.Pruned.{renamed_method}
use Rattle.hddl_prune.specs.Chosen.{chosen}
use Rattle.hddl_prune.proofs.CopySteps.{mapped_next}
use Rattle.hddl_prune.proofs.chosen.Chosen.method_list.Goals as goal

pub loop-n-preserved : goal.loop-n-preserved
loop-n-preserved c =
    let ns = c.as_slice-numbers.result.now in
    let i = c.loop-n.n-index in
    mapped_next (renamed_method (chosen c.args.self.now)) c.args.h.now.methods ns i 0 (get_or ns i 0) c.loop-n.methods c.put_method.new.into c.loop-n-test.true refl c.loop-n.invariant c.in_ok-put_method.ensures
