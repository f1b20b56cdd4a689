use Rattle.std.proofs.Common.{refl}
use Rattle.hddl_bind.specs.Callables.{second_in}
use Rattle.hddl_bind.proofs.Steps.{noted_step}
use Rattle.hddl_bind.proofs.callables.Callables.seconds_among.Goals as goal

pub loop-callable-preserved : goal.loop-callable-preserved
loop-callable-preserved c =
    noted_step c.args.callables.now c.loop-callable.callable-index _ _ c.loop-callable-test.true refl
    (second_in c.args.self.now) _ _ _ c.loop-callable.invariant c.note_second.ensures.faults
