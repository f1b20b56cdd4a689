use Rattle.std.proofs.Common.{[], subst}
use Rattle.ground_state.specs.Runs.{Takes}
use Rattle.public_program.proofs.by_hand.memory.takes_or_stays.Goals as goal

pub reaches_goal-requires : goal.reaches_goal-requires
reaches_goal-requires g c =
    let taken = subst (Takes _ c.in_ok-run.run' c.take.new.self) c.in-Ok-None.field-0-is c.in-Ok-None.ensures.taken in
    record { ready = (taken c.args.p.now [] c.in_ok-run.ensures.fresh).ready }

pub reaches_goal-requires-in-Err : goal.reaches_goal-requires-in-Err
reaches_goal-requires-in-Err g c = record { ready = (c.in-Err.ensures.unchanged c.args.p.now [] c.in_ok-run.ensures.fresh).ready }
