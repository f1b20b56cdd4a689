use Rattle.std.proofs.Common.{◌+◌, length}
use Rattle.hddl_prune.specs.Search.{parts_of, many}
use Rattle.hddl_prune.proofs.LiveSteps.{many_few, settled_live, shrinks}
use Rattle.hddl_prune.proofs.live.Live.of.Goals as goal

pub loop-live-smaller : goal.loop-live-smaller
loop-live-smaller c =
    let h = c.args.h.now in
    let t = c.in_ok-try_all.ensures.tried in
    shrinks (length h.actions + length h.methods) (many h (parts_of c.loop-live.live)) (many h (parts_of c.try_all.new.self)) (t.more c.if-branch.true c.loop-live.invariant) (many_few h (parts_of c.try_all.new.self) (t.sound c.loop-live.invariant))

pub returns : goal.returns
returns c =
    let t = c.in_ok-try_all.ensures.tried in
    record { live = settled_live c.args.h.now (parts_of c.try_all.new.self) (t.sound c.loop-live.invariant) (t.same c.if-branch.false).1 }
