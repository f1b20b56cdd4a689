use Rattle.std.proofs.Common.{length, subst}
use Rattle.live_parts.specs.Kept.{Kept}
use Rattle.hddl_prune.specs.Search.{parts_of, kept_of, MarksHeads, IsHeadOf, opened}
use Rattle.hddl_prune.proofs.LiveSteps.{shrinks}
use Rattle.hddl_prune.proofs.ReachSteps.{top_opened, opened_few}
use Rattle.hddl_prune.proofs.reach.Reach.of.Goals as goal

pub loop-reach-init : goal.loop-reach-init
loop-reach-init c =
    let old : Kept = record { tasks = c.new.result; actions = c.new-2.result; methods = c.new-3.result } in
    let new : Kept = kept_of c.mark_all.new.self in
    c.in_ok-open.ensures.sound
    (top_opened c.args.h.now (parts_of c.args.live.now) old new c.new.ensures.none c.new-2.ensures.none c.new-3.ensures.none
    (subst (λ z. MarksHeads (IsHeadOf z) old new) c.as_slice.ensures.items c.in_ok-mark_all.ensures))

pub loop-reach-smaller : goal.loop-reach-smaller
loop-reach-smaller c =
    let h = c.args.h.now in
    let live = parts_of c.args.live.now in
    let t = c.in_ok-try_all.ensures.tried in
    shrinks (length h.methods) (opened h live (kept_of c.loop-reach.reach)) (opened h live (kept_of c.try_all.new.self)) (t.more c.if-branch.true c.loop-reach.invariant) (opened_few h live (kept_of c.try_all.new.self) (t.sound c.loop-reach.invariant))
