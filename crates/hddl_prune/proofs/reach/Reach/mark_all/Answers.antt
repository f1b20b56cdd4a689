use Rattle.std.proofs.Common.{subst}
use Rattle.std.proofs.lemmas.List.{take_all}
use Rattle.hddl_prune.specs.Search.{kept_of, MarksHeads, IsHeadOf}
use Rattle.hddl_prune.proofs.ReachSteps.{heads_none, heads_next}
use Rattle.hddl_prune.proofs.reach.Reach.mark_all.Goals as goal

pub loop-child-init : goal.loop-child-init
loop-child-init c = heads_none c.args.children.now (kept_of c.args.self.now)

pub loop-child-preserved : goal.loop-child-preserved
loop-child-preserved c = heads_next c.args.children.now c.loop-child.child-index c.child-item.result c.child-item.result c.loop-child-test.true c.child-item.is
    (kept_of c.args.self.now) (kept_of c.loop-child.self) (kept_of c.mark.new.self) c.loop-child.invariant c.in_ok-mark.ensures

pub returns : goal.returns
returns c = subst (λ z. MarksHeads (IsHeadOf z) (kept_of c.args.self.now) (kept_of c.loop-child.self)) (take_all c.loop-child.child-index c.args.children.now c.loop-child-test.false) c.loop-child.invariant
