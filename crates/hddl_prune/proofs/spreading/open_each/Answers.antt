use Rattle.std.proofs.Common.{sym, subst}
use Rattle.hddl_prune.specs.declared.reach.Reach.{Reach}
use Rattle.hddl_prune.specs.Search.{parts_of, kept_of, AreOpened}
use Rattle.hddl_prune.proofs.spreading.open_each.Goals as goal
use Rattle.hddl_prune.proofs.spreading.open_each.Goals.{in-Method+in_ok-try_method+then-branch+in_ok-set_subtasks, in-Method+in_ok-try_method+else-branch, in_default}

pub loop-waiter-preserved : goal.loop-waiter-preserved
loop-waiter-preserved c = elim c.match-waiter.branch [
  | in-Method+in_ok-try_method+then-branch+in_ok-set_subtasks w ↦
      (λ f. subst (λ (z : Reach). AreOpened c.args.h.now (parts_of c.args.live.now) (kept_of z)) (sym w.reach-is) (w.in_ok-try_method.ensures.tried.sound (c.loop-waiter.invariant f)))
  | in-Method+in_ok-try_method+else-branch w ↦
      (λ f. subst (λ (z : Reach). AreOpened c.args.h.now (parts_of c.args.live.now) (kept_of z)) (sym w.reach-is) (w.in_ok-try_method.ensures.tried.sound (c.loop-waiter.invariant f)))
  | in_default w ↦ (λ f. subst (λ (z : Reach). AreOpened c.args.h.now (parts_of c.args.live.now) (kept_of z)) (sym w.reach-is) (c.loop-waiter.invariant f))
]
