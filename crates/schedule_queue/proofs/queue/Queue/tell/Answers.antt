use Rattle.std.proofs.Common.{refl, subst}
use Rattle.std.proofs.lemmas.Result.{on_ok_weaker}
use Rattle.htn_base.specs.Different.{AreDifferent}
use Rattle.schedule_queue.specs.declared.queue.Queue.{Queue}
use Rattle.schedule_queue.specs.Queue.{AreLowered, AreOffered}
use Rattle.schedule_queue.proofs.Telling.{told}
use Rattle.schedule_queue.proofs.queue.Queue.tell.Goals as goal

pub returns : goal.returns
returns c =
    let old = c.args.self.now in
    let mid : Queue = record {
      unfinished = c.lower.new.counts;
      blocked = c.lower_all.new.counts;
      waiting = old.waiting;
      passed =
          old.passed;
    } in
    on_ok_weaker c.offer.result
    (λ o T plan gap taken p q i is here up w. (
    let are = c.in_ok-after.ensures T plan gap is in
    told c.args.given.now.c.now c.args.given.now.tree.now c.args.given.now.actions.now c.args.given.now.gaps.now T plan gap is.setting
    taken p
    i q c.args.whole c.args.parent here up old w c.in_ok-after.after.items are mid
    ((subst (λ z. AreDifferent z → AreLowered z old.blocked.items c.lower_all.new.counts.items) c.as_slice.ensures.value
    c.lower_all.ensures) (are i q here).0)
    c.lower.ensures.here c.lower.ensures.others refl refl c.offer.new.self
    (subst (λ z. AreOffered c.args.given.now.actions.now c.args.given.now.gaps.now z mid c.offer.new.self) c.as_slice-2.ensures.value o)))
    c.offer.ensures
