use Rattle.std.proofs.Common.{◌+◌, ◌∙◌, ap, sym, subst, length, arith}
use Rattle.std.proofs.lemmas.List.{length_push}
use Rattle.schedule_queue.proofs.Sound.{order_decided, pairs_of_children}
use Rattle.schedule_queue.proofs.Ordering.{IsSoFar, nothing_yet, one_more, next_node, no_next, as_many_taken}
use Rattle.schedule_queue.proofs.order.scheduled_order.Goals as goal

pub loop-step-init : goal.loop-step-init
loop-step-init c = record {
  many = ap length c.new-order.ensures.empty;
  so_far = λ T plan gap s.
      subst (λ z. IsSoFar c.args.c.now c.args.tree.now c.args.actions.now c.args.gaps.now T plan gap s z c.in_ok-queue.queue)
      (sym c.new-order.ensures.empty)
      (nothing_yet c.args.c.now c.args.tree.now c.args.actions.now c.args.gaps.now T plan gap s c.in_ok-queue.queue
      (c.in_ok-queue.ensures T plan gap
      (record {
        setting = s;
        pairs = pairs_of_children c.args.c.now c.requires.soundly;
        later = c.requires.later;
        children =
            c.in_ok-children.ensures c.args.c.now T s.rows_are;
      })));
}

pub loop-step-preserved : goal.loop-step-preserved
loop-step-preserved c = record {
  many = ap length c.in_ok-push.ensures.pushed ∙ length_push c.loop-step.order c.in-Some.next ∙ ap (λ z. z + 1) c.loop-step.invariant.many;
  so_far = λ T plan gap s. (
      let f = c.loop-step.invariant.so_far T plan gap s in
      let (p, n) = next_node c.args.c.now c.args.tree.now c.args.actions.now c.args.gaps.now T plan gap s
      (order_decided c.args.c.now c.requires.soundly)
      (pairs_of_children c.args.c.now c.requires.soundly) c.loop-step.order c.loop-step.queue f c.next.new.self c.in-Some.next
      c.in-Some.ensures in
      subst (λ z. IsSoFar c.args.c.now c.args.tree.now c.args.actions.now c.args.gaps.now T plan gap s z c.take.new.self)
      (sym c.in_ok-push.ensures.pushed)
      (one_more c.args.c.now c.args.tree.now c.args.actions.now c.args.gaps.now T plan gap s c.loop-step.order c.loop-step.queue
      c.next.new.self c.take.new.self c.in-Some.next p f n
      (c.in_ok-take.ensures T plan gap f.taken p
      (record {
        setting = s;
        pairs = pairs_of_children c.args.c.now c.requires.soundly;
        later = c.requires.later;
        children =
            c.in_ok-children.ensures c.args.c.now T s.rows_are;
      }) n.node n.out)));
}

pub returns-in_default : goal.returns-in_default
returns-in_default c = record {
  order = λ T plan gap s.
      no_next c.args.c.now c.args.tree.now c.args.actions.now c.args.gaps.now T plan gap s
      (order_decided c.args.c.now c.requires.soundly)
      (pairs_of_children c.args.c.now c.requires.soundly) c.loop-step.order c.loop-step.queue
      (c.loop-step.invariant.so_far T plan gap s)
      c.next.new.self c.in_default.ensures;
}

pub returns : goal.returns
returns c = record {
  order = λ T plan gap s.
      as_many_taken c.args.c.now c.args.tree.now c.args.actions.now c.args.gaps.now T plan gap s
      (order_decided c.args.c.now c.requires.soundly)
      (pairs_of_children c.args.c.now c.requires.soundly) c.loop-step.order c.loop-step.queue
      (c.loop-step.invariant.so_far T plan gap s)
      (let a = c.loop-step.invariant.many in let b = c.loop-step-test.false in let d = c.size-step-end.ensures.size in omega arith);
}
