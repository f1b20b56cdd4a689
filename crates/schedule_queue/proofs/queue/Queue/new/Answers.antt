use Rattle.std.proofs.Common.{ℕ, ◌≡◌, ◌+◌, ◌<◌, ◌∙◌, ◌∷◌, List, length, slice_index, refl, ap, sym, subst, arith}
use Rattle.std.proofs.lemmas.List.{length_push}
use Rattle.plan_model.specs.task_networks.Tree.{Address, IsAddress}
use Rattle.plan_model.specs.plan_meaning.Network.{network}
use Rattle.schedules.specs.latest.Queue.{HasCount}
use Rattle.schedule_queue.specs.Children.{below, IsNode}
use Rattle.schedule_queue.specs.Given.{AreRightBefore}
use Rattle.schedule_queue.proofs.Starting.{unfinished_first, starts, more_below, nothing_held, node_below}
use Rattle.schedule_queue.proofs.queue.Queue.new.Goals as goal

pub loop-address-preserved : goal.loop-address-preserved
loop-address-preserved c =
    let i = c.loop-address.invariant in
    let n = c.loop-address.address in
    record {
      many_unfinished = ap length c.in_ok-push.ensures.items ∙ length_push c.loop-address.unfinished.items _
          ∙ ap (λ z. z + 1) i.many_unfinished;
      many_blocked = ap length c.in_ok-push-2.ensures.items ∙ length_push c.loop-address.blocked.items _ ∙ ap (λ z. z + 1) i.many_blocked;
      unfinished = subst (λ (z : List ℕ). (k : ℕ) → k < n + 1 → slice_index z k ≡ length (below c.args.given.now.children.now k))
          (sym c.in_ok-push.ensures.items)
          (more_below (λ k v. v ≡ length
          (below c.args.given.now.children.now k)) c.loop-address.unfinished.items n _ i.many_unfinished i.unfinished
          (ap length c.below.ensures));
      blocked = λ T plan gap is. subst (λ (z : List ℕ). (k : ℕ) → k < n + 1
          → AreRightBefore (network c.args.given.now.c.now) T k (slice_index z k)) (sym c.in_ok-push-2.ensures.items)
          (more_below (AreRightBefore (network c.args.given.now.c.now) T) c.loop-address.blocked.items n _ i.many_blocked
          (i.blocked T plan gap is) (c.right_before.ensures T plan gap is));
    }

pub returns : goal.returns
returns c = λ T plan gap is.
    let i = c.loop-address.invariant in
    let within : (k : ℕ) (p : Address) → IsNode (network c.args.given.now.c.now) T k p → k < c.loop-address.address = λ k p h. (
    let a = node_below c.args.given.now.c.now T c.args.given.now.tree.now is.setting.rows_are k p h in
    let b = c.size-address-end.ensures.size in
    let d = c.loop-address-test.false in
    omega arith) in
    starts c.args.given.now.c.now c.args.given.now.tree.now c.args.given.now.actions.now c.args.given.now.gaps.now T plan gap is.setting
    is.pairs
    (record { unfinished = c.loop-address.unfinished; blocked = c.loop-address.blocked; waiting = c.new.result; passed = 0 })
    (λ k p h. subst (HasCount (λ j. IsAddress (network c.args.given.now.c.now) T (j ∷ p))) (sym (i.unfinished k (within k p h)))
    (unfinished_first (network c.args.given.now.c.now) T k p (below c.args.given.now.children.now k) h (is.children k)))
    (λ k p h. i.blocked T plan gap is k (within k p h) p h)
    (λ g k h. nothing_held c.new.result.keys (g, k) c.new.ensures.empty h)
    refl c.offer_one.new.self c.in_ok-offer_one.ensures
