use Rattle.std.proofs.Common.{ℕ, ◌≡◌, List, length}
use Rattle.plan_model.specs.task_networks.Tree.{Tree, Address}
use Rattle.plan_model.specs.plan_meaning.Network.{network}
use Rattle.schedule_queue.specs.Orders.{IsSetting}
use Rattle.schedule_queue.proofs.Ordering.{IsSoFar}
use Rattle.schedule_queue.proofs.order.scheduled_order.Given as goal

abbrev pub invariant-loop-step : goal.invariant-loop-step
invariant-loop-step l = record {
  many : length l.order ≡ l._step;
  so_far : (T : Tree (network l.c)) (plan : List Address) (gap : Address → ℕ) (s : IsSetting l.c l.tree l.actions l.gaps T plan gap)
      → IsSoFar l.c l.tree l.actions l.gaps T plan gap s l.order l.queue;
}
