use Rattle.std.proofs.Common.{ℕ, ◌≡◌, ◌<◌, List, length, slice_index}
use Rattle.plan_model.specs.task_networks.Tree.{Tree, Address}
use Rattle.plan_model.specs.plan_meaning.Network.{network}
use Rattle.schedule_queue.specs.Children.{below}
use Rattle.schedule_queue.specs.Given.{IsGiven, AreRightBefore}
use Rattle.schedule_queue.proofs.queue.Queue.new.Given as goal

abbrev pub invariant-loop-address : goal.invariant-loop-address
invariant-loop-address l = record {
  many_unfinished : length l.unfinished.items ≡ l.address;
  many_blocked : length l.blocked.items ≡ l.address;
  unfinished : (k : ℕ) → k < l.address → slice_index l.unfinished.items k ≡ length (below l.given.children.now k);
  blocked : (T : Tree (network l.given.c.now)) (plan : List Address) (gap : Address → ℕ) → IsGiven l.given T plan gap
      → (k : ℕ) → k < l.address → AreRightBefore (network l.given.c.now) T k (slice_index l.blocked.items k);
}
