use Rattle.std.proofs.Common.{ℕ, List}
use Rattle.plan_model.specs.task_networks.Tree.{Tree, Address}
use Rattle.plan_model.specs.plan_meaning.Network.{network}
use Rattle.schedule_queue.specs.Children.{IsNode}
use Rattle.schedule_queue.specs.Given.{IsGiven}
use Rattle.schedule_queue.specs.Kept.{IsWholeAt}
use Rattle.schedule_queue.proofs.queue.Queue.walk.Given as goal

abbrev pub invariant-loop-parent : goal.invariant-loop-parent
invariant-loop-parent l = (T : Tree (network l.given.c.now)) (plan : List Address) (gap : Address → ℕ) (taken : List Address)
    (p v : Address)
    → IsGiven l.given T plan gap → IsNode (network l.given.c.now) T l.address v
    → IsWholeAt (network l.given.c.now) T plan gap taken p v l.initial.self
    → (u : Address) × IsNode (network l.given.c.now) T l.whole u × IsWholeAt (network l.given.c.now) T plan gap taken p u l.self

abbrev pub decreases-loop-parent : goal.decreases-loop-parent
decreases-loop-parent l = l.whole
