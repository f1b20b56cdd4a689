use Rattle.std.proofs.Common.{◌≡◌, ◌+◌, length}
use Rattle.hplan_text.specs.Marks.{among, has}
use Rattle.hplan_text.proofs.Walked.{rest, IsOnTheWay}
use Rattle.hplan_text.proofs.reaching.reached.Given as goal

abbrev pub decreases-loop-id : goal.decreases-loop-id
decreases-loop-id l = length l.todo.items + rest (has l.ids l.reached.items) l.plan.nodes

abbrev pub invariant-loop-id : goal.invariant-loop-id
invariant-loop-id l = record { sized : length l.reached.items ≡ length l.ids; way : IsOnTheWay l.plan (among l.ids) (has l.ids l.reached.items) l.todo.items }
