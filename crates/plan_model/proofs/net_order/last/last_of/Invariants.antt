use Rattle.std.proofs.Common.{ℕ, ◌<◌, ◌≢◌, IsTrue}
use Rattle.plan_model.specs.net_order.Marks.{has}
use Rattle.plan_model.proofs.net_order.last.last_of.Given as goal

abbrev pub invariant-loop-j : goal.invariant-loop-j
invariant-loop-j l = (k : ℕ) → k < l.j → k ≢ l.child → IsTrue (has l.set k)
