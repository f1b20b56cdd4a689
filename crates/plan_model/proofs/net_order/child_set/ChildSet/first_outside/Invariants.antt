use Rattle.std.proofs.Common.{ℕ, ◌<◌, ◌/◌, IsTrue}
use Rattle.plan_model.specs.net_order.Words.{is_set}
use Rattle.plan_model.proofs.net_order.child_set.ChildSet.first_outside.Given as goal

abbrev pub invariant-loop-k : goal.invariant-loop-k
invariant-loop-k l = (i : ℕ) → i / 64 < l.k → IsTrue (is_set l.self-inside.words.items i) → IsTrue (is_set l.other-inside.words.items i)
