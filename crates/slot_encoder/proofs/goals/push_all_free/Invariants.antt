use Rattle.std.proofs.Common.{◌≡◌, ◌++◌, map}
use Rattle.plan_model.specs.task_networks.Spelling.{numbers}
use Rattle.slot_encoder.specs.Made as made
use Rattle.slot_encoder.proofs.goals.push_all_free.Given as goal

abbrev pub invariant-loop-k : goal.invariant-loop-k
invariant-loop-k l = l.into ≡ l.initial.into ++ map (made.slot_free l.frame) (numbers l.frame.basis.now.order.first_slot l.k)
