use Rattle.std.proofs.Common.{◌≡◌, ◌++◌, map}
use Rattle.plan_model.specs.task_networks.Spelling.{numbers}
use Rattle.slot_encoder.specs.Made as made
use Rattle.slot_encoder.proofs.methods.push_method_params.Given as goal

abbrev pub invariant-loop-k : goal.invariant-loop-k
invariant-loop-k l = l.into ≡ l.initial.into ++ map (made.new_slot l.frame) (numbers 1 l.k)
