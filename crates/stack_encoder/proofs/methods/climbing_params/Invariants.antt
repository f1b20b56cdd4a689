use Rattle.std.proofs.Common.{◌≡◌, ◌++◌, map}
use Rattle.plan_model.specs.task_networks.Spelling.{numbers}
use Rattle.slot_encoder.specs.Made as slots
use Rattle.stack_encoder.proofs.methods.climbing_params.Given as goal

abbrev pub invariant-loop-k : goal.invariant-loop-k
invariant-loop-k l = l.into ≡ l.initial.into ++ map (slots.new_slot l.frame) (numbers 1 l.k)
