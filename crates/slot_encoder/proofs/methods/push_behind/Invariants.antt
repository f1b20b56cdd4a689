use Rattle.std.proofs.Common.{◌≡◌, ◌++◌, map, take}
use Rattle.slot_encoder.specs.Made as made
use Rattle.slot_encoder.proofs.methods.push_behind.Given as goal

abbrev pub invariant-loop-one : goal.invariant-loop-one
invariant-loop-one l = l.into ≡ l.initial.into ++ map (made.constraint l.frame l.front) (take l.one-index l.plan.schema.constraints)
