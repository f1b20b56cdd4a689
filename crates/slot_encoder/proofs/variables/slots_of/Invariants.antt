use Rattle.std.proofs.Common.{◌≡◌, ◌-◌, ◌++◌}
use Rattle.slot_encoding.specs.EncodedActions.{slot_vars}
use Rattle.slot_encoder.proofs.variables.slots_of.Given as goal

abbrev pub invariant-loop-i : goal.invariant-loop-i
invariant-loop-i l = l.slots ++ slot_vars l.heir l.i l.new (l.count - l.i) ≡ slot_vars l.heir 0 1 l.count
