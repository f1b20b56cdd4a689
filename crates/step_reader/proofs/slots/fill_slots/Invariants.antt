use Rattle.std.proofs.Common.{take}
use Rattle.ground_state.specs.Runs.{texts}
use Rattle.step_reader.specs.Arguments.{AreNamedBy}
use Rattle.step_reader.proofs.slots.fill_slots.Given as goal

-- the slots of the words so far are written down
abbrev pub invariant-loop-word : goal.invariant-loop-word
invariant-loop-word l = AreNamedBy l.slots (take l.word-index (texts l.words)) l.into.items
