use Rattle.std.proofs.Common.{take}
use Rattle.ground_state.specs.States.{Has, WithAll, KeepsNotes}
use Rattle.ground_state.proofs.state.State.affirm.Given as goal

abbrev pub invariant-loop-atom : goal.invariant-loop-atom
invariant-loop-atom l = Has l.self (WithAll l.fn.self (take l.atom-index l.atoms)) × KeepsNotes l.fn.self l.self
