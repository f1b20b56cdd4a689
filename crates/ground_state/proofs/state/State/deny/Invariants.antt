use Rattle.std.proofs.Common.{take}
use Rattle.ground_state.specs.States.{Has, WithoutAll, KeepsNotes}
use Rattle.ground_state.proofs.state.State.deny.Given as goal

abbrev pub invariant-loop-atom : goal.invariant-loop-atom
invariant-loop-atom l = Has l.self (WithoutAll l.fn.self (take l.atom-index l.atoms)) × KeepsNotes l.fn.self l.self
