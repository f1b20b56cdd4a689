use Rattle.ground_state.specs.States.{HasSameNotes}
use Rattle.ground_state.proofs.state.State.insert.Given as goal

abbrev pub invariant-loop-number : goal.invariant-loop-number
invariant-loop-number l = HasSameNotes l.fn.self l.self
