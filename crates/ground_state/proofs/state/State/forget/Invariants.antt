use Rattle.ground_state.specs.States.{IsSame}
use Rattle.ground_state.proofs.state.State.forget.Given as goal

abbrev pub invariant-loop-atom : goal.invariant-loop-atom
invariant-loop-atom l = IsSame l.fn.self l.self
