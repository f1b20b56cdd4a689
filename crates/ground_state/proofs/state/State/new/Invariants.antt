use Rattle.std.proofs.Common.{take, Contains}
use Rattle.ground_state.specs.States.{Has}
use Rattle.ground_state.proofs.state.State.new.Given as goal

abbrev pub invariant-loop-i : goal.invariant-loop-i
invariant-loop-i l = Has l.state (Contains (take l.i l.atoms))
