use Rattle.std.proofs.Common.{take}
use Rattle.ground_state.specs.States.{IsSame, AreNoted}
use Rattle.ground_state.proofs.state.State.enter.Given as goal

abbrev pub invariant-loop-atom : goal.invariant-loop-atom
invariant-loop-atom l = IsSame l.fn.self l.self × AreNoted (take l.atom-index l.atoms) l.self
