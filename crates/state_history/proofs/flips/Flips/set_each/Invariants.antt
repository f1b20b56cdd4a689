use Rattle.std.proofs.Common.{take, Contains}
use Rattle.state_history.specs.Flips.{AreSet}
use Rattle.state_history.proofs.flips.Flips.set_each.Given as goal

abbrev pub invariant-loop-atom : goal.invariant-loop-atom
invariant-loop-atom l = AreSet l.fn.self (Contains (take l.atom-index l.atoms)) l.truth l.self
