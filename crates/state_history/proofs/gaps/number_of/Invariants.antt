use Rattle.std.proofs.Common.{◌≡◌, drop, Some}
use Rattle.state_history.specs.Gaps.{number_of}
use Rattle.state_history.proofs.gaps.number_of.Given as goal

-- the number of the items from here on
abbrev pub invariant-loop-i : goal.invariant-loop-i
invariant-loop-i l = number_of l.most (drop l.i l.key) ≡ Some l.number
