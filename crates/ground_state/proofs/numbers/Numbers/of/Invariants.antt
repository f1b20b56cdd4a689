use Rattle.std.proofs.Common.{◌≡◌, ◌+◌, ◌<◌, ◌^◌, drop, Some}
use Rattle.ground_state.specs.Numbers.{number_of}
use Rattle.ground_state.proofs.numbers.Numbers.of.Given as goal

-- the number of the objects from here on
abbrev pub invariant-loop-i : goal.invariant-loop-i
invariant-loop-i l = (number_of l.self (drop l.i l.objects) ≡ Some l.number) × (l.number + 1 < 2 ^ 32)
