use Rattle.std.proofs.Common.{◌≡◌, ◌+◌, ◌<◌, ◌^◌, drop, Some}
use Rattle.plan_model.specs.plan_meaning.Truth.{values_of}
use Rattle.ground_state.specs.Numbers.{number_of}
use Rattle.ground_state.proofs.env.Env.number.Given as goal

-- the number of the objects from here on
abbrev pub invariant-loop-i : goal.invariant-loop-i
invariant-loop-i l = (number_of l.numbers (drop l.i (values_of l.self.values.items l.terms)) ≡ Some l.number) × (l.number + 1 < 2 ^ 32)
