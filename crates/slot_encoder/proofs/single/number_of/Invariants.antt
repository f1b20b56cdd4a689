use Rattle.std.proofs.Common.{◌≡◌, ◌^◌, drop, Some}
use Rattle.plan_model.specs.Numbers.{number}
use Rattle.slot_encoder.proofs.single.number_of.Given as goal

-- the number of the objects from here on
abbrev pub invariant-loop-i : goal.invariant-loop-i
invariant-loop-i l = number l.most (2 ^ 64) (drop l.i l.args) ≡ Some l.number
