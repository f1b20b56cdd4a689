use Rattle.std.proofs.Common.{◌≡◌, ◌+◌, length}
use Rattle.public_calls.proofs.values.objects.Given as goal

abbrev pub invariant-loop-ty : goal.invariant-loop-ty
invariant-loop-ty l = length l.objects + 1 ≡ l.ty
