use Rattle.std.proofs.Common.{◌≡◌, length}
use Rattle.problem_index.specs.Kinds.{AreInOrder}
use Rattle.problem_index.proofs.kinds.Kinds.of.Given as goal

abbrev pub invariant-loop-ty : goal.invariant-loop-ty
invariant-loop-ty l = (length l.kinds.items ≡ l.ty) × AreInOrder l.types l.objects l.kinds.items
