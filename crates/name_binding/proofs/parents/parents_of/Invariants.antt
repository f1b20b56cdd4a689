use Rattle.std.proofs.Common.{◌≡◌}
use Rattle.name_binding.specs.Parents.{pairs_below}
use Rattle.name_binding.proofs.parents.parents_of.Given as goal

abbrev pub invariant-loop-child : goal.invariant-loop-child
invariant-loop-child l = l.pairs ≡ pairs_below l.types l.listed l.child
