use Rattle.std.proofs.Common.{◌≡◌, ◌++◌, map, take}
use Rattle.name_binding.specs.Parents.{parent}
use Rattle.name_binding.proofs.parents.put_pairs.Given as goal

abbrev pub invariant-loop-parent : goal.invariant-loop-parent
invariant-loop-parent l = l.into ≡ l.fn.into ++ map (parent l.fn.child) (take l.parent-index l.parents)
