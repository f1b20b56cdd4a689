use Rattle.std.proofs.Common.{◌≡◌, [], length, take, All}
use Rattle.name_binding.specs.Parents.{AreParentsOf}
use Rattle.name_binding.proofs.parents.parents_by_child.Given as goal

abbrev pub invariant-loop : goal.invariant-loop
invariant-loop l = (length l.parents.items ≡ l.counter) × All (λ set. set ≡ []) l.parents.items

abbrev pub invariant-loop-item : goal.invariant-loop-item
invariant-loop-item l = AreParentsOf l.types (take l.item-index l.listed) l.parents.items
