use Rattle.std.proofs.Common.{◌≡◌, take}
use Rattle.name_binding.proofs.table.TypeTable.unions_of.Given as goal

abbrev pub invariant-loop-members : goal.invariant-loop-members
invariant-loop-members l = l.lists ≡ take l.members-index l.members-items
