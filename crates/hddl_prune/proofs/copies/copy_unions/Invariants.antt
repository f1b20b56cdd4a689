use Rattle.std.proofs.Common.{◌≡◌, take}
use Rattle.hddl_prune.proofs.copies.copy_unions.Given as goal

abbrev pub invariant-loop-members : goal.invariant-loop-members
invariant-loop-members l = l.copies ≡ take l.members-index l.listed
