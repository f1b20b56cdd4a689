use Rattle.std.proofs.Common.{◌≡◌, take}
use Rattle.hddl_prune.proofs.copies.copy_predicates.Given as goal

abbrev pub invariant-loop-predicate : goal.invariant-loop-predicate
invariant-loop-predicate l = l.copies ≡ take l.predicate-index l.listed
