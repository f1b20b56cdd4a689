use Rattle.std.proofs.Common.{◌≡◌, take}
use Rattle.hddl_prune.proofs.copies.copy_facts.Given as goal

abbrev pub invariant-loop-i : goal.invariant-loop-i
invariant-loop-i l = l.copies ≡ take l.i l.facts
